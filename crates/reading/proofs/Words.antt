-- The word that a text is, by its length and its bytes: what a match on the words reads.
use mathlib.Core.Path.{◌≡◌, refl, ◌∙◌, sym, ap}
use mathlib.Core.Bool.{Bool, true, false, cond, ◌&&◌, and-false}
use mathlib.Core.List.{List, [], ◌∷◌}
use Prim.Native.Nat.{ℕ, suc}
use native.Mathlib.Omega.{arith}
use lib.Dec.{eqb}
use lib.ListN.{length, get_or}
use borrow.Author.Tests.{ne_eqb}
use Rattle.rules.specs.Compared.{same}
use Rattle.rules.specs.Text.{Word, fresh_word, checkpoint_word, send_word, receipt_word, line_word, failed_word, no_word, fresh_bytes, checkpoint_bytes, send_bytes, receipt_bytes, line_bytes, failed_bytes, word_of}

-- the bytes of t stand in s from place i on
abbrev pub reads : List ℕ → ℕ → List ℕ → Bool
reads s i [] = true
reads s i (c ∷ t) = eqb (get_or s i 0) c && reads s (suc i) t

reads_on : (a : ℕ) (s t : List ℕ) (i : ℕ) → reads (a ∷ s) (suc i) t ≡ reads s i t
reads_on a s [] i = refl
reads_on a s (c ∷ t) i = ap (λ (x : Bool). eqb (get_or s i 0) c && x) (reads_on a s t (suc i))

-- texts of one length are compared byte by byte
alike : (s t : List ℕ) → length s ≡ length t → same s t ≡ reads s 0 t
alike [] [] e = refl
alike [] (b ∷ t) e = absurd (omega (arith, e))
alike (a ∷ s) [] e = absurd (omega (arith, e))
alike (a ∷ s) (b ∷ t) e = ap (λ (x : Bool). eqb a b && x) (alike s t (omega (arith, e)) ∙ sym (reads_on a s t 0))

-- the word w where the bytes of t stand in s from place i on, else none
abbrev pub spelt : List ℕ → ℕ → List ℕ → Word → Word
spelt s i [] w = w
spelt s i (c ∷ t) w = cond (eqb (get_or s i 0) c) (spelt s (suc i) t w) no_word

both : (a b : Bool) (w : Word) → cond (a && b) w no_word ≡ cond a (cond b w no_word) no_word
both true b w = refl
both false b w = refl

spells : (s : List ℕ) (i : ℕ) (t : List ℕ) (w : Word) → cond (reads s i t) w no_word ≡ spelt s i t w
spells s i [] w = refl
spells s i (c ∷ t) w = both (eqb (get_or s i 0) c) (reads s (suc i) t) w ∙ ap (λ (v : Word). cond (eqb (get_or s i 0) c) v no_word) (spells s (suc i) t w)

-- texts of two lengths differ
unlike : (s t : List ℕ) {n : ℕ} → length s ≡ n → (n ≡ length t → ⊥) → same s t ≡ false
unlike [] [] e ne = absurd (ne (sym e))
unlike [] (b ∷ t) e ne = refl
unlike (a ∷ s) [] e ne = refl
unlike (a ∷ s) (b ∷ t) e ne = ap (λ (x : Bool). eqb a b && x) (unlike s t refl (λ h. ne (omega (arith, e, h)))) ∙ and-false (eqb a b)

-- the word by the six tests
abbrev picked : Bool → Bool → Bool → Bool → Bool → Bool → Word
picked a b c d e f =
    cond a fresh_word (cond b checkpoint_word (cond c send_word (cond d receipt_word (cond e line_word (cond f failed_word no_word)))))

tested : (s : List ℕ) {a b c d e f : Bool} → same s fresh_bytes ≡ a → same s checkpoint_bytes ≡ b → same s send_bytes ≡ c
    → same s receipt_bytes ≡ d → same s line_bytes ≡ e → same s failed_bytes ≡ f → word_of s ≡ picked a b c d e f
tested s g h i j k l = rw (g, h, i, j, k, l) refl

-- no word has this length
pub no_word_so_long : (s : List ℕ) → (length s ≡ 4 → ⊥) → (length s ≡ 5 → ⊥) → (length s ≡ 6 → ⊥) → (length s ≡ 7 → ⊥) → (length s ≡ 10 → ⊥)
    → word_of s ≡ no_word
no_word_so_long s a b c d e =
    tested s (unlike s fresh_bytes refl b) (unlike s checkpoint_bytes refl e) (unlike s send_bytes refl a) (unlike s receipt_bytes refl d)
    (unlike s line_bytes refl a) (unlike s failed_bytes refl c)

-- the words of each length
pub word_of_four : (s : List ℕ) → length s ≡ 4 → word_of s ≡ cond (reads s 0 send_bytes) send_word (cond (reads s 0 line_bytes) line_word no_word)
word_of_four s e =
    tested s (unlike s fresh_bytes e (omega arith)) (unlike s checkpoint_bytes e (omega arith)) (alike s send_bytes e)
    (unlike s receipt_bytes e (omega arith)) (alike s line_bytes e) (unlike s failed_bytes e (omega arith))

pub neither_of_four : (s : List ℕ) → length s ≡ 4 → (get_or s 0 0 ≡ 115 → ⊥) → (get_or s 0 0 ≡ 108 → ⊥) → word_of s ≡ no_word
neither_of_four s e f g = word_of_four s e ∙ rw (ne_eqb _ 115 f, ne_eqb _ 108 g) refl

pub word_of_five : (s : List ℕ) → length s ≡ 5 → word_of s ≡ spelt s 0 fresh_bytes fresh_word
word_of_five s e =
    tested s (alike s fresh_bytes e) (unlike s checkpoint_bytes e (omega arith)) (unlike s send_bytes e (omega arith))
    (unlike s receipt_bytes e (omega arith)) (unlike s line_bytes e (omega arith)) (unlike s failed_bytes e (omega arith))
    ∙ spells s 0 fresh_bytes fresh_word

pub word_of_six : (s : List ℕ) → length s ≡ 6 → word_of s ≡ spelt s 0 failed_bytes failed_word
word_of_six s e =
    tested s (unlike s fresh_bytes e (omega arith)) (unlike s checkpoint_bytes e (omega arith)) (unlike s send_bytes e (omega arith))
    (unlike s receipt_bytes e (omega arith)) (unlike s line_bytes e (omega arith)) (alike s failed_bytes e)
    ∙ spells s 0 failed_bytes failed_word

pub word_of_seven : (s : List ℕ) → length s ≡ 7 → word_of s ≡ spelt s 0 receipt_bytes receipt_word
word_of_seven s e =
    tested s (unlike s fresh_bytes e (omega arith)) (unlike s checkpoint_bytes e (omega arith)) (unlike s send_bytes e (omega arith))
    (alike s receipt_bytes e) (unlike s line_bytes e (omega arith)) (unlike s failed_bytes e (omega arith))
    ∙ spells s 0 receipt_bytes receipt_word

pub word_of_ten : (s : List ℕ) → length s ≡ 10 → word_of s ≡ spelt s 0 checkpoint_bytes checkpoint_word
word_of_ten s e =
    tested s (unlike s fresh_bytes e (omega arith)) (alike s checkpoint_bytes e) (unlike s send_bytes e (omega arith))
    (unlike s receipt_bytes e (omega arith)) (unlike s line_bytes e (omega arith)) (unlike s failed_bytes e (omega arith))
    ∙ spells s 0 checkpoint_bytes checkpoint_word

pub ruleset words = (no_word_so_long, neither_of_four, word_of_four, word_of_five, word_of_six, word_of_seven, word_of_ten)
