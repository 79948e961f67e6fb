-- Words and bytes: words that fit are read back from their bytes, and bytes are those of their words.
use mathlib.Core.Path.{◌≡◌, refl, sym, ap, ◌∙◌, subst}
use mathlib.Core.List.{List, [], ◌∷◌, ◌++◌}
use Prim.Native.Nat.{ℕ, zero, suc, ◌+◌, ◌*◌, ◌/◌, ◌%◌, ◌≤◌, ◌<◌}
use native.Mathlib.Nat.{not-suc-le-zero, le_of_suc-le-suc, div-div-eq-div-mul, div-add-mod', mod-eq_of_lt}
use native.Mathlib.Omega.{arith}
use lib.ListN.{length, get_or, take, drop, replicate, length-drop}
use lib.Seq.{drop-cons}
use Rattle.xdr.specs.Words.{word, turned, bytes, words}

-- ---- words as bytes

digits : (x y z u c b a w : ℕ) → x ≡ c → a * 256 + u ≡ w → b * 256 + z ≡ a → c * 256 + y ≡ b
    → x * 16777216 + y * 65536 + z * 256 + u ≡ w
digits x y z u c b a w d e f g = omega arith

pub four : (w : ℕ) → w < 4294967296 → w / 16777216 % 256 * 16777216 + w / 65536 % 256 * 65536 + w / 256 % 256 * 256 + w % 256 ≡ w
four w lt =
    let a : w / 256 / 256 ≡ w / 65536 = div-div-eq-div-mul w 256 256 in
    let b : w / 65536 / 256 ≡ w / 16777216 = div-div-eq-div-mul w 65536 256 in
    let c : w / 16777216 < 256 = omega arith in
    let d : w / 16777216 % 256 ≡ w / 16777216 = mod-eq_of_lt c in
    let e : w / 256 * 256 + w % 256 ≡ w = div-add-mod' w 256 in
    let f : w / 65536 * 256 + w / 256 % 256 ≡ w / 256 = rw a at (div-add-mod' (w / 256) 256) in
    let g : w / 16777216 * 256 + w / 65536 % 256 ≡ w / 65536 = rw b at (div-add-mod' (w / 65536) 256) in
    digits (w / 16777216 % 256) (w / 65536 % 256) (w / 256 % 256) (w % 256) (w / 16777216) (w / 65536) (w / 256) w d e f g

pub word_bytes : (ws : List ℕ) (i : ℕ) → i < length ws → get_or ws i 0 < 4294967296 → word (bytes ws) i ≡ get_or ws i 0
unfolding word
word_bytes [] i lt small = absurd (not-suc-le-zero lt)
word_bytes (w ∷ ws) zero lt small = four w small
word_bytes (w ∷ ws) (suc i) lt small =
    let a : 4 * suc i ≡ suc (suc (suc (suc (4 * i)))) = omega arith in
    let b : 4 * suc i + 1 ≡ suc (suc (suc (suc (4 * i + 1)))) = omega arith in
    let c : 4 * suc i + 2 ≡ suc (suc (suc (suc (4 * i + 2)))) = omega arith in
    let d : 4 * suc i + 3 ≡ suc (suc (suc (suc (4 * i + 3)))) = omega arith in
    rw (b, c, d, a) (word_bytes ws i (le_of_suc-le-suc lt) small)

pub bytes_length : (ws : List ℕ) → length (bytes ws) ≡ 4 * length ws
bytes_length [] = refl
bytes_length (w ∷ ws) = let r = bytes_length ws in omega arith

pub bytes_append : (vs ws : List ℕ) → bytes (vs ++ ws) ≡ bytes vs ++ bytes ws
bytes_append [] ws = refl
bytes_append (v ∷ vs) ws = rw (bytes_append vs ws)

-- words that fit
abbrev pub Small : List ℕ → Type 0
Small [] = Unit {0}
Small (x ∷ xs) = (x < 4294967296) × Small xs

pub small_append : (xs ys : List ℕ) → Small xs → Small ys → Small (xs ++ ys)
small_append [] ys a b = b
small_append (x ∷ xs) ys a b = (a.0, small_append xs ys a.1 b)

pub small_at : (xs : List ℕ) → Small xs → (j : ℕ) → get_or xs j 0 < 4294967296
small_at [] a j = omega arith
small_at (x ∷ xs) a zero = a.0
small_at (x ∷ xs) a (suc j) = small_at xs a.1 j

pub all_small : (xs : List ℕ) → ((j : ℕ) → j < length xs → get_or xs j 0 < 4294967296) → Small xs
all_small [] h = tt
all_small (x ∷ xs) h = (h 0 (omega arith), all_small xs (λ j lt. h (suc j) (omega arith)))

pub small_zeros : (m : ℕ) → Small (replicate m 0)
small_zeros zero = tt
small_zeros (suc m) = (omega arith, small_zeros m)

-- words that fit are read back
pub words_bytes : (ws : List ℕ) → Small ws → words (bytes ws) ≡ ws
words_bytes [] s = refl
words_bytes (w ∷ ws) s = rw (four w s.0, words_bytes ws s.1)

-- ---- bytes as words

abbrev pub Bytes : List ℕ → Type 0
Bytes t = (i : ℕ) → get_or t i 0 < 256

byte_digits : (x y z u w : ℕ) → x < 256 → y < 256 → z < 256 → u < 256 → x * 16777216 + y * 65536 + z * 256 + u ≡ w
    → (x ≡ w / 16777216 % 256) × (y ≡ w / 65536 % 256) × (z ≡ w / 256 % 256) × (u ≡ w % 256)
byte_digits x y z u w a b c d e =
    let f : w / 16777216 ≡ x = omega arith in
    let g : w / 65536 ≡ x * 256 + y = omega arith in
    let h : w / 256 ≡ x * 65536 + y * 256 + z = omega arith in
    (omega arith, omega arith, omega arith, omega arith)

-- ---- words turned

byte_lt : (x : ℕ) → x % 256 < 256
byte_lt x = omega arith

top_lt : (v : ℕ) → v < 4294967296 → v / 16777216 < 256
top_lt v l = omega arith

top_byte : (v d : ℕ) → v / 16777216 % 256 ≡ d → v < 4294967296 → v / 16777216 ≡ d
top_byte v d e l = let t = top_lt v l in omega arith

sum_lt : (x y z u v : ℕ) → x < 256 → y < 256 → z < 256 → u < 256 → x * 16777216 + y * 65536 + z * 256 + u ≡ v → v < 4294967296
sum_lt x y z u v xl yl zl ul e = omega arith

-- the bytes of v turned, the least first
pub turned_bytes : (v w : ℕ) → v < 4294967296 → w ≡ turned v
    → (w % 256 ≡ v / 16777216 % 256) × (w / 256 % 256 ≡ v / 65536 % 256) × (w / 65536 % 256 ≡ v / 256 % 256) × (w / 16777216 ≡ v % 256)
turned_bytes v w l h =
    let al = top_lt v l in
    let x = byte_digits (v % 256) (v / 256 % 256) (v / 65536 % 256) (v / 16777216) w (byte_lt v) (byte_lt (v / 256)) (byte_lt (v / 65536)) al (sym h) in (
      sym x.3 ∙ sym (mod-eq_of_lt al),
      sym x.2,
      sym x.1,
      top_byte w (v % 256) (sym x.0)
          (sum_lt (v % 256) (v / 256 % 256) (v / 65536 % 256) (v / 16777216) w (byte_lt v) (byte_lt (v / 256)) (byte_lt (v / 65536)) al (sym h)),
    )

-- bytes swapped are turned
pub swapped : (v : ℕ) → v < 4294967296 → v % 256 * 16777216 + v / 256 % 256 * 65536 + v / 65536 % 256 * 256 + v / 16777216 % 256 ≡ turned v
swapped v l = ap (λ (x : ℕ). v % 256 * 16777216 + v / 256 % 256 * 65536 + v / 65536 % 256 * 256 + x) (mod-eq_of_lt (top_lt v l))

pub top_byte_of : (v w : ℕ) → w / 16777216 ≡ v % 256 → w / 16777216 % 256 ≡ v % 256
top_byte_of v w e = let l = byte_lt v in ap (λ (x : ℕ). x % 256) e ∙ mod-eq_of_lt l

word_cons : (x y z u : ℕ) (t : List ℕ) (i : ℕ) → word (x ∷ y ∷ z ∷ u ∷ t) (suc i) ≡ word t i
unfolding word
word_cons x y z u t i =
    let a : 4 * suc i ≡ suc (suc (suc (suc (4 * i)))) = omega arith in
    let b : 4 * suc i + 1 ≡ suc (suc (suc (suc (4 * i + 1)))) = omega arith in
    let c : 4 * suc i + 2 ≡ suc (suc (suc (suc (4 * i + 2)))) = omega arith in
    let d : 4 * suc i + 3 ≡ suc (suc (suc (suc (4 * i + 3)))) = omega arith in
    rw (b, c, d, a)

-- a list of bytes is that of its words
pub bytes_of : (ws t : List ℕ) → length t ≡ 4 * length ws → Bytes t → ((i : ℕ) → i < length ws → word t i ≡ get_or ws i 0)
    → t ≡ bytes ws
unfolding word
bytes_of [] [] l b h = refl
bytes_of [] (x ∷ t) l b h = absurd (omega arith)
bytes_of (w ∷ ws) [] l b h = absurd (omega arith)
bytes_of (w ∷ ws) (x ∷ []) l b h = absurd (omega arith)
bytes_of (w ∷ ws) (x ∷ y ∷ []) l b h = absurd (omega arith)
bytes_of (w ∷ ws) (x ∷ y ∷ z ∷ []) l b h = absurd (omega arith)
bytes_of (w ∷ ws) (x ∷ y ∷ z ∷ u ∷ t) l b h =
    let d = byte_digits x y z u w (b 0) (b 1) (b 2) (b 3) (h 0 (omega arith)) in
    let r = bytes_of ws t (omega arith) (λ i. b (suc (suc (suc (suc i))))) (λ i lt. sym (word_cons x y z u t i) ∙ h (suc i) (omega arith)) in
    λ i. d.0 i ∷ d.1 i ∷ d.2 i ∷ d.3 i ∷ r i

-- ---- the first words of bytes

four_more : (k : ℕ) → 4 * suc k ≡ suc (suc (suc (suc (4 * k))))
four_more k = omega arith

-- bytes of at least one word begin with four
four_bytes : (k : ℕ) (s : List ℕ) → 4 * suc k ≤ length s → s ≡ get_or s 0 0 ∷ get_or s 1 0 ∷ get_or s 2 0 ∷ get_or s 3 0 ∷ drop 4 s
four_bytes k s le =
    drop-cons s 0 0 (omega arith)
    ∙ ap (λ (l : List ℕ). get_or s 0 0 ∷ l)
    (drop-cons s 1 0 (omega arith)
    ∙ ap (λ (l : List ℕ). get_or s 1 0 ∷ l)
    (drop-cons s 2 0 (omega arith) ∙ ap (λ (l : List ℕ). get_or s 2 0 ∷ l) (drop-cons s 3 0 (omega arith))))

pub words_length : (k : ℕ) (s : List ℕ) → 4 * k ≤ length s → length (words (take (4 * k) s)) ≡ k
words_length zero s le = refl
words_length (suc k) s le =
    let rest : 4 * k ≤ length (drop 4 s) = omega (arith, length-drop 4 s) in
    subst (λ (l : List ℕ). length (words (take (4 * suc k) l)) ≡ suc k) (sym (four_bytes k s le))
    (rw (four_more k) (ap suc (words_length k (drop 4 s) rest)))

next_word : (a b c d : ℕ) (s : List ℕ) (k i : ℕ) → i < suc k → ((j : ℕ) → j < k → get_or (words (take (4 * k) s)) j 0 ≡ word s j)
    → get_or (words (take (4 * suc k) (a ∷ b ∷ c ∷ d ∷ s))) i 0 ≡ word (a ∷ b ∷ c ∷ d ∷ s) i
unfolding word
next_word a b c d s k zero lt h = rw (four_more k) refl
next_word a b c d s k (suc i) lt h =
    let e : 4 * suc i + 1 ≡ suc (suc (suc (suc (4 * i + 1)))) = omega arith in
    let f : 4 * suc i + 2 ≡ suc (suc (suc (suc (4 * i + 2)))) = omega arith in
    let g : 4 * suc i + 3 ≡ suc (suc (suc (suc (4 * i + 3)))) = omega arith in
    rw (four_more k, e, f, g, four_more i) (h i (le_of_suc-le-suc lt))

pub words_get : (k : ℕ) (s : List ℕ) (i : ℕ) → 4 * k ≤ length s → i < k → get_or (words (take (4 * k) s)) i 0 ≡ word s i
words_get zero s i le lt = absurd (not-suc-le-zero lt)
words_get (suc k) s i le lt =
    let rest : 4 * k ≤ length (drop 4 s) = omega (arith, length-drop 4 s) in
    subst (λ (l : List ℕ). get_or (words (take (4 * suc k) l)) i 0 ≡ word l i) (sym (four_bytes k s le))
    (next_word _ _ _ _ (drop 4 s) k i lt (λ j. words_get k (drop 4 s) j rest))
