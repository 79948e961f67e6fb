-- Words that are put: each is read back, and every other word stays.
use mathlib.Core.Path.{◌≡◌, refl, sym, ap, ap₂, ◌∙◌}
use mathlib.Core.Logic.{◌≢◌, ◌⊎◌, inl, inr}
use mathlib.Core.List.{List, [], ◌∷◌, ◌++◌, append-nil}
use Prim.Native.Nat.{ℕ, zero, suc, ◌+◌, ◌*◌, ◌/◌, ◌%◌, ◌≤◌, ◌<◌}
use native.Mathlib.Nat.{zero-add, add-zero, not-suc-le-zero, le_of_suc-le-suc}
use native.Mathlib.Numerals.{add-one}
use native.Mathlib.Omega.{arith}
use native.Mathlib.Decide.{dec_lt}
use lib.ListN.{length, get_or, set, take, drop, length-set}
use lib.Seq.{get_or-set_same, get_or-set_other, length-take-le, take_all, take-suc, drop-length}
use Rattle.xdr.proofs.Words.{Bytes, Small, four}
use Rattle.xdr.specs.Words.{word, bytes, put_word, put_words, put_each}

-- ---- a word put

pub put_length : (t : List ℕ) (i v : ℕ) → length (put_word t i v) ≡ length t
unfolding put_word
put_length t i v = simp length-set

-- the byte at place k after the four stores, where k is none of the four places
put_other : (t : List ℕ) (i v k : ℕ) → (k < 4 * i) ⊎ (4 * i + 3 < k) → get_or (put_word t i v) k 0 ≡ get_or t k 0
unfolding put_word
put_other t i v k o =
    let a = set t (4 * i) (v / 16777216 % 256) in
    let b = set a (4 * i + 1) (v / 65536 % 256) in
    let c = set b (4 * i + 2) (v / 256 % 256) in
    get_or-set_other c (4 * i + 3) k (v % 256) 0 (apart (4 * i + 3) (omega arith) (omega arith) o)
    ∙ get_or-set_other b (4 * i + 2) k (v / 256 % 256) 0 (apart (4 * i + 2) (omega arith) (omega arith) o)
    ∙ get_or-set_other a (4 * i + 1) k (v / 65536 % 256) 0 (apart (4 * i + 1) (omega arith) (omega arith) o)
    ∙ get_or-set_other t (4 * i) k (v / 16777216 % 256) 0 (apart (4 * i) (omega arith) (omega arith) o)
  where
    apart : (m : ℕ) → 4 * i ≤ m → m ≤ 4 * i + 3 → (k < 4 * i) ⊎ (4 * i + 3 < k) → k ≢ m
    apart m lo hi (inl x) = omega arith
    apart m lo hi (inr x) = omega arith

pub word_other : (t : List ℕ) (i v j : ℕ) → j ≢ i → word (put_word t i v) j ≡ word t j
unfolding word
word_other t i v j ne =
    rw (
      put_other t i v (4 * j) (side (dec_lt j i) (4 * j) (omega arith) (omega arith)),
      put_other t i v (4 * j + 1) (side (dec_lt j i) (4 * j + 1) (omega arith) (omega arith)),
      put_other t i v (4 * j + 2) (side (dec_lt j i) (4 * j + 2) (omega arith) (omega arith)),
      put_other t i v (4 * j + 3) (side (dec_lt j i) (4 * j + 3) (omega arith) (omega arith)),
    )
  where
    side : Dec (j < i) → (k : ℕ) → 4 * j ≤ k → k ≤ 4 * j + 3 → (k < 4 * i) ⊎ (4 * i + 3 < k)
    side (yes l) k lo hi = inl (omega arith)
    side (no l) k lo hi = inr (let x : i < j = omega arith in omega arith)

pub word_same : (t : List ℕ) (i v : ℕ) → 4 * i + 3 < length t → v < 4294967296 → word (put_word t i v) i ≡ v
unfolding word put_word
word_same t i v lt small =
    let a = set t (4 * i) (v / 16777216 % 256) in
    let b = set a (4 * i + 1) (v / 65536 % 256) in
    let c = set b (4 * i + 2) (v / 256 % 256) in
    let la = length-set t (4 * i) (v / 16777216 % 256) in
    let lb = length-set a (4 * i + 1) (v / 65536 % 256) in
    let lc = length-set b (4 * i + 2) (v / 256 % 256) in
    let d3 = get_or-set_same c (4 * i + 3) (v % 256) 0 (omega arith) in
    let d2 = get_or-set_other c (4 * i + 3) (4 * i + 2) (v % 256) 0 (omega arith) ∙ get_or-set_same b (4 * i + 2) (v / 256 % 256) 0 (omega arith) in
    let d1 =
    get_or-set_other c (4 * i + 3) (4 * i + 1) (v % 256) 0 (omega arith) ∙ get_or-set_other b (4 * i + 2) (4 * i + 1) (v / 256 % 256) 0 (omega arith)
    ∙ get_or-set_same a (4 * i + 1) (v / 65536 % 256) 0 (omega arith)
    in
    let d0 =
    get_or-set_other c (4 * i + 3) (4 * i) (v % 256) 0 (omega arith) ∙ get_or-set_other b (4 * i + 2) (4 * i) (v / 256 % 256) 0 (omega arith)
    ∙ get_or-set_other a (4 * i + 1) (4 * i) (v / 65536 % 256) 0 (omega arith) ∙ get_or-set_same t (4 * i) (v / 16777216 % 256) 0 (omega arith)
    in
    rw (d0, d1, d2, d3) (four v small)

set_bytes : (t : List ℕ) → Bytes t → (i x : ℕ) → x < 256 → Bytes (set t i x)
set_bytes [] b i x lt k = b k
set_bytes (y ∷ t) b zero x lt zero = lt
set_bytes (y ∷ t) b zero x lt (suc k) = b (suc k)
set_bytes (y ∷ t) b (suc i) x lt zero = b 0
set_bytes (y ∷ t) b (suc i) x lt (suc k) = set_bytes t (λ j. b (suc j)) i x lt k

pub put_bytes : (t : List ℕ) (i v : ℕ) → Bytes t → Bytes (put_word t i v)
unfolding put_word
put_bytes t i v x =
    let a = set t (4 * i) (v / 16777216 % 256) in
    let b = set a (4 * i + 1) (v / 65536 % 256) in
    let c = set b (4 * i + 2) (v / 256 % 256) in
    set_bytes c
    (set_bytes b
    (set_bytes a (set_bytes t x (4 * i) (v / 16777216 % 256) (omega arith)) (4 * i + 1) (v / 65536 % 256) (omega arith))
    (4 * i + 2) (v / 256 % 256) (omega arith))
    (4 * i + 3) (v % 256) (omega arith)

-- ---- words put one after the other

pub all_length : (t : List ℕ) (i : ℕ) (vs : List ℕ) → length (put_words t i vs) ≡ length t
unfolding put_words
all_length t i [] = refl
all_length t i (v ∷ vs) = all_length (put_word t i v) (suc i) vs ∙ put_length t i v

pub all_bytes : (t : List ℕ) (i : ℕ) (vs : List ℕ) → Bytes t → Bytes (put_words t i vs)
unfolding put_words
all_bytes t i [] b = b
all_bytes t i (v ∷ vs) b = all_bytes (put_word t i v) (suc i) vs (put_bytes t i v b)

pub all_other : (t : List ℕ) (i : ℕ) (vs : List ℕ) (j : ℕ) → (j < i) ⊎ (i + length vs ≤ j) → word (put_words t i vs) j ≡ word t j
unfolding put_words
all_other t i [] j o = refl
all_other t i (v ∷ vs) j o = all_other (put_word t i v) (suc i) vs j (further o) ∙ word_other t i v j (apart o)
  where
    further : (j < i) ⊎ (i + suc (length vs) ≤ j) → (j < suc i) ⊎ (suc i + length vs ≤ j)
    further (inl x) = inl (omega arith)
    further (inr x) = inr (omega arith)

    apart : (j < i) ⊎ (i + suc (length vs) ≤ j) → j ≢ i
    apart (inl x) = omega arith
    apart (inr x) = omega arith

pub all_at : (t : List ℕ) (i : ℕ) (vs : List ℕ) → Small vs → 4 * (i + length vs) ≤ length t → (j : ℕ) → j < length vs
    → word (put_words t i vs) (i + j) ≡ get_or vs j 0
unfolding put_words
all_at t i [] s le j lt = absurd (not-suc-le-zero lt)
all_at t i (v ∷ vs) s le zero lt =
    ap (word (put_words (put_word t i v) (suc i) vs)) (let e : i + 0 ≡ i = omega arith in e)
    ∙ all_other (put_word t i v) (suc i) vs i (inl (omega arith)) ∙ word_same t i v (omega arith) s.0
all_at t i (v ∷ vs) s le (suc j) lt =
    ap (word (put_words (put_word t i v) (suc i) vs)) (let e : i + suc j ≡ suc i + j = omega arith in e)
    ∙ all_at (put_word t i v) (suc i) vs s.1 (let l = put_length t i v in omega arith) j (le_of_suc-le-suc lt)

-- words put over the start of some bytes
cons_puts : (x y z u : ℕ) (t : List ℕ) (i : ℕ) (vs : List ℕ) → put_words (x ∷ y ∷ z ∷ u ∷ t) (suc i) vs ≡ x ∷ y ∷ z ∷ u ∷ put_words t i vs
unfolding put_word put_words
cons_puts x y z u t i [] = refl
cons_puts x y z u t i (v ∷ vs) =
    let a : 4 * suc i ≡ suc (suc (suc (suc (4 * i)))) = omega arith in
    let b : 4 * suc i + 1 ≡ suc (suc (suc (suc (4 * i + 1)))) = omega arith in
    let c : 4 * suc i + 2 ≡ suc (suc (suc (suc (4 * i + 2)))) = omega arith in
    let d : 4 * suc i + 3 ≡ suc (suc (suc (suc (4 * i + 3)))) = omega arith in
    rw (b, c, d, a) (cons_puts x y z u (put_word t i v) (suc i) vs)

pub all_put : (t ws : List ℕ) → 4 * length ws ≤ length t → put_words t 0 ws ≡ bytes ws ++ drop (4 * length ws) t
unfolding put_word put_words
all_put t [] le = refl
all_put [] (v ∷ vs) le = absurd (omega arith)
all_put (x ∷ []) (v ∷ vs) le = absurd (omega arith)
all_put (x ∷ y ∷ []) (v ∷ vs) le = absurd (omega arith)
all_put (x ∷ y ∷ z ∷ []) (v ∷ vs) le = absurd (omega arith)
all_put (x ∷ y ∷ z ∷ u ∷ t) (v ∷ vs) le =
    let m : 4 * suc (length vs) ≡ suc (suc (suc (suc (4 * length vs)))) = omega arith in
    cons_puts (v / 16777216 % 256) (v / 65536 % 256) (v / 256 % 256) (v % 256) t 0 vs
    ∙ rw m (ap (λ (l : List ℕ). v / 16777216 % 256 ∷ v / 65536 % 256 ∷ v / 256 % 256 ∷ v % 256 ∷ l) (all_put t vs (omega arith)))

-- the first word put after those behind it
pub put_first : (t : List ℕ) (v : ℕ) (vs : List ℕ) → 4 ≤ length t → put_word (put_words t 1 vs) 0 v ≡ put_words t 0 (v ∷ vs)
unfolding put_word put_words
put_first [] v vs le = absurd (omega arith)
put_first (x ∷ []) v vs le = absurd (omega arith)
put_first (x ∷ y ∷ []) v vs le = absurd (omega arith)
put_first (x ∷ y ∷ z ∷ []) v vs le = absurd (omega arith)
put_first (x ∷ y ∷ z ∷ u ∷ t) v vs le =
    ap (λ (s : List ℕ). put_word s 0 v) (cons_puts x y z u t 0 vs)
    ∙ sym (cons_puts (v / 16777216 % 256) (v / 65536 % 256) (v / 256 % 256) (v % 256) t 0 vs)

-- over the whole of them
pub whole_put : (t ws : List ℕ) → length t ≡ 4 * length ws → put_words t 0 ws ≡ bytes ws
whole_put t ws l =
    all_put t ws (omega arith) ∙ ap (λ (s : List ℕ). bytes ws ++ s) (ap (λ (k : ℕ). drop k t) (sym l) ∙ drop-length t) ∙ append-nil (bytes ws)

-- words put one part after the other
pub put_append : (t : List ℕ) (i : ℕ) (vs us : List ℕ) {j : ℕ} → j ≡ i + length vs
    → put_words (put_words t i vs) j us ≡ put_words t i (vs ++ us)
unfolding put_words
put_append t i [] us e = let z : _ ≡ i = e ∙ add-zero i in rw z
put_append t i (v ∷ vs) us e = put_append (put_word t i v) (suc i) vs us (e ∙ (omega arith))

-- one word more
pub put_next : (t : List ℕ) (i j : ℕ) (ws : List ℕ) → j < length ws → {u v : List ℕ} → u ≡ put_words t i (take j ws)
    → v ≡ put_word u (i + j) (get_or ws j 0)
    → v ≡ put_words t i (take (j + 1) ws)
unfolding put_words
put_next t i j ws l a b =
    let n : i + j ≡ i + length (take j ws) = ap (λ (m : ℕ). i + m) (sym (length-take-le j ws (omega arith))) in
    b ∙ rw a (put_append t i (take j ws) (get_or ws j 0 ∷ []) n) ∙ ap (put_words t i) (sym (take-suc ws j 0 l) ∙ ap (λ (m : ℕ). take m ws) (sym (add-one j)))

pub one_put : (t : List ℕ) (x : ℕ) {t₁ : List ℕ} → t₁ ≡ put_word t 0 x → t₁ ≡ put_words t 0 (x ∷ [])
unfolding put_words
one_put t x a = a

pub two_puts : (t : List ℕ) (x y : ℕ) {t₁ t₂ : List ℕ} → t₁ ≡ put_word t 0 x → t₂ ≡ put_word t₁ 1 y → t₂ ≡ put_words t 0 (x ∷ y ∷ [])
unfolding put_words
two_puts t x y a b = rw (b, a)

-- ---- a word for each number

pub each_length : (t : List ℕ) (f : ℕ → ℕ) (p : ℕ) → length (put_each t f p) ≡ length t
unfolding put_each
each_length t f zero = refl
each_length t f (suc p) = put_length (put_each t f p) p (f p) ∙ each_length t f p

-- one word more
pub each_next : (t : List ℕ) (f : ℕ → ℕ) (p : ℕ) {u v : List ℕ} {x : ℕ} → u ≡ put_each t f p → v ≡ put_word u p x → x ≡ f p
    → v ≡ put_each t f (p + 1)
unfolding put_each
each_next t f p a b c = rw (b, a, c, add-one p)

pub each_same : (t : List ℕ) (f g : ℕ → ℕ) (p : ℕ) → ((i : ℕ) → i < p → f i ≡ g i) → put_each t f p ≡ put_each t g p
unfolding put_each
each_same t f g zero e = refl
each_same t f g (suc p) e = rw (each_same t f g p (λ i lt. e i (omega arith)), e p (omega arith))

-- a word for each of ws
pub each_put : (t ws : List ℕ) (f : ℕ → ℕ) (p : ℕ) → p ≡ length ws → ((i : ℕ) → i < p → f i ≡ get_or ws i 0) → put_each t f p ≡ put_words t 0 ws
unfolding put_each put_words
each_put t ws f p n e = go p (omega arith) ∙ ap (put_words t 0) (take_all p ws (omega arith))
  where
    go : (i : ℕ) → i ≤ p → put_each t f i ≡ put_words t 0 (take i ws)
    go zero le = refl
    go (suc i) le =
        let l : i < length ws = omega arith in
        let m : i ≡ length (take i ws) = sym (length-take-le i ws (omega arith)) in
        ap₂ (λ (u : List ℕ) (x : ℕ). put_word u i x) (go i (omega arith)) (e i (omega arith))
        ∙ put_append t 0 (take i ws) (get_or ws i 0 ∷ []) (m ∙ sym (zero-add (length (take i ws))))
        ∙ ap (put_words t 0) (sym (take-suc ws i 0 l))
