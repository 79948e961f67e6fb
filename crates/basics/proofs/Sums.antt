-- Laws of sums over numbers and over pairs of numbers.
use mathlib.Core.Path.{◌≡◌, refl, sym, ap, ap₂, ◌∙◌}
use mathlib.Core.Logic.{◌≢◌, ◌⊎◌, inl, inr}
use mathlib.Core.List.{map}
use Prim.Native.Nat.{ℕ, zero, suc, ◌+◌, ◌*◌, ◌≤◌, ◌<◌}
use native.Mathlib.Nat.{suc-mul}
use native.Mathlib.Numerals.{add-one}
use native.Mathlib.Omega.{arith}
use native.Mathlib.Decide.{dec_lt, ℕ_discrete}
use Rattle.std.specs.List.{sum, range_with_len}
use Rattle.std.proofs.lemmas.List.FromFn.{sum_by-map-range_with_len_more}
use Rattle.basics.specs.Sums.{sum_below, sum_pairs}

pub sum_same : (f g : ℕ → ℕ) (n : ℕ) → ((i : ℕ) → i < n → f i ≡ g i) → sum_below f n ≡ sum_below g n
sum_same f g zero e = refl
sum_same f g (suc n) e = ap₂ ◌+◌ (sum_same f g n (λ i lt. e i (omega arith))) (e n (omega arith))

pub sum_add : (f g : ℕ → ℕ) (n : ℕ) → sum_below f n + sum_below g n ≡ sum_below (λ i. f i + g i) n
sum_add f g zero = refl
sum_add f g (suc n) = let r = sum_add f g n in omega arith

pub sum_none : (f : ℕ → ℕ) (n : ℕ) → ((i : ℕ) → i < n → f i ≡ 0) → sum_below f n ≡ 0
sum_none f zero e = refl
sum_none f (suc n) e = let r = sum_none f n (λ i lt. e i (omega arith)) in let z = e n (omega arith) in omega arith

-- only one of the numbers counts
pub sum_one : (f : ℕ → ℕ) (n i : ℕ) → i < n → ((j : ℕ) → j < n → j ≢ i → f j ≡ 0) → sum_below f n ≡ f i
sum_one f zero i lt e = absurd (omega arith)
sum_one f (suc n) i lt e = go (dec_lt i n) (λ l. sum_one f n i l (λ j lj ne. e j (omega arith) ne))
  where
    go : Dec (i < n) → (i < n → sum_below f n ≡ f i) → sum_below f n + f n ≡ f i
    go (yes l) r = let x = r l in let z = e n (omega arith) (omega arith) in omega arith
    go (no l) r =
        let is : n ≡ i = omega arith in
        let z = sum_none f n (λ j lj. e j (omega arith) (omega arith)) in
        let w = ap f is in
        omega arith

-- two sums that differ at one index
pub sum_but : (f g : ℕ → ℕ) (n p : ℕ) → p < n → ((i : ℕ) → i < n → i ≢ p → f i ≡ g i) → sum_below f n + g p ≡ sum_below g n + f p
sum_but f g zero p lt e = absurd (omega arith)
sum_but f g (suc n) p lt e = go (ℕ_discrete p n) (sum_but f g n p)
  where
    go : Dec (p ≡ n) → (p < n → ((i : ℕ) → i < n → i ≢ p → f i ≡ g i) → sum_below f n + g p ≡ sum_below g n + f p)
        → sum_below f (suc n) + g p ≡ sum_below g (suc n) + f p
    go (yes x) r = let s = sum_same f g n (λ i l. e i (omega arith) (omega arith)) in rw (x, s) (omega arith)
    go (no ne) r =
        let a = r (omega arith) (λ i l. e i (omega arith)) in
        let b = e n (omega arith) (λ z. ne (sym z)) in
        omega arith

pub sum_zero : (f : ℕ → ℕ) (n : ℕ) → sum_below f n ≡ 0 → (i : ℕ) → i < n → f i ≡ 0
sum_zero f zero e i lt = absurd (omega arith)
sum_zero f (suc n) e i lt = go (ℕ_discrete i n) (sum_zero f n (omega arith) i)
  where
    go : Dec (i ≡ n) → (i < n → f i ≡ 0) → f i ≡ 0
    go (yes x) r = rw x (omega arith)
    go (no ne) r = r (omega arith)

pub sum_most : (f : ℕ → ℕ) (m n : ℕ) → ((i : ℕ) → i < n → f i ≤ m) → sum_below f n ≤ n * m
sum_most f m zero e = omega arith
sum_most f m (suc n) e =
    let r = sum_most f m n (λ i l. e i (omega arith)) in
    let a = e n (omega arith) in
    omega (arith, suc-mul n m)

-- of an iterator over a range
pub sum_mapped : (f : ℕ → ℕ) (n : ℕ) → sum (map f (range_with_len 0 n)) ≡ sum_below f n
sum_mapped f zero = refl
sum_mapped f (suc n) =
    ap (λ (m : ℕ). sum (map f (range_with_len 0 m))) (sym (add-one n))
    ∙ (sum_by-map-range_with_len_more (λ (x : ℕ). x) f 0 n n (omega arith) ∙ ap (λ (x : ℕ). x + f n) (sum_mapped f n))

-- the order of two sums
pub sum_swap : (f : ℕ → ℕ → ℕ) (n m : ℕ) → sum_below (λ i. sum_below (f i) m) n ≡ sum_below (λ j. sum_below (λ i. f i j) n) m
sum_swap f zero m = sym (sum_none (λ j. 0) m (λ j lt. refl))
sum_swap f (suc n) m =
    ap₂ ◌+◌ (sum_swap f n m) refl
    ∙ sum_add (λ j. sum_below (λ i. f i j) n) (f n) m

-- ---- pairs

module _ (m : ℕ → ℕ) (n : ℕ) where
  pub pairs_same : (f g : ℕ → ℕ → ℕ) → ((q k : ℕ) → q < n → 0 < k → k ≤ m q → f q k ≡ g q k) → sum_pairs f m n ≡ sum_pairs g m n
  pairs_same f g e =
      sum_same _ _ n (λ q lq. sum_same (λ k. f q (suc k)) (λ k. g q (suc k)) (m q) (λ k lk. e q (suc k) lq (omega arith) (omega arith)))

  pub pairs_add : (f g : ℕ → ℕ → ℕ) → sum_pairs f m n + sum_pairs g m n ≡ sum_pairs (λ q k. f q k + g q k) m n
  pairs_add f g = sum_add _ _ n ∙ sum_same _ _ n (λ q lq. sum_add (λ k. f q (suc k)) (λ k. g q (suc k)) (m q))

  pub pairs_none : (f : ℕ → ℕ → ℕ) → ((q k : ℕ) → q < n → 0 < k → k ≤ m q → f q k ≡ 0) → sum_pairs f m n ≡ 0
  pairs_none f e = sum_none _ n (λ q lq. sum_none (λ k. f q (suc k)) (m q) (λ k lk. e q (suc k) lq (omega arith) (omega arith)))

  -- only one of the pairs counts
  pub pairs_one : (f : ℕ → ℕ → ℕ) (r j : ℕ) → r < n → 0 < j → j ≤ m r → ((q k : ℕ) → (q ≢ r) ⊎ (k ≢ j) → f q k ≡ 0) → sum_pairs f m n ≡ f r j
  pairs_one f r zero lr pos le e = absurd (omega arith)
  pairs_one f r (suc j) lr pos le e =
      sum_one (λ q. sum_below (λ k. f q (suc k)) (m q)) n r lr (λ q lq ne. sum_none (λ k. f q (suc k)) (m q) (λ k lk. e q (suc k) (inl ne)))
      ∙ sum_one (λ k. f r (suc k)) (m r) j (omega arith) (λ k lk ne. e r (suc k) (inr (omega arith)))

  -- a sum of such sums
  pub pairs_swap : (f : ℕ → ℕ → ℕ → ℕ) (r : ℕ) → sum_below (λ p. sum_pairs (f p) m n) r ≡ sum_pairs (λ q k. sum_below (λ p. f p q k) r) m n
  pairs_swap f r =
      sum_swap (λ p q. sum_below (λ k. f p q (suc k)) (m q)) r n
      ∙ sum_same _ _ n (λ q lq. sum_swap (λ p k. f p q (suc k)) r (m q))
