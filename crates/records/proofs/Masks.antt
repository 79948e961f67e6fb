-- A mask that has the bits for which a test holds: its size, its bits, and its ones.
use mathlib.Core.Path.{◌≡◌, ap, ◌∙◌}
use mathlib.Core.Bool.{Bool, true, false, cond}
use Prim.Native.Nat.{ℕ, zero, suc, ◌+◌, ◌*◌, ◌/◌, ◌%◌, ◌^◌, ◌<◌}
use native.Mathlib.Nat.{pow-suc, pow-le-pow_right, mul_right_comm, add-mul-div_right, add-mul-mod_self_right, div-eq_of_lt}
use native.Mathlib.Omega.{arith}
use native.Mathlib.Decide.{dec_lt}
use lib.Dec.{eqb}
use lib.Count.{ones, ones_cat, ones-ones}
use Rattle.rules.specs.Lines.{failed, mask_below}

pub two_positive : (p : ℕ) → 0 < 2 ^ p
two_positive p = pow-le-pow_right {n = 2} (omega arith) {i = 0} {j = p} (omega arith)

-- a power of two with a greater exponent is an even multiple
record Even (n p : ℕ) : Type 0 where
  half : ℕ
  is : 2 ^ n ≡ half * 2 * 2 ^ p

even : (n p : ℕ) → p < n → Even n p
even zero p lt = absurd (omega arith)
even (suc n) p lt = go (dec_lt p n) (even n p)
  where
    go : Dec (p < n) → (p < n → Even n p) → Even (suc n) p
    go (yes l) f =
        let e = f l in
        record {
          half = e.half * 2;
          is = pow-suc 2 n ∙ ap (λ (x : ℕ). x * 2) e.is ∙ mul_right_comm (e.half * 2) (2 ^ p) 2;
        }
    go (no l) f =
        let e : n ≡ p = omega arith in
        let a = pow-suc 2 n in
        let b = ap (λ (x : ℕ). 2 ^ x) e in
        record { half = 1; is = omega arith }

-- one bit more at n leaves those below as they were
bit_below : (m n p : ℕ) → p < n → failed (m + 2 ^ n) p ≡ failed m p
bit_below m n p lt =
    let e = even n p lt in
    let h = e.half in
    ap (λ (x : ℕ). eqb (x % 2) 1) (ap (λ (x : ℕ). (m + x) / 2 ^ p) e.is ∙ add-mul-div_right m (h * 2) (two_positive p))
    ∙ ap (λ (x : ℕ). eqb x 1) (add-mul-mod_self_right (m / 2 ^ p) h 2)

bit_at : (m n : ℕ) → m < 2 ^ n → failed (m + 2 ^ n) n ≡ true
bit_at m n lt =
    let a : m + 2 ^ n ≡ m + 1 * 2 ^ n = omega arith in
    let b = div-eq_of_lt {n = m} {m = 2 ^ n} lt in
    ap (λ (x : ℕ). eqb (x % 2) 1) (ap (λ (x : ℕ). x / 2 ^ n) a ∙ add-mul-div_right m 1 (two_positive n) ∙ ap (λ (x : ℕ). x + 1) b)

bit_none : (m n : ℕ) → m < 2 ^ n → failed m n ≡ false
bit_none m n lt = ap (λ (x : ℕ). eqb (x % 2) 1) (div-eq_of_lt {n = m} {m = 2 ^ n} lt)

module _ (f : ℕ → Bool) where
  pub mask_lt : (n : ℕ) → mask_below f n < 2 ^ n
  mask_lt zero = omega arith
  mask_lt (suc n) = rw (pow-suc 2 n) (go (f n) (mask_lt n))
    where
      go : (b : Bool) → mask_below f n < 2 ^ n → mask_below f n + cond b (2 ^ n) 0 < 2 ^ n * 2
      go true l = omega arith
      go false l = omega arith

  pub mask_bits : (n p : ℕ) → p < n → failed (mask_below f n) p ≡ f p
  mask_bits zero p lt = absurd (omega arith)
  mask_bits (suc n) p lt = go (dec_lt p n) (mask_bits n p)
    where
      m : ℕ
      m = mask_below f n

      same : (b : Bool) → p < n → failed (m + cond b (2 ^ n) 0) p ≡ failed m p
      same true l = bit_below m n p l
      same false l = ap (λ (x : ℕ). failed x p) (let e : m + 0 ≡ m = omega arith in e)

      last : (b : Bool) → failed (m + cond b (2 ^ n) 0) n ≡ b
      last true = bit_at m n (mask_lt n)
      last false = ap (λ (x : ℕ). failed x n) (let e : m + 0 ≡ m = omega arith in e) ∙ bit_none m n (mask_lt n)

      go : Dec (p < n) → (p < n → failed m p ≡ f p) → failed (m + cond (f n) (2 ^ n) 0) p ≡ f p
      go (yes l) r = same (f n) l ∙ r l
      go (no l) r = let e : p ≡ n = omega arith in rw e (last (f n))

  -- the ones of a mask with one test more
  pub mask_ones : (n : ℕ) → ones (mask_below f (suc n)) ≡ ones (mask_below f n) + cond (f n) 1 0
  mask_ones n = go (f n) (mask_lt n)
    where
      m : ℕ
      m = mask_below f n

      go : (b : Bool) → m < 2 ^ n → ones (m + cond b (2 ^ n) 0) ≡ ones m + cond b 1 0
      go true l =
          let h : m + 2 ^ n ≡ 1 * 2 ^ n + m = omega arith in
          let o = ones-ones 1 in
          ap ones h ∙ ones_cat n 1 m l ∙ (omega arith)
      go false l = let h : m + 0 ≡ m = omega arith in let k : ones m + 0 ≡ ones m = omega arith in rw (h, k)
