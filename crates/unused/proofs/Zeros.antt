-- Unused words.
use mathlib.Core.Path.{◌≡◌, sym, ◌∙◌}
use mathlib.Core.Bool.{Bool, ◌&&◌, and-true, and_assoc}
use Prim.Native.Nat.{ℕ, zero, suc, ◌+◌, ◌*◌}
use native.Mathlib.Nat.{add-zero}
use lib.Dec.{eqb}
use lib.Bits.{bit_or}
use native.Mathlib.Omega.{arith}
use Rattle.rules.specs.Table.{zeros_at}
use Rattle.basics.proofs.Bits.{or_zero}

module _ (w : ℕ → ℕ) where
  zeros_two : (i : ℕ) {z : Bool} → z ≡ (eqb (w i) 0 && eqb (w (i + 1)) 0) → z ≡ zeros_at w i 2
  zeros_two i e = rw (e, add-zero i)

  -- words in two parts
  zeros_parts : (i m k : ℕ) → zeros_at w i (m + k) ≡ (zeros_at w i m && zeros_at w (i + m) k)
  zeros_parts i m zero = rw (add-zero m) (sym (and-true (zeros_at w i m)))
  zeros_parts i m (suc k) =
      let a : m + suc k ≡ suc (m + k) = omega arith in
      let b : i + (m + k) ≡ i + m + k = omega arith in
      rw (a, b, zeros_parts i m k) (and_assoc (zeros_at w i m) (zeros_at w (i + m) k) (eqb (w (i + m + k)) 0))

  -- after i pairs of words, one pair more
  pub zeros_next : (at i x y : ℕ) → eqb x 0 ≡ zeros_at w at (2 * i) → eqb y 0 ≡ (eqb (w (at + 2 * i)) 0 && eqb (w (at + 2 * i + 1)) 0)
      → eqb (bit_or x y) 0 ≡ zeros_at w at (2 * (i + 1))
  zeros_next at i x y e f =
      let a : 2 * (i + 1) ≡ 2 * i + 2 = omega arith in
      or_zero x y ∙ rw (e, zeros_two (at + 2 * i) f, a, zeros_parts at (2 * i) 2)
