-- Two words that are zeros.
use mathlib.Core.Path.{◌≡◌, refl}
use mathlib.Core.Bool.{Bool, true, false, ◌&&◌}
use Prim.Native.Nat.{ℕ, ◌+◌, ◌*◌}
use native.Mathlib.Omega.{arith}
use lib.Dec.{eqb}
use borrow.Author.Tests.{eqb-true, eqb-false, ne_eqb}

-- numbers x and y of four bytes each, most significant first, and the number v of all eight, least significant first
pub eight_zero : (a b c d e f g h x y v : ℕ) → a * 16777216 + b * 65536 + c * 256 + d ≡ x → e * 16777216 + f * 65536 + g * 256 + h ≡ y
    → a + b * 256 + c * 65536 + d * 16777216 + e * 4294967296 + f * 1099511627776 + g * 281474976710656 + h * 72057594037927936 ≡ v
    → eqb v 0 ≡ (eqb x 0 && eqb y 0)
eight_zero a b c d e f g h x y v i j k = go (eqb x 0) (eqb y 0) refl refl
  where
    go : (p q : Bool) → eqb x 0 ≡ p → eqb y 0 ≡ q → eqb v 0 ≡ (p && q)
    go true true r s = let m = eqb-true x 0 r in let n = eqb-true y 0 s in let z : v ≡ 0 = omega arith in rw z
    go true false r s = let n = eqb-false y 0 s in ne_eqb v 0 (omega arith)
    go false q r s = let n = eqb-false x 0 r in ne_eqb v 0 (omega arith)
