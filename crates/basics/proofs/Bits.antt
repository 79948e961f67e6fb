-- Laws of numbers put together bit by bit.
use mathlib.Core.Path.{◌≡◌}
use mathlib.Core.Bool.{◌&&◌}
use Prim.Native.Nat.{ℕ, ◌+◌, ◌*◌, ◌≤◌, ◌<◌}
use native.Mathlib.Omega.{arith}
use lib.Dec.{eqb}
use lib.Bits.{bit_and, bit_or, bit_xor, or_add_and, and_le_l, and_le_r, xor_add_and, xor_self}
use borrow.Author.Tests.{eqb-true, eqb-false, eq-eqb, ne_eqb}
use Rattle.basics.proofs.Booleans.{Test, passes, fails, test}

pub or_zero : (x y : ℕ) → eqb (bit_or x y) 0 ≡ (eqb x 0 && eqb y 0)
or_zero x y = go (test (eqb x 0)) (test (eqb y 0))
  where
    s : bit_or x y + bit_and x y ≡ x + y
    s = or_add_and x y

    l : bit_and x y ≤ x
    l = and_le_l x y

    r : bit_and x y ≤ y
    r = and_le_r x y

    go : Test (eqb x 0) → Test (eqb y 0) → eqb (bit_or x y) 0 ≡ (eqb x 0 && eqb y 0)
    go (passes a) (passes b) =
        let p = eqb-true x 0 a in
        let q = eqb-true y 0 b in
        rw (a, b, eq-eqb (bit_or x y) 0 (omega (arith, s, l, r)))
    go (passes a) (fails b) = let q = eqb-false y 0 b in rw (a, b, ne_eqb (bit_or x y) 0 (λ h. q (omega (arith, s, l, r))))
    go (fails a) b = let q = eqb-false x 0 a in rw (a, ne_eqb (bit_or x y) 0 (λ h. q (omega (arith, s, l, r))))

pub xor_same : (x y : ℕ) → bit_xor x y ≡ 0 → x ≡ y
xor_same x y e =
    let s : bit_xor x y + bit_and x y * 2 ≡ x + y = xor_add_and x y in
    let l : bit_and x y ≤ x = and_le_l x y in
    let r : bit_and x y ≤ y = and_le_r x y in
    omega arith

pub xor_none : (x y : ℕ) → x ≡ y → bit_xor x y ≡ 0
xor_none x y e = rw e (xor_self y)

pub xor_zero : (x y : ℕ) → eqb (bit_xor x y) 0 ≡ eqb x y
xor_zero x y = go (test (eqb x y))
  where
    go : Test (eqb x y) → eqb (bit_xor x y) 0 ≡ eqb x y
    go (passes h) = rw h (eq-eqb (bit_xor x y) 0 (xor_none x y (eqb-true x y h)))
    go (fails h) = rw h (ne_eqb (bit_xor x y) 0 (λ z. eqb-false x y h (xor_same x y z)))

-- two numbers of two halves each
pub halves_same : (x y u v : ℕ) → y < 4294967296 → v < 4294967296 → eqb (x * 4294967296 + y) (u * 4294967296 + v) ≡ (eqb x u && eqb y v)
halves_same x y u v yl vl = go (test (eqb x u)) (test (eqb y v))
  where
    go : Test (eqb x u) → Test (eqb y v) → eqb (x * 4294967296 + y) (u * 4294967296 + v) ≡ (eqb x u && eqb y v)
    go (passes a) (passes b) =
        let p = eqb-true x u a in
        let q = eqb-true y v b in
        rw (a, b, eq-eqb (x * 4294967296 + y) (u * 4294967296 + v) (omega arith))
    go (passes a) (fails b) = let q = eqb-false y v b in rw (a, b, ne_eqb (x * 4294967296 + y) (u * 4294967296 + v) (omega arith))
    go (fails a) b = let q = eqb-false x u a in rw (a, ne_eqb (x * 4294967296 + y) (u * 4294967296 + v) (omega arith))
