-- Dimensions within their ranges.
use mathlib.Core.Path.{◌≡◌}
use mathlib.Core.Bool.{true, ◌&&◌}
use Prim.Native.Nat.{ℕ, ◌*◌, ◌≤◌}
use native.Mathlib.Nat.{mul-le-mul}
use lib.Dec.{leb}
use borrow.Author.Tests.{leb-true}
use Rattle.rules.specs.Table.{in_range}
use Rattle.basics.proofs.Booleans.{and_left, and_right}

pub record InRange (n E : ℕ) : Type 0 where
  pub some_process : 1 ≤ n
  pub processes : n ≤ 16
  pub some_record : 1 ≤ E
  pub records : E ≤ 1024

-- the largest number of any table
pub product : (n E : ℕ) → n ≤ 16 → E ≤ 1024 → n * E ≤ 16384
product n E a b = mul-le-mul {n₁ = n} {m₁ = E} {n₂ = 16} {m₂ = 1024} a b

pub in_range_lem : (n E : ℕ) → in_range n E ≡ true → InRange n E
in_range_lem n E ok =
    let o3 = and_left (leb 1 n && leb n 16 && leb 1 E) (leb E 1024) ok in
    let o2 = and_left (leb 1 n && leb n 16) (leb 1 E) o3 in
    record {
      some_process = leb-true 1 n (and_left (leb 1 n) (leb n 16) o2);
      processes = leb-true n 16 (and_right (leb 1 n) (leb n 16) o2);
      some_record = leb-true 1 E (and_right (leb 1 n && leb n 16) (leb 1 E) o3);
      records = leb-true E 1024 (and_right (leb 1 n && leb n 16 && leb 1 E) (leb E 1024) ok);
    }
