-- `all` over the numbers below n is `every`.
use mathlib.Core.Path.{◌≡◌, refl, sym, subst, ◌∙◌}
use mathlib.Core.Bool.{Bool, true, false}
use Prim.Native.Nat.{ℕ, zero, suc, ◌<◌}
use native.Mathlib.Nat.{zero-add}
use native.Mathlib.Omega.{arith}
use lib.ListN.{length, get_or}
use mathlib.Core.List.{List}
use Rattle.std.specs.Bool.{MatchBool}
use Rattle.std.specs.List.{AllWithin, HoldsAt, range_with_len}
use Rattle.std.proofs.lemmas.List.FromFn.{length-range_with_len, get_or-range_with_len}
use Rattle.tables.specs.Sections.{every}
use Rattle.tables.proofs.Sections.{every_not}

module _ (f : ℕ → Bool) (n : ℕ) where
  abbrev all : List ℕ
  all = range_with_len 0 n

  at_itself : (k : ℕ) → k < n → get_or all k 0 ≡ k
  at_itself k l = get_or-range_with_len 0 n k 0 l ∙ zero-add k

  every_true : (m : ℕ) → ((k : ℕ) → k < m → f k ≡ true) → true ≡ every f m
  every_true zero h = refl
  every_true (suc m) h = rw (← every_true m (λ k l. h k (omega arith)), h m (omega arith))

  pub every_cases : (r : Bool) → MatchBool r (AllWithin (λ p. f p ≡ true) all 0 (length all)) ((k : ℕ) × (k < length all) × HoldsAt (λ p. f p ≡ false) all k)
      → r ≡ every f n
  every_cases true h =
      every_true n (λ k l. subst (λ q. f q ≡ true) (at_itself k l) (h k 0 (omega arith) (omega (arith, l, length-range_with_len 0 n))))
  every_cases false h =
      let l : h.0 < n = omega (arith, h.1, length-range_with_len 0 n) in
      every_not f n h.0 l (sym (subst (λ q. f q ≡ false) (at_itself h.0 l) (h.2 0)))
