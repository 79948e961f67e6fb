-- Laws of the rows that a call is checked by, and of its outcome.
use mathlib.Core.Path.{◌≡◌, refl, sym, ◌∙◌}
use mathlib.Core.Logic.{◌≢◌}
use mathlib.Core.Bool.{Bool, true, false}
use mathlib.Core.List.{List, [], ◌∷◌, ◌++◌}
use Prim.Native.Nat.{ℕ, zero, suc}
use native.Mathlib.Omega.{arith}
use lib.Dec.{eqb}
use borrow.Author.Tests.{eqb-true, eq-eqb, ne_eqb}
use Rattle.xdr.specs.Words.{put_words}
use Rattle.rules.specs.Calls.{outcome, Row, row, first, judged, outcome_with, judged_with}
use Rattle.basics.proofs.Booleans.{Test, passes, fails, test}

-- ---- rows

abbrev pub NoneMet : List Row → Type 0
NoneMet [] = Unit {0}
NoneMet (row r m ∷ rs) = (m ≡ false) × NoneMet rs

-- no row has the number 0, by which an accepted call is told
abbrev pub NonZero : List Row → Type 0
NonZero [] = Unit {0}
NonZero (row zero m ∷ rs) = ⊥
NonZero (row (suc r) m ∷ rs) = NonZero rs

pub none_met : (rs : List Row) → NonZero rs → first rs ≡ 0 → NoneMet rs
none_met [] w e = tt
none_met (row zero m ∷ rs) w e = absurd w
none_met (row (suc r) true ∷ rs) w e = absurd (omega arith)
none_met (row (suc r) false ∷ rs) w e = (refl, none_met rs w e)

pub first_append : (rs qs : List Row) → NoneMet rs → first (rs ++ qs) ≡ first qs
first_append [] qs m = refl
first_append (row r b ∷ rs) qs m = rw m.0 (first_append rs qs m.1)

pub first_none : (rs : List Row) → NoneMet rs → first rs ≡ 0
first_none [] m = refl
first_none (row r b ∷ rs) m = rw m.0 (first_none rs m.1)

pub first_unmet : (r : ℕ) (b : Bool) (rs : List Row) → first (row (suc r) b ∷ rs) ≡ 0 → b ≡ false
first_unmet r true rs e = absurd (omega arith)
first_unmet r false rs e = refl

pub split_zero : (rs qs : List Row) → NonZero rs → first (rs ++ qs) ≡ 0 → NoneMet rs × (first qs ≡ 0)
split_zero [] qs w e = (tt, e)
split_zero (row zero m ∷ rs) qs w e = absurd w
split_zero (row (suc r) true ∷ rs) qs w e = absurd (omega arith)
split_zero (row (suc r) false ∷ rs) qs w e = let a = split_zero rs qs w e in ((refl, a.0), a.1)

-- rows of which one is met stop a call whatever comes after them
pub stopped : (rs qs : List Row) {r : ℕ} → NonZero rs → r ≡ first rs → r ≢ 0 → r ≡ first (rs ++ qs)
stopped [] qs w e ne = absurd (ne e)
stopped (row zero m ∷ rs) qs w e ne = absurd w
stopped (row (suc x) true ∷ rs) qs w e ne = e
stopped (row (suc x) false ∷ rs) qs w e ne = stopped rs qs w e ne

-- rows of which none is met leave the call to those that come after them
pub going : (rs qs : List Row) {r : ℕ} → NonZero rs → r ≡ first rs → r ≡ 0 → first (rs ++ qs) ≡ first qs
going rs qs w e z = first_append rs qs (none_met rs w (sym e ∙ z))

-- ---- outcomes

pub judged_returned : (r : ℕ) (t a t' ws : List ℕ) → (judged r t a t' ws).returned ≡ r
judged_returned r t a t' ws = go (test (eqb r 0))
  where
    go : Test (eqb r 0) → (judged r t a t' ws).returned ≡ r
    go (passes e) = rw e (sym (eqb-true r 0 e))
    go (fails e) = rw e

pub judged_stop_with : (t a f t' ws f' : List ℕ) {r s : ℕ} → r ≡ s → r ≢ 0 → outcome_with r t a f ≡ judged_with s t a f t' ws f'
judged_stop_with t a f t' ws f' {r} e ne = rw (← e, ne_eqb r 0 ne)

pub judged_done_with : (t a f t' ws f' : List ℕ) {u b g : List ℕ} {s : ℕ} → s ≡ 0 → u ≡ t' → b ≡ put_words a 0 ws → g ≡ f'
    → outcome_with 0 u b g ≡ judged_with s t a f t' ws f'
judged_done_with t a f t' ws f' {s} z x y v = rw (eq-eqb s 0 z, x, y, v)

pub judged_stop : (t a t' ws : List ℕ) {r s : ℕ} → r ≡ s → r ≢ 0 → outcome r t a ≡ judged s t a t' ws
judged_stop t a t' ws = judged_stop_with t a [] t' ws []

pub judged_done : (t a t' ws : List ℕ) {u b : List ℕ} {s : ℕ} → s ≡ 0 → u ≡ t' → b ≡ put_words a 0 ws → outcome 0 u b ≡ judged s t a t' ws
judged_done t a t' ws z x y = judged_done_with t a [] t' ws [] z x y refl
