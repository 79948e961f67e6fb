-- A refusal by the first of some rows is one by all.
use mathlib.Core.Path.{◌≡◌, ap, ◌∙◌}
use mathlib.Core.Logic.{◌≢◌}
use mathlib.Core.List.{List, ◌++◌}
use native.Mathlib.Omega.{arith}
use Prim.Native.Nat.{ℕ}
use Rattle.rules.specs.Calls.{Row, first, outcome_with, judged_with}
use Rattle.records.proofs.Rows.{NonZero, stopped, judged_stop_with}
use Rattle.std.specs.Prelude.{Result, Ok, Err}
use Rattle.std.specs.Result.{IsErrAnd}
use Rattle.refusals.specs.Refusals.{number_of, returned}
use Rattle.refusals.specs.declared.Refusal.{Refusal}
use Rattle.refusals.specs.declared.Refusal.TheVariants.{BadDimensions, BadTableLength, NotWellLaid, BadAreaLength, BadProcess, BadOtherProcess, NotSent, AlreadyReceived, NoRecordsLeft, NumberAtLimit, BadMask, BadPositions, AreaTooShort, BadScratch, NoSavedState}

pub not_zero : (e : Refusal) → number_of e ≢ 0
not_zero BadDimensions = omega arith
not_zero BadTableLength = omega arith
not_zero NotWellLaid = omega arith
not_zero BadAreaLength = omega arith
not_zero BadProcess = omega arith
not_zero BadOtherProcess = omega arith
not_zero NotSent = omega arith
not_zero AlreadyReceived = omega arith
not_zero NoRecordsLeft = omega arith
not_zero NumberAtLimit = omega arith
not_zero BadMask = omega arith
not_zero BadPositions = omega arith
not_zero AreaTooShort = omega arith
not_zero BadScratch = omega arith
not_zero NoSavedState = omega arith

pub refused : (rs qs : List Row) → NonZero rs → (e : Refusal) → number_of e ≡ first rs → number_of e ≡ first (rs ++ qs)
refused rs qs w e h = stopped rs qs w h (not_zero e)

-- handed on by `?`
pub handed_on : {A : Type 0} (r : Result A Refusal) (e : Refusal) → IsErrAnd r (λ y. y ≡ e) → (rs qs : List Row) → NonZero rs
    → number_of e ≡ first rs
    → returned r ≡ first (rs ++ qs)
handed_on (Ok x) e h rs qs w g = absurd h
handed_on (Err y) e h rs qs w g = ap number_of h ∙ refused rs qs w e g

-- and then the outcome is that of a refused call
pub refused_outcome : {A : Type 0} (r : Result A Refusal) (e : Refusal) → IsErrAnd r (λ y. y ≡ e) → (t a f t' ws f' : List ℕ) {n : ℕ}
    → number_of e ≡ n
    → outcome_with (returned r) t a f ≡ judged_with n t a f t' ws f'
refused_outcome (Ok x) e h t a f t' ws f' g = absurd h
refused_outcome (Err y) e h t a f t' ws f' g = judged_stop_with t a f t' ws f' (ap number_of h ∙ g) (not_zero y)
