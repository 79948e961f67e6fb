-- What a call on the engine is told by.
use mathlib.Core.Path.{◌≡◌, refl, ap}
use mathlib.Core.Bool.{cond}
use Prim.Native.Nat.{ℕ}
use lib.Dec.{eqb}
use Rattle.std.specs.Prelude.{Result, Ok, Err, MatchResult, IsErrAnd}
use Rattle.refusals.specs.declared.Refusal.{Refusal}
use Rattle.refusals.specs.declared.Refusal.TheVariants as row
use Rattle.refusals.specs.Refusals.{number_of as refusal_number, returned as refusal_of}
use Rattle.answers.specs.declared.Refused.{Refused}
use Rattle.answers.specs.declared.Refused.TheVariants.{Call}
use Rattle.answers.specs.Shows.{returned, count_of, number_of, Told}

-- a refused call has no words
no_words : (r : Refusal) (k : ℕ) → 0 ≡ cond (eqb (refusal_number r) 0) k 0
no_words row.BadDimensions k = refl
no_words row.BadTableLength k = refl
no_words row.NotWellLaid k = refl
no_words row.BadAreaLength k = refl
no_words row.BadProcess k = refl
no_words row.BadOtherProcess k = refl
no_words row.NotSent k = refl
no_words row.AlreadyReceived k = refl
no_words row.NoRecordsLeft k = refl
no_words row.NumberAtLimit k = refl
no_words row.BadMask k = refl
no_words row.BadPositions k = refl
no_words row.AreaTooShort k = refl
no_words row.BadScratch k = refl
no_words row.NoSavedState k = refl

pub told_called : {A : Type 0} (o : Result A Refusal) (k : ℕ) (res : Result ℕ Refused)
    → MatchResult o (λ _. res ≡ Ok k) (λ e. IsErrAnd res (λ f. f ≡ Call e)) → Told (refusal_of o) k res
told_called (Ok x) k res h = (ap returned h, ap count_of h)
told_called (Err e) k (Ok j) h = absurd h
told_called (Err e) k (Err f) h = (ap number_of h, no_words e k)
