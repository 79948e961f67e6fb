-- What made states have of receipts: each has its send and carries what that did, and no checkpoint of its process behind it has that
-- number or a smaller one.
use mathlib.Core.Path.{◌≡◌, sym, ◌∙◌}
use mathlib.Core.Bool.{true, cond}
use mathlib.Core.List.{[], ◌∷◌, ◌++◌}
use Prim.Native.Nat.{ℕ, suc, ◌≤◌, ◌<◌}
use native.Mathlib.Nat.{le_refl}
use native.Mathlib.Omega.{arith}
use borrow.Author.Tests.{ltb-true}
use Rattle.rules.specs.Records.{Event, basic, forced, sent, received, History, State, history, number, carried, has_send}
use Rattle.rules.specs.Steps.{Call, checkpoint, send, receipt, next_number, forces, grown}
use Rattle.basics.proofs.Older.{Older}
use Rattle.basics.proofs.Booleans.{Test, passes, fails, test}
use Rattle.records.proofs.Histories.{holds_held, holds_older, carried_older, Each, Rising}

-- ---- each receipt has its send, addressed to it, keeps what that carried, and comes after a checkpoint with at least this number

abbrev pub Source : State → ℕ → Event → History → Type 0
Source s p (basic m) h = Unit {0}
Source s p (forced m) h = Unit {0}
Source s p (sent q) h = Unit {0}
Source s p (received q k c) h = (has_send (history s q) p k ≡ true) × (c ≡ carried (history s q) k) × (c ≤ number h)

abbrev pub Sourced : State → ℕ → History → Type 0
Sourced s p = Each (Source s p)

pub source_later : (s f : State) → ((q : ℕ) → Older (history s q) (history f q)) → (p : ℕ) (e : Event) (h : History) → Source s p e h → Source f p e h
source_later s f o p (basic m) h S = tt
source_later s f o p (forced m) h S = tt
source_later s f o p (sent q) h S = tt
source_later s f o p (received q k c) h S = (
  holds_older (o q) p k S.0,
  S.1 ∙ sym (carried_older (o q) k (holds_held (history s q) p k S.0).counted),
  S.2,
)

-- ---- what a receipt carried, against a number

-- a receipt carried less than N
abbrev pub Less : ℕ → Event → History → Type 0
Less N (basic m) h = Unit {0}
Less N (forced m) h = Unit {0}
Less N (sent q) h = Unit {0}
Less N (received q k c) h = c < N

-- all of a history whose number is below N
pub less_below : (N : ℕ) (s : State) (p : ℕ) (h : History) → Rising h → Sourced s p h → number h < N → Each (Less N) h
less_below N s p [] r S lt = tt
less_below N s p (basic m ∷ h) r S lt = let a = r.0 in (tt, less_below N s p h r.1 S.1 (omega arith))
less_below N s p (forced m ∷ h) r S lt = let a = r.0 in (tt, less_below N s p h r.1 S.1 (omega arith))
less_below N s p (sent q ∷ h) r S lt = (tt, less_below N s p h r.1 S.1 lt)
less_below N s p (received q k c ∷ h) r S lt = let a = S.0.2 in (omega arith, less_below N s p h r.1 S.1 lt)

-- no checkpoint numbered N stands behind a receipt that carried N or more
abbrev pub SavedFirst : Event → History → Type 0
SavedFirst (basic m) h = Each (Less m) h
SavedFirst (forced m) h = Each (Less m) h
SavedFirst (sent q) h = Unit {0}
SavedFirst (received q k c) h = Unit {0}

-- A call keeps that: a new checkpoint has a larger number than the one before, and no receipt before it carried more than that one's.
pub grown_saved_first : (s : State) (p : ℕ) (h : History) (call : Call) (c : ℕ) → Rising h → Sourced s p h → Each SavedFirst h → Each SavedFirst (grown h call c)
grown_saved_first s p h checkpoint c r S A = (less_below (next_number h) s p h r S (le_refl (suc (number h))), A)
grown_saved_first s p h (send q) c r S A = (tt, A)
grown_saved_first s p h (receipt q k) c r S A = go (test (forces h c))
  where
    go : Test (forces h c) → Each SavedFirst (received q k c ∷ (cond (forces h c) (forced c ∷ []) [] ++ h))
    go (passes e) = rw e (tt, (less_below c s p h r S (ltb-true (number h) c e), A))
    go (fails e) = rw e (tt, A)
