-- Each record of a made state is one that a call adds behind those before it.
use mathlib.Core.Path.{◌≡◌, refl, ◌∙◌}
use mathlib.Core.Bool.{Bool, true, false, cond}
use mathlib.Core.List.{List, [], ◌∷◌, ◌++◌}
use Prim.Native.Nat.{ℕ, ◌<◌}
use native.Mathlib.Omega.{arith}
use lib.ListN.{length, length-set, length-replicate}
use Rattle.rules.specs.Records.{Event, basic, forced, sent, received, History, State, history}
use Rattle.rules.specs.Table.{fresh}
use Rattle.rules.specs.Steps.{Call, checkpoint, send, receipt, next_number, forces, carries, grown, stepped}
use Rattle.rules.specs.Lists.{Entry, run}
use Rattle.basics.proofs.Booleans.{Test, passes, fails, test, clash}
use Rattle.records.proofs.Histories.{Each}
use Rattle.records.proofs.Steps.{Accepted, run_keeps, history_fresh, each_step}

-- the newest record is no forced checkpoint, whose receipt would have come with it
abbrev pub settled : History → Bool
settled [] = true
settled (basic m ∷ h) = true
settled (forced m ∷ h) = false
settled (sent q ∷ h) = true
settled (received q k c ∷ h) = true

-- a receipt that carried c comes right behind the checkpoint that it forced, or behind none that is forced
abbrev pub Behind : History → ℕ → Type 0
Behind [] c = Unit {0}
Behind (basic m ∷ h) c = Unit {0}
Behind (forced m ∷ h) c = m ≡ c
Behind (sent q ∷ h) c = Unit {0}
Behind (received q k d ∷ h) c = Unit {0}

abbrev pub Rule : Event → History → Type 0
Rule (basic m) h = (m ≡ next_number h) × (settled h ≡ true)
Rule (forced m) h = (forces h m ≡ true) × (settled h ≡ true)
Rule (sent q) h = settled h ≡ true
Rule (received q k c) h = Behind h c

settled_behind : (h : History) (c : ℕ) → settled h ≡ true → Behind h c
settled_behind [] c e = tt
settled_behind (basic m ∷ h) c e = tt
settled_behind (forced m ∷ h) c e = clash false e refl
settled_behind (sent q ∷ h) c e = tt
settled_behind (received q k d ∷ h) c e = tt

grown_settled : (h : History) (call : Call) (c : ℕ) → settled (grown h call c) ≡ true
grown_settled h checkpoint c = refl
grown_settled h (send q) c = refl
grown_settled h (receipt q k) c = refl

grown_ruled : (h : History) (call : Call) (c : ℕ) → settled h ≡ true → Each Rule h → Each Rule (grown h call c)
grown_ruled h checkpoint c e R = ((refl, e), R)
grown_ruled h (send q) c e R = (e, R)
grown_ruled h (receipt q k) c e R = go (test (forces h c))
  where
    go : Test (forces h c) → Each Rule (received q k c ∷ (cond (forces h c) (forced c ∷ []) [] ++ h))
    go (passes f) = rw f (refl, ((f, e), R))
    go (fails f) = rw f (settled_behind h c e, R)

pub record Ruled (n : ℕ) (s : State) : Type 0 where
  pub size : length s ≡ n
  pub ruled : (p : ℕ) → Each Rule (history s p)
  pub ends : (p : ℕ) → settled (history s p) ≡ true

ruled_step : (n E : ℕ) (s : State) (p : ℕ) (call : Call) → Ruled n s → Accepted n E s p call → Ruled n (stepped s p call)
ruled_step n E s p call R A =
    let w = A.within in
    let z = R.size in
    let h = history s p in
    let c = carries s call in
    let g = grown h call c in
    let lt : p < length s = omega arith in
    record {
      size = length-set s p g ∙ z;
      ruled = each_step (λ (r : ℕ) (x : History). Each Rule x) s p g lt (grown_ruled h call c (R.ends p) (R.ruled p)) (λ r ne. R.ruled r);
      ends = each_step (λ (r : ℕ) (x : History). settled x ≡ true) s p g lt (grown_settled h call c) (λ r ne. R.ends r);
    }

pub made_ruled : (n E : ℕ) (l : List Entry) → Ruled n (run n E (fresh n) l)
made_ruled n E l =
    run_keeps (Ruled n) n E (ruled_step n E) (fresh n) l
    (record {
      size = length-replicate n [];
      ruled = λ p. rw (history_fresh n p) tt;
      ends = λ p. rw (history_fresh n p);
    })
