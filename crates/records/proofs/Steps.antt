-- What an accepted call has met, how a history grows by it, and how a property of states goes through a list.
use mathlib.Core.Path.{◌≡◌, refl, sym, subst, ◌∙◌}
use mathlib.Core.Logic.{◌≢◌}
use mathlib.Core.Bool.{Bool, true, false, not, cond, ◌||◌}
use mathlib.Core.List.{List, [], ◌∷◌, ◌++◌}
use Prim.Native.Nat.{ℕ, zero, suc, ◌+◌, ◌≤◌, ◌<◌}
use native.Mathlib.Omega.{arith}
use native.Mathlib.Decide.{ℕ_discrete}
use lib.Dec.{leb, eqb}
use lib.ListN.{length, set, length-set}
use lib.Seq.{get_or-set_same, get_or-set_other}
use borrow.Author.Tests.{ltb-false, leb-false, eqb-true, eqb-false, not-false}
use Rattle.rules.specs.Records.{forced, History, State, history, has_send, has_receipt}
use Rattle.rules.specs.Table.{fresh}
use Rattle.rules.specs.Steps.{Call, checkpoint, send, receipt, forces, carries, grown, stepped}
use Rattle.rules.specs.Calls.{area_length, first, call_rows, step_rows, needed}
use Rattle.rules.specs.Lists.{Entry, entry, check, accepts, after, run}
use Rattle.basics.proofs.Older.{Older, same, newer}
use Rattle.basics.proofs.Booleans.{Test, passes, fails, test, or_false}
use Rattle.records.proofs.Histories.{holds_held, carried_older}
use Rattle.records.proofs.Rows.{none_met, first_unmet}

-- ---- rows

-- the message that an accepted receipt takes
abbrev pub Message : ℕ → State → ℕ → Call → Type 0
Message n s p checkpoint = Unit {0}
Message n s p (send q) = (q < n) × (q ≢ p)
Message n s p (receipt q k) = (q < n) × (q ≢ p) × (has_send (history s q) p k ≡ true) × (has_receipt (history s p) q k ≡ false)

pub record Accepted (n E : ℕ) (s : State) (p : ℕ) (call : Call) : Type 0 where
  pub within : p < n
  pub message : Message n s p call
  pub free : length (history s p) + needed (history s p) call (carries s call) ≤ E

other : (n q p : ℕ) → (leb n q || eqb q p) ≡ false → (q < n) × (q ≢ p)
other n q p e =
    let o = or_false (leb n q) (eqb q p) e in
    (leb-false n q o.0, eqb-false q p o.1)

pub accepted_met : (n E : ℕ) (s : State) (p : ℕ) (call : Call) (len : ℕ) → first (step_rows n E s p call len) ≡ 0 → Accepted n E s p call
accepted_met n E s p checkpoint len e =
    let m = none_met (step_rows n E s p checkpoint len) tt e in
    record { within = leb-false n p m.1.0; message = tt; free = ltb-false _ _ m.1.1.0 }
accepted_met n E s p (send q) len e =
    let m = none_met (step_rows n E s p (send q) len) tt e in
    record { within = leb-false n p m.1.0; message = other n q p m.1.1.0; free = ltb-false _ _ m.1.1.1.0 }
accepted_met n E s p (receipt q k) len e =
    let m = none_met (step_rows n E s p (receipt q k) len) tt e in
    let o = other n q p m.1.1.0 in
    record {
      within = leb-false n p m.1.0;
      message = (o.0, o.1, not-false (has_send (history s q) p k) m.1.1.1.0, m.1.1.1.1.0);
      free = ltb-false _ _ m.1.1.1.1.1.0;
    }

pub area_met : (n E : ℕ) (s : State) (p : ℕ) (call : Call) (len : ℕ) → first (step_rows n E s p call len) ≡ 0 → len ≡ area_length call
area_met n E s p call len e =
    eqb-true len (area_length call)
    (not-false (eqb len (area_length call)) (first_unmet 3 (not (eqb len (area_length call))) (call_rows n E s p call) e))

pub accepts_met : (n E : ℕ) (s : State) (p : ℕ) (call : Call) (area : List ℕ) → accepts n E s (entry p call area) ≡ true → Accepted n E s p call
unfolding check
accepts_met n E s p call area e =
    accepted_met n E s p call (length area) (eqb-true (first (step_rows n E s p call (length area))) 0 e)

-- ---- a property of states that every accepted call keeps holds after a list

pub after_keeps : (P : State → Type 0) (n E : ℕ)
    → ((s : State) (p : ℕ) (call : Call) → P s → Accepted n E s p call → P (stepped s p call))
    → (s : State) (e : Entry) → P s → P (after n E s e)
after_keeps P n E keep s (entry p call area) h = go (test (accepts n E s (entry p call area)))
  where
    go : Test (accepts n E s (entry p call area)) → P (after n E s (entry p call area))
    go (passes e) = rw e (keep s p call h (accepts_met n E s p call area e))
    go (fails e) = rw e h

pub run_keeps : (P : State → Type 0) (n E : ℕ)
    → ((s : State) (p : ℕ) (call : Call) → P s → Accepted n E s p call → P (stepped s p call))
    → (s : State) (l : List Entry) → P s → P (run n E s l)
run_keeps P n E keep s [] h = h
run_keeps P n E keep s (e ∷ l) h = run_keeps P n E keep (after n E s e) l (after_keeps P n E keep s e h)

-- there are as many processes as before
pub after_length : (n E : ℕ) (s : State) (e : Entry) → length (after n E s e) ≡ length s
after_length n E s e = after_keeps (λ (t : State). length t ≡ length s) n E (λ t p call h A. length-set t p _ ∙ h) s e refl

-- ---- the histories after a step

pub history_same : (s : State) (p : ℕ) (h : History) → p < length s → history (set s p h) p ≡ h
history_same s p h lt = get_or-set_same s p h [] lt

pub history_other : (s : State) (p r : ℕ) (h : History) → r ≢ p → history (set s p h) r ≡ history s r
history_other s p r h ne = get_or-set_other s p r h [] ne

pub history_fresh : (n p : ℕ) → history (fresh n) p ≡ []
history_fresh zero p = refl
history_fresh (suc n) zero = refl
history_fresh (suc n) (suc p) = history_fresh n p

-- a property of each process after a step: shown for the one that acts, and for the others
pub each_step : (P : ℕ → History → Type 0) (s : State) (p : ℕ) (h : History) → p < length s
    → P p h → ((r : ℕ) → r ≢ p → P r (history s r)) → (r : ℕ) → P r (history (set s p h) r)
each_step P s p h lt here there r = go (ℕ_discrete r p)
  where
    go : Dec (r ≡ p) → P r (history (set s p h) r)
    go (yes e) = subst (λ (x : ℕ). P x (history (set s p h) x)) (sym e) (subst (P p) (sym (history_same s p h lt)) here)
    go (no ne) = subst (P r) (sym (history_other s p r h ne)) (there r ne)

pub grown_older : (h : History) (call : Call) (c : ℕ) → Older h (grown h call c)
grown_older h checkpoint c = newer same
grown_older h (send q) c = newer same
grown_older h (receipt q k) c = newer (go (forces h c))
  where
    go : (b : Bool) → Older h ((cond b (forced c ∷ []) [] ++ h))
    go true = newer same
    go false = same

-- every history is an older part of what it is after a step
pub stepped_older : (s : State) (p : ℕ) (call : Call) → p < length s → (r : ℕ) → Older (history s r) (history (stepped s p call) r)
stepped_older s p call lt =
    each_step (λ (r : ℕ) (g : History). Older (history s r) g) s p (grown (history s p) call (carries s call)) lt
    (grown_older (history s p) call (carries s call)) (λ r ne. same)

pub grown_length : (h : History) (call : Call) (c : ℕ) → length (grown h call c) ≡ length h + needed h call c
grown_length h checkpoint c = omega arith
grown_length h (send q) c = omega arith
grown_length h (receipt q k) c = go (forces h c)
  where
    go : (b : Bool) → suc (length ((cond b (forced c ∷ []) [] ++ h))) ≡ length h + cond b 2 1
    go true = omega arith
    go false = omega arith

-- a call adds a record at least
pub grown_longer : (h : History) (call : Call) (c : ℕ) → length h < length (grown h call c)
grown_longer h checkpoint c = omega arith
grown_longer h (send q) c = omega arith
grown_longer h (receipt q k) c = go (forces h c)
  where
    go : (b : Bool) → length h < suc (length ((cond b (forced c ∷ []) [] ++ h)))
    go true = omega arith
    go false = omega arith

-- a receipt's record is the last one then, behind a forced checkpoint where it forces
pub receipt_place : (h : History) (q k c : ℕ) → length (grown h (receipt q k) c) ≡ length h + 1 + cond (forces h c) 1 0
receipt_place h q k c = grown_length h (receipt q k) c ∙ go (forces h c)
  where
    go : (b : Bool) → length h + cond b 2 1 ≡ length h + 1 + cond b 1 0
    go true = omega arith
    go false = omega arith

-- the number that an accepted call's message carries is the same in every later state
pub carries_later : (n E : ℕ) (s f : State) (p : ℕ) (call : Call) → Accepted n E s p call
    → ((q : ℕ) → Older (history s q) (history f q)) → carries f call ≡ carries s call
carries_later n E s f p checkpoint A o = refl
carries_later n E s f p (send q) A o = refl
carries_later n E s f p (receipt q k) A o = carried_older (o q) k (holds_held (history s q) p k A.message.2).counted
