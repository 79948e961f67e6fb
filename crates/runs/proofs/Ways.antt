-- States that a run leaves on its way to others: one accepted call more.
use mathlib.Core.Path.{◌≡◌, refl, ap, ◌∙◌, subst}
use mathlib.Core.Logic.{◌≢◌}
use mathlib.Core.Bool.{true, false}
use mathlib.Core.List.{List, [], ◌∷◌, ◌++◌}
use Prim.Native.Nat.{ℕ, ◌+◌, ◌≤◌, ◌<◌}
use native.Mathlib.Omega.{arith}
use lib.ListN.{length, set}
use borrow.Author.Tests.{lt-leb, le-ltb, eq-eqb, ne_eqb}
use Rattle.rules.specs.Records.{History, State, history}
use Rattle.rules.specs.Table.{fresh}
use Rattle.rules.specs.Steps.{Call, checkpoint, send, receipt, carries, grown, stepped}
use Rattle.rules.specs.Calls.{Row, row, first, needed, number_rows}
use Rattle.rules.specs.Lists.{Entry, check, accepts, after, run}
use Rattle.rules.specs.Audit.{with_area}
use Rattle.basics.proofs.Older.{Older, none_older, older_length}
use Rattle.records.proofs.Steps.{Accepted, Message, history_fresh, each_step, grown_length}
use Rattle.records.proofs.Made.{Sound, made, never_ten}
use Rattle.runs.proofs.Rules.{Ruled, made_ruled}

-- ---- made states

-- some list of entries leaves the records s
pub record MadeState (n E : ℕ) (s : State) : Type 0 where
  pub list : List Entry
  pub leaves : run n E (fresh n) list ≡ s

pub sound : {n E : ℕ} {s : State} → MadeState n E s → Sound n E s
sound {n} {E} m = subst (Sound n E) m.leaves (made n E m.list)

pub ruled : {n E : ℕ} {s : State} → MadeState n E s → Ruled n s
ruled {n} {E} m = subst (Ruled n) m.leaves (made_ruled n E m.list)

pub none_made : (n E : ℕ) → MadeState n E (fresh n)
none_made n E = record { list = []; leaves = refl }

-- ---- one more call

-- the rows left are all numbered 10
abbrev Tens : List Row → Type 0
Tens [] = Unit {0}
Tens (row r b ∷ rs) = (r ≡ 10) × Tens rs

tens_none : (rs : List Row) → Tens rs → first rs ≢ 10 → first rs ≡ 0
tens_none [] t f = refl
tens_none (row r true ∷ rs) t f = absurd (f t.0)
tens_none (row r false ∷ rs) t f = tens_none rs t.1 f

-- what an accepted call has met is enough for it to be accepted: row 10 is never met
check_unmet : (n E : ℕ) (s : State) → Sound n E s → (p : ℕ) (call : Call) → Accepted n E s p call → check n E s (with_area p call) ≡ 0
unfolding check
check_unmet n E s M p checkpoint A =
    let free = le-ltb E (length (history s p) + 1) A.free in
    let unmet = never_ten n E s (with_area p checkpoint) M in
    rw (lt-leb n p A.within, free) (tens_none (number_rows n E (history s p) checkpoint) (refl, tt) (rw (lt-leb n p A.within, free) at unmet))
check_unmet n E s M p (send q) A =
    rw (lt-leb n p A.within, lt-leb n q A.message.0, ne_eqb q p A.message.1, le-ltb E (length (history s p) + 1) A.free)
check_unmet n E s M p (receipt q k) A =
    rw (
      lt-leb n p A.within,
      lt-leb n q A.message.0,
      ne_eqb q p A.message.1,
      A.message.2,
      A.message.3,
      le-ltb E (length (history s p) + needed (history s p) (receipt q k) (carries s (receipt q k))) A.free,
    )

pub accepted_accepts : (n E : ℕ) (s : State) → Sound n E s → (p : ℕ) (call : Call) → Accepted n E s p call → accepts n E s (with_area p call) ≡ true
accepted_accepts n E s M p call A = eq-eqb (check n E s (with_area p call)) 0 (check_unmet n E s M p call A)

run_append : (n E : ℕ) (s : State) (l r : List Entry) → run n E s (l ++ r) ≡ run n E (run n E s l) r
run_append n E s [] r = refl
run_append n E s (e ∷ l) r = run_append n E (after n E s e) l r

-- whatever further entries there are
pub made_more : (n E : ℕ) (s : State) (r : List Entry) → MadeState n E s → MadeState n E (run n E s r)
made_more n E s r m =
    record { list = m.list ++ r; leaves = run_append n E (fresh n) m.list r ∙ ap (λ (x : State). run n E x r) m.leaves }

made_one : (n E : ℕ) (s : State) (p : ℕ) (call : Call) → MadeState n E s → Accepted n E s p call → MadeState n E (stepped s p call)
made_one n E s p call m A =
    subst (MadeState n E) (rw (accepted_accepts n E s (sound m) p call A)) (made_more n E s (with_area p call ∷ []) m)

-- ---- on the way

-- a run leaves c, all of whose histories are older parts of those of s
pub record Reached (n E : ℕ) (s c : State) : Type 0 where
  pub made : MadeState n E c
  pub under : (p : ℕ) → Older (history c p) (history s p)

pub reached_fresh : (n E : ℕ) (s : State) → Reached n E s (fresh n)
reached_fresh n E s = record { made = none_made n E; under = λ p. rw (history_fresh n p) (none_older (history s p)) }

module _ {n E : ℕ} {s c : State} (R : Reached n E s c) (p : ℕ) (lt : p < n) where
  pub inside : p < length c
  inside = let z = (sound R.made).size in omega arith

  -- a call at p whose message is there and whose records stand in s is accepted
  pub acceptable : (call : Call) → Message n c p call → length (history s p) ≤ E
      → Older (grown (history c p) call (carries c call)) (history s p) → Accepted n E c p call
  acceptable call m short o =
      let a = grown_length (history c p) call (carries c call) in
      let b = older_length o in
      record { within = lt; message = m; free = omega arith }

  -- and goes on the way, to where p has the history g
  pub goes_on : (call : Call) {g : History} → grown (history c p) call (carries c call) ≡ g → Message n c p call → length (history s p) ≤ E
      → Older g (history s p) → Reached n E s (set c p g)
  goes_on call {g} e m short o =
      subst (λ (x : History). Reached n E s (set c p x)) e
      (record {
        made = made_one n E c p call R.made (acceptable call m short (rw e o));
        under = each_step (λ (r : ℕ) (h : History). Older h (history s r)) c p (grown (history c p) call (carries c call)) inside (rw e o) (λ r ne. R.under r);
      })
