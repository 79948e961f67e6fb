-- Slip 5: what the audit answers, and what a table has that gets 1: the theorems stated in specs/Audited.antt.
use mathlib.Core.Path.{◌≡◌, refl, sym, ap, ◌∙◌, subst, subst₂}
use mathlib.Core.Logic.{◌≢◌, ◌↔◌}
use mathlib.Core.Bool.{Bool, true, false, not, cond}
use mathlib.Core.List.{List, [], ◌∷◌, ◌++◌}
use Prim.Native.Nat.{ℕ}
use native.Mathlib.Omega.{arith}
use lib.Dec.{eqb}
use lib.ListN.{length}
use borrow.Author.Tests.{eq-eqb, ne_eqb, eqb-true, le-leb, not-false}
use Rattle.xdr.specs.Words.{word, bytes}
use Rattle.xdr.proofs.Words.{word_bytes}
use Rattle.xdr.proofs.Puts.{whole_put}
use Rattle.rules.specs.Records.{State}
use Rattle.rules.specs.Table.{in_range, size, layout, fresh, decoded}
use Rattle.rules.specs.Steps.{Call}
use Rattle.rules.specs.Calls.{Outcome, Row, row, first, table_rows, outcome_with, fresh_on, step_on}
use Rattle.rules.specs.Lists.{Entry, entry, entry_on, table_after, MadeByCalls, check, accepts, after, run, said_all}
use Rattle.rules.specs.Audit.{audit_rows, audited, audit_on}
use Rattle.theorems.specs.TwoLists.{Lined, AfterList}
use Rattle.theorems.specs.Audited.{NoneRefused, Made, Exact, AuditExact, Has, AuditHas, OneReading}
use Rattle.basics.proofs.Booleans.{Test, passes, fails, test, clash}
use Rattle.records.proofs.Rows.{none_met, first_append, first_none, split_zero, stopped, judged_returned, judged_stop_with}
use Rattle.records.proofs.Made.{Sound, never_ten}
use Rattle.tables.proofs.Laid.{layout_n, layout_e, layout_length}
use Rattle.tables.proofs.Ranges.{InRange, in_range_lem}
use Rattle.runs.proofs.Ways.{sound}
use Rattle.runs.proofs.Tables.{MadeTable, audited_table}
use Rattle.theorems.proofs.SameCalls.{said_returned}
use Rattle.theorems.proofs.Saves.{every_save}
use Rattle.theorems.proofs.Demand3.{entry_said, lined, Holds, made_holds, two_lists}
use Rattle.theorems.proofs.BilledOnce.{billed_once}

-- ---- the refused entries of a list may be left out

-- a list without refused entries that leads from x to s
record Accepts (n E : ℕ) (x s : State) : Type 0 where
  list : List Entry
  accepted : NoneRefused (said_all n E x list)
  leaves : run n E x list ≡ s

skipped : (n E : ℕ) (x : State) (e : Entry) → accepts n E x e ≡ false → after n E x e ≡ x
skipped n E x (entry p call area) y = rw y

accepted_run : (n E : ℕ) (l : List Entry) (x : State) → Accepts n E x (run n E x l)
accepted_run n E [] x = record { list = []; accepted = tt; leaves = refl }
accepted_run n E (e ∷ l) x = go (test (accepts n E x e)) (accepted_run n E l (after n E x e))
  where
    go : Test (accepts n E x e) → Accepts n E (after n E x e) (run n E (after n E x e) l) → Accepts n E x (run n E (after n E x e) l)
    go (passes y) R = record {
      list = e ∷ R.list;
      accepted = (said_returned n E x e ∙ eqb-true (check n E x e) 0 y, R.accepted);
      leaves = R.leaves;
    }
    go (fails y) R = subst (λ (z : State). Accepts n E z (run n E (after n E x e) l)) (skipped n E x e y) R

-- ---- made tables

module _ (n E : ℕ) (d : InRange n E) (t : List ℕ) (M : MadeTable n E t) where
  abbrev s : State
  s = decoded t

  -- t itself may be lent
  begun : (fresh_on t n E).returned ≡ 0
  unfolding fresh_on
  begun =
      let l : length t ≡ size n E = ap length M.is ∙ layout_length n E d s (sound M.made) in
      judged_returned (first (row 1 (not (in_range n E)) ∷ row 2 (not (eqb (length t) (size n E))) ∷ [])) t [] (layout n E (fresh n)) []
      ∙ rw (le-leb 1 n d.some_process, le-leb n 16 d.processes, le-leb 1 E d.some_record, le-leb E 1024 d.records, eq-eqb (length t) (size n E) l)

  left_by : (l : List Entry) → AfterList n E (fresh_on t n E).table l (run n E (fresh n) l)
  left_by l = (two_lists n E t t l l begun begun).one

  pub table_calls : MadeByCalls n E t
  table_calls = record {
    lent = t;
    accepted = begun;
    list = M.made.list;
    leaves = (left_by M.made.list).left ∙ ap (layout n E) M.made.leaves ∙ sym M.is;
  }

  pub table_made : Made t
  table_made =
      let R = accepted_run n E M.made.list (fresh n) in
      let A = left_by R.list in
      record {
        n = n;
        E = E;
        lent = t;
        begun = begun;
        list = R.list;
        accepted = rw A.answered R.accepted;
        leaves = A.left ∙ ap (layout n E) (R.leaves ∙ M.made.leaves) ∙ sym M.is;
      }

made_calls : (t : List ℕ) (m : Made t) → MadeByCalls m.n m.E t
made_calls t m = record { lent = m.lent; accepted = m.begun; list = m.list; leaves = m.leaves }

-- such a table begins with its dimensions
first_word : (n E : ℕ) (t : List ℕ) → Holds n E t → word t 0 ≡ n
first_word n E t H = ap (λ (x : List ℕ). word x 0) H.is ∙ layout_n n E H.range (decoded t) (sound H.made)

second_word : (n E : ℕ) (t : List ℕ) → Holds n E t → word t 1 ≡ E
second_word n E t H = ap (λ (x : List ℕ). word x 1) H.is ∙ layout_e n E H.range (decoded t) (sound H.made)

pub one_reading : OneReading
one_reading t = record {
  without = λ n E C. let H = made_holds n E t C in table_made n E H.range t (record { made = H.made; is = H.is });
  with_some = λ m.
      let C = made_calls t m in
      let H = made_holds m.n m.E t C in
      subst₂ (λ (x y : ℕ). MadeByCalls x y t) (sym (first_word m.n m.E t H)) (sym (second_word m.n m.E t H)) C;
}

-- the test decides it
audited_calls : (t : List ℕ) → InRange (word t 0) (word t 1) → (audited t ≡ true) ↔ Made t
audited_calls t d = (
  λ e. table_made (word t 0) (word t 1) d t ((audited_table t d).0 e),
  λ m. let H = made_holds (word t 0) (word t 1) t ((one_reading t).with_some m) in (audited_table t d).1 (record { made = H.made; is = H.is }),
)

-- ---- the rows

module _ (t a scratch left : List ℕ) where
  abbrev rows : List Row
  rows = audit_rows (length t) (length a) (length scratch)

  abbrev answer_word : ℕ
  answer_word = cond (audited t) 1 0

  met_table : first (table_rows t) ≢ 0 → audit_on t a scratch left ≡ outcome_with (first (table_rows t)) t a scratch
  unfolding audit_on
  met_table ne =
      sym (judged_stop_with t a scratch t (answer_word ∷ []) left (stopped (table_rows t) rows tt refl ne) ne)

  module _ (laid : first (table_rows t) ≡ 0) where
    beyond : first (table_rows t ++ rows) ≡ first rows
    beyond = first_append (table_rows t) rows (none_met (table_rows t) tt laid)

    range : InRange (word t 0) (word t 1)
    range = in_range_lem (word t 0) (word t 1) (not-false (in_range (word t 0) (word t 1)) (none_met (table_rows t) tt laid).1.0)

    met_area : length a ≢ 4 → audit_on t a scratch left ≡ outcome_with 4 t a scratch
    unfolding audit_on
    met_area ne = rw (beyond, ne_eqb (length a) 4 ne)

    met_scratch : length a ≡ 4 → length scratch ≢ length t → audit_on t a scratch left ≡ outcome_with 14 t a scratch
    unfolding audit_on
    met_scratch e ne = rw (beyond, eq-eqb (length a) 4 e, ne_eqb (length scratch) (length t) ne)

    one_word : (b : Bool) → (b ≡ true) ↔ Made t → ◌≡◌ {A = ℕ} (cond b 1 0) 1 ↔ Made t
    one_word true D = (λ e. D.0 refl, λ m. refl)
    one_word false D = (λ e. absurd (omega arith), λ m. clash false (D.1 m) refl)

    zero_word : (b : Bool) → (b ≡ true) ↔ Made t → ◌≡◌ {A = ℕ} (cond b 1 0) 0 ↔ (Made t → ⊥)
    zero_word true D = (λ e. absurd (omega arith), λ no. absurd (no (D.0 refl)))
    zero_word false D = (λ e m. clash false (D.1 m) refl, λ no. refl)

    answered : length a ≡ 4 → length scratch ≡ length t → audit_on t a scratch left ≡ outcome_with 0 t (bytes (answer_word ∷ [])) left
    unfolding audit_on
    answered e f =
        rw (beyond, eq-eqb (length a) 4 e, eq-eqb (length scratch) (length t) f)
        (ap (λ (b : List ℕ). outcome_with 0 t b left) (whole_put a (answer_word ∷ []) e))

    exact : length a ≡ 4 → length scratch ≡ length t → Exact t a scratch left
    exact e f =
        let D = audited_calls t range in
        record { v = answer_word; answered = answered e f; one = one_word (audited t) D; zero = zero_word (audited t) D }

  -- an accepted call met none
  none_met_by : (audit_on t a scratch left).returned ≡ 0 → first (table_rows t ++ rows) ≡ 0
  unfolding audit_on
  none_met_by z = go (test (eqb (first (table_rows t ++ rows)) 0))
    where
      go : Test (eqb (first (table_rows t ++ rows)) 0) → first (table_rows t ++ rows) ≡ 0
      go (passes e) = eqb-true (first (table_rows t ++ rows)) 0 e
      go (fails e) = rw e at z

pub audit_exact : AuditExact
audit_exact t a scratch left =
    record { table = met_table t a scratch left; area = met_area t a scratch left; other = met_scratch t a scratch left; exact = exact t a scratch left }

-- ---- what a table has that gets 1

after_append : (t : List ℕ) (l r : List Entry) → table_after t (l ++ r) ≡ table_after (table_after t l) r
after_append t [] r = refl
after_append t (e ∷ l) r = after_append (entry_on t e).table l r

-- whatever calls follow
calls_more : (n E : ℕ) (t : List ℕ) (l : List Entry) → MadeByCalls n E t → MadeByCalls n E (table_after t l)
calls_more n E t l C = record {
  lent = C.lent;
  accepted = C.accepted;
  list = C.list ++ l;
  leaves = after_append (fresh_on C.lent n E).table C.list l ∙ ap (λ (x : List ℕ). table_after x l) C.leaves;
}

module _ (t : List ℕ) (C : MadeByCalls (word t 0) (word t 1) t) where
  abbrev n : ℕ
  n = word t 0

  abbrev E : ℕ
  E = word t 1

  H : Holds n E t
  H = made_holds n E t C

  held : Sound n E (decoded t)
  held = sound H.made

  unmet_lem : (area : List ℕ) (p : ℕ) (call : Call) → (step_on t area p call).returned ≢ 10
  unmet_lem area p call x =
      let e = entry p call area in
      let said_is : (entry_on t e).returned ≡ check n E (decoded t) e =
      ap (λ (y : List ℕ). (entry_on y e).returned) H.is
      ∙ ap (λ (o : Outcome). o.returned) (entry_said n E H.range (decoded t) held e)
      ∙ said_returned n E (decoded t) e
      in
      never_ten n E (decoded t) e held (sym said_is ∙ x)

  has : Has t
  has = record {
    made = C;
    lined = subst (λ (x : List ℕ). Lined n x (decoded t)) (sym H.is) (lined n E H.range (decoded t) held);
    saves = every_save n E t C;
    unmet = unmet_lem;
    restarts = billed_once n E t C;
    further = λ l. calls_more n E t l C;
  }

-- the word answered says whether the test is passed
says : (b : Bool) → word (bytes (cond b 1 0 ∷ [])) 0 ≡ 1 → b ≡ true
says true e = refl
says false e = let z = word_bytes (0 ∷ []) 0 (omega arith) (omega arith) in absurd (omega arith)

pub audit_has : AuditHas
audit_has t a scratch left z one =
    let m = split_zero (table_rows t) (audit_rows (length t) (length a) (length scratch)) tt (none_met_by t a scratch left z) in
    let r = none_met (audit_rows (length t) (length a) (length scratch)) tt m.1 in
    let laid = first_none (table_rows t) m.0 in
    let is = answered t a scratch left laid
    (eqb-true (length a) 4 (not-false (eqb (length a) 4) r.0))
    (eqb-true (length scratch) (length t) (not-false (eqb (length scratch) (length t)) r.1.0))
    in
    let yes = says (audited t) (sym (ap (λ (o : Outcome). word o.area 0) is) ∙ one) in
    has t (table_calls (word t 0) (word t 1) (range t a scratch left laid) t ((audited_table t (range t a scratch left laid)).0 yes))
