-- Slip 5, stated. Proved as `audit_exact`, `audit_has` and `one_reading` in proofs/Audited.antt.
--
-- "Controllers load their table after a power cut, and a table can be well laid and yet come from no run: two receipts may each wait for
-- the other." So the call is held to what it says of every table: 1 "exactly if some run of accepted checkpoints, sends and receipts from
-- a fresh table leaves precisely these bytes, else 0" (Exact, by Made).
-- "A refused call leaves" the scratch "untouched", and the table and the answer area too, with the row's number (Audits).
-- "What the scratch holds after an accepted call may vary": `left` is whatever it holds then.
-- "A table that gets 1 has everything that was shown for made tables": Has.
use Rattle.std.specs.Prelude.{◌≡◌, ◌≢◌, ◌↔◌, List, [], ◌∷◌, ℕ, length}
use Rattle.xdr.specs.Words.{word, bytes}
use Rattle.rules.specs.Table.{decoded}
use Rattle.rules.specs.Steps.{Call}
use Rattle.rules.specs.Calls.{Outcome, outcome_with, first, table_rows, fresh_on, step_on}
use Rattle.rules.specs.Lists.{Entry, outcomes_on, table_after, MadeByCalls}
use Rattle.rules.specs.Audit.{audit_on}
use Rattle.theorems.specs.TwoLists.{Lined}
use Rattle.theorems.specs.BilledOnce.{Restarts}
use Rattle.theorems.specs.Saves.{AllUsed}

-- ---- 1 or 0

-- every one of these outcomes is that of an accepted call
abbrev pub NoneRefused : List Outcome → Type 0
NoneRefused [] = Unit {0}
NoneRefused (o ∷ os) = (o.returned ≡ 0) × NoneRefused os

-- "some run of accepted checkpoints, sends and receipts from a fresh table leaves precisely these bytes"
pub record Made (t : List ℕ) : Type 0 where
  -- the fresh table: what an accepted fresh call left, of whatever dimensions and whatever bytes it was lent
  pub n : ℕ
  pub E : ℕ
  pub lent : List ℕ
  pub begun : (fresh_on lent n E).returned ≡ 0
  -- the run: every call gets the table as the one before left it, and none is refused
  pub list : List Entry
  pub accepted : NoneRefused (outcomes_on (fresh_on lent n E).table list)
  pub leaves : table_after (fresh_on lent n E).table list ≡ t

-- What the exported call leaves of a well laid table t, an area a of 4 bytes and a scratch as long as the table.
pub record Exact (t a scratch left : List ℕ) : Type 0 where
  -- 0 is returned, the table stays as it was, and the area has one word, 1 or 0
  pub v : ℕ
  pub answered : audit_on t a scratch left ≡ outcome_with 0 t (bytes (v ∷ [])) left
  pub one : (v ≡ 1) ↔ Made t
  pub zero : (v ≡ 0) ↔ (Made t → ⊥)

-- What holds of every call, whatever it is lent.
pub record Audits (t a scratch left : List ℕ) : Type 0 where
  -- a table of another length, of other dimensions or that isn't well laid is refused as by every other call, the last with 3 and not 0
  pub table : first (table_rows t) ≢ 0 → audit_on t a scratch left ≡ outcome_with (first (table_rows t)) t a scratch
  pub area : first (table_rows t) ≡ 0 → length a ≢ 4 → audit_on t a scratch left ≡ outcome_with 4 t a scratch
  -- "14 when the scratch has another length, checked after 4"
  pub other : first (table_rows t) ≡ 0 → length a ≡ 4 → length scratch ≢ length t → audit_on t a scratch left ≡ outcome_with 14 t a scratch
  pub exact : first (table_rows t) ≡ 0 → length a ≡ 4 → length scratch ≡ length t → Exact t a scratch left

abbrev pub AuditExact : Type 0
AuditExact = (t a scratch left : List ℕ) → Audits t a scratch left

-- ---- what a table that gets 1 has

pub record Has (t : List ℕ) : Type 0 where
  -- it is made by accepted calls, of the dimensions that it begins with, so that whatever is shown of all such tables holds of it
  pub made : MadeByCalls (word t 0) (word t 1) t
  -- every numbered line is answered or refused as the documents say, and an answered one is without orphans
  pub lined : Lined (word t 0) t (decoded t)
  -- every checkpoint in it can be used
  pub saves : AllUsed (decoded t)
  -- no step on it meets row 10
  pub unmet : (area : List ℕ) (p : ℕ) (call : Call) → (step_on t area p call).returned ≢ 10
  -- after a restart each pulse is billed once
  pub restarts : Restarts (word t 0) t
  -- and whatever calls follow, refused ones included, the table that they leave is such a table too
  pub further : (l : List Entry) → MadeByCalls (word t 0) (word t 1) (table_after t l)

abbrev pub AuditHas : Type 0
AuditHas = (t a scratch left : List ℕ)
    → (audit_on t a scratch left).returned ≡ 0
    → word (audit_on t a scratch left).area 0 ≡ 1
    → Has t

-- ---- one reading

-- A list may have refused calls in it, as in TwoLists.antt, or none, as here: the same tables are made.
pub record SameTables (t : List ℕ) : Type 0 where
  pub without : (n E : ℕ) → MadeByCalls n E t → Made t
  pub with_some : Made t → MadeByCalls (word t 0) (word t 1) t

abbrev pub OneReading : Type 0
OneReading = (t : List ℕ) → SameTables t
