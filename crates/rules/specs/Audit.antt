-- Document 02, slip 5: whether some run leaves a table's bytes, computed: the calls that its records name are made once more, sweep by
-- sweep one of each process, and what they leave is compared with it. That this computes what the document says, for every table, is the
-- theorem stated in theorems/specs/Audited.antt.
use Rattle.std.specs.Prelude.{Bool, not, cond, List, [], ◌∷◌, ◌++◌, map, ℕ, zero, suc, eqb, length, replicate}
use Rattle.std.proofs.Math.Option.{Option, none, some}
use Rattle.xdr.specs.Words.{word}
use Rattle.rules.specs.Compared.{same}
use Rattle.rules.specs.Records.{Event, basic, forced, sent, received, History, State, history, record_at}
use Rattle.rules.specs.Table.{layout, fresh, decoded}
use Rattle.rules.specs.Steps.{Call, checkpoint, send, receipt}
use Rattle.rules.specs.FailureLine.{sum}
use Rattle.rules.specs.Calls.{area_length, Row, row, first, table_rows, Outcome, judged_with}
use Rattle.rules.specs.Lists.{Entry, entry, run}

-- ---- the calls that records name

-- the call that adds a receipt, as a list; none where the record is no receipt
abbrev pub receipt_of : Option Event → List Call
receipt_of none = []
receipt_of (some (basic m)) = []
receipt_of (some (forced m)) = []
receipt_of (some (sent q)) = []
receipt_of (some (received q k c)) = receipt q k ∷ []

-- the call whose first record is this one, as a list: a forced checkpoint is added by the receipt behind it
abbrev pub call_of : Option Event → Option Event → List Call
call_of none behind = []
call_of (some (basic m)) behind = checkpoint ∷ []
call_of (some (forced m)) behind = receipt_of behind
call_of (some (sent q)) behind = send q ∷ []
call_of (some (received q k c)) behind = receipt q k ∷ []

-- the call that comes next on the way to h, after its first i records
abbrev pub due : History → ℕ → List Call
due h i = call_of (record_at (suc i) h) (record_at (suc (suc i)) h)

-- ---- made once more: s are the records of the table, c those that were made so far

-- an entry that is lent an area of the exact length
abbrev pub with_area : ℕ → Call → Entry
with_area p call = entry p call (replicate (area_length call) 0)

-- process p makes the call that comes next; one that is refused adds nothing
unfoldable pub advance : ℕ → ℕ → State → State → ℕ → State
advance n E s c p = run n E c (map (with_area p) (due (history s p) (length (history c p))))

-- so do the processes below p, one after the other
unfoldable pub sweep : ℕ → ℕ → State → ℕ → State → State
sweep n E s zero c = c
sweep n E s (suc p) c = advance n E s (sweep n E s p c) p

unfoldable pub sweeps : ℕ → ℕ → ℕ → State → State → State
sweeps zero n E s c = c
sweeps (suc k) n E s c = sweeps k n E s (sweep n E s n c)

-- Each sweep but the last adds a record, so as many sweeps as there are records are enough.
unfoldable pub replayed : ℕ → ℕ → State → State
replayed n E s = sweeps (sum (map length s)) n E s (fresh n)

-- these calls leave precisely the table's bytes
unfoldable pub audited : List ℕ → Bool
audited t = same (layout (word t 0) (word t 1) (replayed (word t 0) (word t 1) (decoded t))) t

-- ---- rows

-- the answer area isn't 4 bytes; the scratch has another length than the table
abbrev pub audit_rows : ℕ → ℕ → ℕ → List Row
audit_rows size area scratch = row 4 (not (eqb area 4)) ∷ row 14 (not (eqb scratch size)) ∷ []

-- ---- the outcome

-- 1 if some run leaves the table's bytes, else 0. What the scratch holds after an accepted call is left open: `left` is whatever it holds
-- then. A refused call leaves it as it was.
unfoldable pub audit_on : List ℕ → List ℕ → List ℕ → List ℕ → Outcome
audit_on t a scratch left =
    judged_with (first (table_rows t ++ audit_rows (length t) (length a) (length scratch))) t a scratch t (cond (audited t) 1 0 ∷ []) left
