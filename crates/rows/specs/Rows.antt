-- The rows of a step, as far as the functions of this crate check them one after the other.
use Rattle.std.specs.Prelude.{◌≡◌, not, cond, ◌||◌, List, [], ◌∷◌, ◌++◌, ℕ, ◌+◌, ◌<◌, eqb, leb, ltb, length}
use Rattle.xdr.specs.Words.{word}
use Rattle.rules.specs.Records.{History, history, number, carried, send_place, has_send, has_receipt}
use Rattle.rules.specs.Table.{start, decoded}
use Rattle.rules.specs.Steps.{Call}
use Rattle.rules.specs.Calls.{Row, row, first, table_rows, step_rows}
use Rattle.layout.specs.declared.Section.{Section}
use Rattle.layout.specs.declared.Table.{Table}
use Rattle.layout.specs.Tables.{state_of, Heads}
use Rattle.scans.specs.declared.Sent.{Sent}

-- an area that wants so many bytes, and the acting process of n
abbrev pub act_rows : ℕ → ℕ → ℕ → ℕ → List Row
act_rows n len want p = row 4 (not (eqb len want)) ∷ row 5 (leb n p) ∷ []

-- and the other process
abbrev pub pair_rows : ℕ → ℕ → ℕ → ℕ → ℕ → List Row
pair_rows n len want p q = act_rows n len want p ++ row 6 (leb n q || eqb q p) ∷ []

-- the message k of q to p, and the records left of E: h and g are the histories of p and q
abbrev pub receipt_rows : ℕ → History → History → ℕ → ℕ → ℕ → List Row
receipt_rows E h g p q k =
    row 7 (not (has_send g p k))
    ∷ row 8 (has_receipt h q k)
    ∷ row 9 (ltb E (length h + cond (ltb (number h) (carried g k)) 2 1))
    ∷ []

-- what is read of send k among the records g: the number that it carries and its place
abbrev pub Reads : History → ℕ → Sent → Type 0
Reads g k s = (s.carried ≡ carried g k) × (s.place ≡ send_place g k)

-- p is a process of the table, and this its section
abbrev pub Acts : Table → ℕ → Section → Type 0
Acts table p section = (p < table.n) × Heads section (start table.e p) (history (state_of table) p)

-- the same of the bytes that are lent
abbrev pub ActsIn : List ℕ → ℕ → Section → Type 0
ActsIn t p section = (p < word t 0) × Heads section (start (word t 1) p) (history (decoded t) p)

-- the row that stops a step on a well laid table
abbrev pub laid_row : Table → ℕ → Call → ℕ → ℕ
laid_row table p call len = first (step_rows table.n table.e (state_of table) p call len)

-- and on any bytes
abbrev pub step_row : List ℕ → ℕ → Call → ℕ → ℕ
step_row t p call len = first (table_rows t ++ step_rows (word t 0) (word t 1) (decoded t) p call len)
