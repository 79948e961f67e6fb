-- Document 01, "Lists of calls".
use Rattle.std.specs.Prelude.{◌≡◌, Bool, cond, ◌&&◌, List, [], ◌∷◌, ◌++◌, ℕ, eqb, length}
use Rattle.rules.specs.Records.{State}
use Rattle.rules.specs.Table.{layout}
use Rattle.rules.specs.Steps.{Call, stepped}
use Rattle.rules.specs.Calls.{Outcome, first, step_rows, answer, judged, fresh_on, step_on}

-- an entry of a list: a call at p, and the answer area that it is lent for itself
pub data Entry : Type 0 where
  entry : (p : ℕ) → Call → (area : List ℕ) → Entry

-- ---- a list run on a lent table: every call gets the table as the one before left it

abbrev pub entry_on : List ℕ → Entry → Outcome
entry_on t (entry p call area) = step_on t area p call

abbrev pub outcomes_on : List ℕ → List Entry → List Outcome
outcomes_on t [] = []
outcomes_on t (e ∷ l) = entry_on t e ∷ outcomes_on (entry_on t e).table l

-- the table after the list
abbrev pub table_after : List ℕ → List Entry → List ℕ
table_after t [] = t
table_after t (e ∷ l) = table_after (entry_on t e).table l

-- a table made by accepted calls: what a list leaves that begins on the whole table that an accepted fresh call left
pub record MadeByCalls (n E : ℕ) (t : List ℕ) : Type 0 where
  pub lent : List ℕ
  pub accepted : (fresh_on lent n E).returned ≡ 0
  pub list : List Entry
  pub leaves : table_after (fresh_on lent n E).table list ≡ t

-- the call of an entry, as a list, where it is at process p and returned r = 0
abbrev pub accepted_call : ℕ → ℕ → Entry → List Call
accepted_call p r (entry q call area) = cond (eqb r 0 && eqb q p) (call ∷ []) []

-- process p's accepted calls: those of the list that return 0 and have it as p
abbrev pub accepted_calls : ℕ → List Entry → List Outcome → List Call
accepted_calls p [] os = []
accepted_calls p (e ∷ l) [] = []
accepted_calls p (e ∷ l) (o ∷ os) = accepted_call p o.returned e ++ accepted_calls p l os

-- ---- what this document says for a list, from the entries alone; s are the records so far

-- the row that stops an entry, from the answer area on
unfoldable pub check : ℕ → ℕ → State → Entry → ℕ
check n E s (entry p call area) = first (step_rows n E s p call (length area))

abbrev pub accepts : ℕ → ℕ → State → Entry → Bool
accepts n E s e = eqb (check n E s e) 0

-- the records after an entry: those of its step are added if no row is met
abbrev pub after : ℕ → ℕ → State → Entry → State
after n E s (entry p call area) = cond (accepts n E s (entry p call area)) (stepped s p call) s

abbrev pub run : ℕ → ℕ → State → List Entry → State
run n E s [] = s
run n E s (e ∷ l) = run n E (after n E s e) l

-- an entry's outcome
unfoldable pub said : ℕ → ℕ → State → Entry → Outcome
said n E s (entry p call area) =
    judged (check n E s (entry p call area)) (layout n E s) area (layout n E (stepped s p call)) (answer s p call)

abbrev pub said_all : ℕ → ℕ → State → List Entry → List Outcome
said_all n E s [] = []
said_all n E s (e ∷ l) = said n E s e ∷ said_all n E (after n E s e) l
