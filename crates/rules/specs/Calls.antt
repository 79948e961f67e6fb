-- Document 01, "Answer areas" and "Where a call is stopped", with row 15 of document 02, slip 8: the outcome of each exported call, for
-- all bytes and numbers.
use Rattle.std.specs.Prelude.{Bool, true, false, not, cond, ◌||◌, List, [], ◌∷◌, ◌++◌, ℕ, suc, ◌+◌, ◌*◌, ◌^◌, leb, ltb, eqb, length}
use Rattle.std.specs.Int.Count.{ones}
use Rattle.xdr.specs.Words.{word, words, put_words}
use Rattle.rules.specs.Records.{History, State, history, number, sends, carried, send_place, has_send, has_receipt}
use Rattle.rules.specs.Table.{in_range, size, layout, fresh, decoded, well_laid}
use Rattle.rules.specs.Steps.{Call, checkpoint, send, receipt, next_number, forces, carries, grown, stepped}
use Rattle.rules.specs.Lines.{lacking, numbered_line, back_mask}
use Rattle.rules.specs.FailureLine.{failure_line}

-- ---- answers

-- the length of a step's answer area
abbrev pub area_length : Call → ℕ
area_length checkpoint = 4
area_length (send q) = 8
area_length (receipt q k) = 16

-- its words: the new number; send number and carried number; carried number, 1 if forced and 0 if not, place of the send among q's
-- records and of the receipt among p's, of which it is the last then, both counted from 1
abbrev pub answer : State → ℕ → Call → List ℕ
answer s p checkpoint = next_number (history s p) ∷ []
answer s p (send q) = suc (sends (history s p)) ∷ number (history s p) ∷ []
answer s p (receipt q k) =
    let c = carried (history s q) k in
    c ∷ cond (forces (history s p) c) 1 0 ∷ send_place (history s q) k ∷ length (grown (history s p) (receipt q k) c) ∷ []

-- a failure line's words: positions, the mask of the processes that go back, the count of ones in that mask
unfoldable pub failure_answer : ℕ → State → List ℕ
failure_answer mask s =
    let cut = failure_line mask s in
    let back = back_mask mask s cut in
    cut ++ (back ∷ ones back ∷ [])

-- ---- rows

-- a row of the table of checks: its number, and whether it is met
pub data Row : Type 0 where
  row : (number : ℕ) → (met : Bool) → Row

-- the number of the first row met, 0 if none is
abbrev pub first : List Row → ℕ
first [] = 0
first (row r true ∷ rows) = r
first (row r false ∷ rows) = first rows

-- the lent table: its length, its dimensions, its length, its words
abbrev pub table_rows : List ℕ → List Row
table_rows t =
    row 2 (ltb (length t) 8)
    ∷ row 1 (not (in_range (word t 0) (word t 1)))
    ∷ row 2 (not (eqb (length t) (size (word t 0) (word t 1))))
    ∷ row 3 (not (well_laid t))
    ∷ []

-- the other process and the message, where the call at p has them
abbrev pub message_rows : ℕ → State → ℕ → Call → List Row
message_rows n s p checkpoint = []
message_rows n s p (send q) = row 6 (leb n q || eqb q p) ∷ []
message_rows n s p (receipt q k) =
    row 6 (leb n q || eqb q p)
    ∷ row 7 (not (has_send (history s q) p k))
    ∷ row 8 (has_receipt (history s p) q k)
    ∷ []

-- the records that a call needs, where its message carries c
abbrev pub needed : History → Call → ℕ → ℕ
needed h checkpoint c = 1
needed h (send q) c = 1
needed h (receipt q k) c = cond (forces h c) 2 1

abbrev pub number_rows : ℕ → ℕ → History → Call → List Row
number_rows n E h checkpoint = row 10 (eqb (number h) (n * E)) ∷ []
number_rows n E h (send q) = []
number_rows n E h (receipt q k) = []

-- the rows behind the acting process
abbrev pub later_rows : ℕ → ℕ → State → ℕ → Call → List Row
later_rows n E s p call =
    message_rows n s p call
    ++ row 9 (ltb E (length (history s p) + needed (history s p) call (carries s call)))
    ∷ number_rows n E (history s p) call

-- a step's rows from the acting process on
abbrev pub call_rows : ℕ → ℕ → State → ℕ → Call → List Row
call_rows n E s p call = row 5 (leb n p) ∷ later_rows n E s p call

-- a step's rows from the answer area on, where the area has len bytes
abbrev pub step_rows : ℕ → ℕ → State → ℕ → Call → ℕ → List Row
step_rows n E s p call len = row 4 (not (eqb len (area_length call))) ∷ call_rows n E s p call

-- the rows of numbered line N and of a failure line from the answer area on
abbrev pub line_rows : ℕ → ℕ → State → ℕ → List Row
line_rows n N s len = row 4 (not (eqb len (4 * n))) ∷ row 15 (lacking N s) ∷ []

abbrev pub failure_rows : ℕ → ℕ → ℕ → List Row
failure_rows n mask len = row 4 (not (eqb len (4 * n + 8))) ∷ row 11 (leb (2 ^ n) mask) ∷ []

-- ---- outcomes

-- what a call leaves: the number returned, the table, the answer area, and a further area where it is lent one
pub record Outcome : Type 0 where
  pub returned : ℕ
  pub table : List ℕ
  pub area : List ℕ
  pub further : List ℕ

abbrev pub outcome_with : ℕ → List ℕ → List ℕ → List ℕ → Outcome
outcome_with r t a f = record { returned = r; table = t; area = a; further = f }

-- of a call that is lent no further area
abbrev pub outcome : ℕ → List ℕ → List ℕ → Outcome
outcome r t a = outcome_with r t a []

-- what it answers: the words of the area, if it was accepted
abbrev pub answer_words : Outcome → List ℕ
answer_words o = cond (eqb o.returned 0) (words o.area) []

-- The number r of the first row met is returned, and the table, the area and the further area stay untouched. If none is met, 0, with
-- the table t', the answer's words over the start of the area, whose other bytes stay, and the further area f'.
abbrev pub judged_with : ℕ → List ℕ → List ℕ → List ℕ → List ℕ → List ℕ → List ℕ → Outcome
judged_with r t a f t' ws f' = cond (eqb r 0) (outcome_with 0 t' (put_words a 0 ws) f') (outcome_with r t a f)

-- of a call that is lent no further area
abbrev pub judged : ℕ → List ℕ → List ℕ → List ℕ → List ℕ → Outcome
judged r t a t' ws = judged_with r t a [] t' ws []

-- fresh, which has no answer area
unfoldable pub fresh_on : List ℕ → ℕ → ℕ → Outcome
fresh_on t n E = judged (first (row 1 (not (in_range n E)) ∷ row 2 (not (eqb (length t) (size n E))) ∷ [])) t [] (layout n E (fresh n)) []

-- checkpoint, send and receipt at p
unfoldable pub step_on : List ℕ → List ℕ → ℕ → Call → Outcome
step_on t a p call =
    let n = word t 0 in
    let E = word t 1 in
    let s = decoded t in
    judged (first (table_rows t ++ step_rows n E s p call (length a))) t a (layout n E (stepped s p call)) (answer s p call)

-- numbered line N
unfoldable pub line_on : List ℕ → List ℕ → ℕ → Outcome
line_on t a N =
    let s = decoded t in
    judged (first (table_rows t ++ line_rows (word t 0) N s (length a))) t a t (numbered_line N s)

-- failure line
unfoldable pub failed_on : List ℕ → List ℕ → ℕ → Outcome
failed_on t a mask = judged (first (table_rows t ++ failure_rows (word t 0) mask (length a))) t a t (failure_answer mask (decoded t))
