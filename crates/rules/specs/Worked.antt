-- Document 01, "A worked controller".
use Rattle.std.specs.Prelude.{◌≡◌, refl, true, List, [], ◌∷◌, ◌++◌, map, ℕ, ◌*◌, replicate}
use Rattle.std.specs.Int.Count.{ones, ones_in}
use Rattle.xdr.specs.Words.{word, put_word, put_words, bytes}
use Rattle.rules.specs.Compared.{sames, same_equal, sames_equal}
use Rattle.rules.specs.Table.{size, layout, decoded, well_laid}
use Rattle.rules.specs.Steps.{Call, checkpoint, send, receipt}
use Rattle.rules.specs.FailureLine.{round, rounds, failure_line}
use Rattle.rules.specs.Calls.{Outcome, area_length, failure_answer, answer_words, fresh_on, step_on, line_on, failed_on}
use Rattle.rules.specs.Lists.{Entry, entry, outcomes_on, table_after}

-- Document 02, slip 3: "n = 2, E = 4 gives 160"; by the same formula the lengths for which document 01 has its own figures
abbrev lengths : List ℕ
lengths = size 1 1 ∷ size 2 4 ∷ size 8 256 ∷ size 16 1024 ∷ []

pub stated_lengths : lengths ≡ 36 ∷ 160 ∷ 32872 ∷ 262344 ∷ []
stated_lengths = same_equal lengths (36 ∷ 160 ∷ 32872 ∷ 262344 ∷ []) refl

-- the table that a fresh call leaves, whatever the bytes were
abbrev pub fresh_table : ℕ → ℕ → List ℕ
fresh_table n E = (fresh_on (replicate (size n E) 255) n E).table

-- an area of m words
abbrev pub area : ℕ → List ℕ
area m = replicate (4 * m) 255

-- an entry with an area of the exact length
abbrev pub exact : ℕ → Call → Entry
exact p call = entry p call (replicate (area_length call) 255)

abbrev pub worked_calls : List Entry
worked_calls =
    exact 0 checkpoint
    ∷ exact 0 (send 1)
    ∷ exact 1 (send 2)
    ∷ exact 1 (receipt 0 1)
    ∷ exact 1 (send 2)
    ∷ exact 2 (receipt 1 2)
    ∷ exact 2 (receipt 1 1)
    ∷ []

-- the table that they leave, section by section: each heading, the used records, and zeros
abbrev pub worked : List ℕ
worked =
    bytes
    (3 ∷ 6
    ∷ 2 ∷ 1 ∷ 1
    ∷ 1 ∷ 1 ∷ 0 ∷ 0 ∷ 3 ∷ 1 ∷ 1 ∷ 1 ∷ 0 ∷ 0 ∷ 0 ∷ 0 ∷ 0 ∷ 0 ∷ 0 ∷ 0 ∷ 0 ∷ 0 ∷ 0 ∷ 0 ∷ 0 ∷ 0 ∷ 0 ∷ 0
    ∷ 4 ∷ 1 ∷ 2
    ∷ 3 ∷ 2 ∷ 1 ∷ 0 ∷ 2 ∷ 1 ∷ 0 ∷ 0 ∷ 4 ∷ 0 ∷ 1 ∷ 1 ∷ 3 ∷ 2 ∷ 2 ∷ 1 ∷ 0 ∷ 0 ∷ 0 ∷ 0 ∷ 0 ∷ 0 ∷ 0 ∷ 0
    ∷ 3 ∷ 1 ∷ 0
    ∷ 2 ∷ 1 ∷ 0 ∷ 0 ∷ 4 ∷ 1 ∷ 2 ∷ 1 ∷ 4 ∷ 1 ∷ 1 ∷ 0 ∷ 0 ∷ 0 ∷ 0 ∷ 0 ∷ 0 ∷ 0 ∷ 0 ∷ 0 ∷ 0 ∷ 0 ∷ 0 ∷ 0
    ∷ [])

pub worked_table : table_after (fresh_table 3 6) worked_calls ≡ worked
unfolding fresh_on step_on layout decoded well_laid word put_word put_words
worked_table = same_equal (table_after (fresh_table 3 6) worked_calls) worked refl

-- what a call gives: the number returned, then the words answered
abbrev pub told : Outcome → List ℕ
told o = o.returned ∷ answer_words o

-- a case: what the rules give, and what the documents say
pub record Case : Type 0 where
  pub given : List ℕ
  pub stated : List ℕ

abbrev pub case : Outcome → List ℕ → Case
case o ws = record { given = told o; stated = ws }

abbrev all_given : List Case → List (List ℕ)
all_given cs = map (λ (c : Case). c.given) cs

abbrev all_stated : List Case → List (List ℕ)
all_stated cs = map (λ (c : Case). c.stated) cs

-- the rules give what the documents say, case by case
abbrev pub AsStated : List Case → Type 0
AsStated cs = all_given cs ≡ all_stated cs

pub as_stated : (cs : List Case) → sames (all_given cs) (all_stated cs) ≡ true → AsStated cs
as_stated cs e = sames_equal (all_given cs) (all_stated cs) e

-- P1 to P3, lines 0, 1 and 2 (document 02, slip 8: "P3 turns into a refusal"); P4 to P8, masks 0, 1, 2, 4 and 8; P9 and P10, two
-- receipts
abbrev pub cases : List Case
cases =
    case (line_on worked (area 3) 0) (0 ∷ 0 ∷ 0 ∷ 0 ∷ [])
    ∷ case (line_on worked (area 3) 1) (0 ∷ 1 ∷ 2 ∷ 1 ∷ [])
    ∷ case (line_on worked (area 3) 2) (15 ∷ [])
    ∷ case (failed_on worked (area 5) 0) (0 ∷ 2 ∷ 4 ∷ 3 ∷ 0 ∷ 0 ∷ [])
    ∷ case (failed_on worked (area 5) 1) (0 ∷ 1 ∷ 2 ∷ 1 ∷ 7 ∷ 3 ∷ [])
    ∷ case (failed_on worked (area 5) 2) (0 ∷ 2 ∷ 2 ∷ 1 ∷ 6 ∷ 2 ∷ [])
    ∷ case (failed_on worked (area 5) 4) (0 ∷ 2 ∷ 4 ∷ 1 ∷ 4 ∷ 1 ∷ [])
    ∷ case (failed_on worked (area 5) 8) (11 ∷ [])
    ∷ case (step_on worked (area 4) 2 (receipt 1 1)) (8 ∷ [])
    ∷ case (step_on worked (area 4) 1 (receipt 0 2)) (7 ∷ [])
    ∷ []

pub worked_cases : AsStated cases
unfolding fresh_on step_on line_on failed_on layout decoded well_laid word put_word put_words failure_answer failure_line rounds round ones ones_in
worked_cases = as_stated cases refl

-- the worked calls' answers; document 02, slip 4: "the worked controller's receipts add 2, 3, then 4, 2, then 1, 3"
abbrev worked_answers : List (List ℕ)
worked_answers =
    (0 ∷ 1 ∷ [])
    ∷ (0 ∷ 1 ∷ 1 ∷ [])
    ∷ (0 ∷ 1 ∷ 0 ∷ [])
    ∷ (0 ∷ 1 ∷ 1 ∷ 2 ∷ 3 ∷ [])
    ∷ (0 ∷ 2 ∷ 1 ∷ [])
    ∷ (0 ∷ 1 ∷ 1 ∷ 4 ∷ 2 ∷ [])
    ∷ (0 ∷ 0 ∷ 0 ∷ 1 ∷ 3 ∷ [])
    ∷ []

pub worked_answers_lem : map told (outcomes_on (fresh_table 3 6) worked_calls) ≡ worked_answers
unfolding fresh_on step_on layout decoded well_laid word put_word put_words
worked_answers_lem = sames_equal (map told (outcomes_on (fresh_table 3 6) worked_calls)) worked_answers refl

-- Document 02, slip 2: "with n = 2, checkpoint 0, mask 1, the positions 1, 0 stay and the mask and count become 1, 1". Process 0 is at its
-- count and goes back since it failed; so does process 1 with mask 2, at its initial checkpoint; and nobody with mask 0.
abbrev pub just_saved : List ℕ
just_saved = table_after (fresh_table 2 4) (exact 0 checkpoint ∷ [])

abbrev saved_cases : List Case
saved_cases =
    case (failed_on just_saved (area 4) 1) (0 ∷ 1 ∷ 0 ∷ 1 ∷ 1 ∷ [])
    ∷ case (failed_on just_saved (area 4) 2) (0 ∷ 1 ∷ 0 ∷ 2 ∷ 1 ∷ [])
    ∷ case (failed_on just_saved (area 4) 3) (0 ∷ 1 ∷ 0 ∷ 3 ∷ 2 ∷ [])
    ∷ case (failed_on just_saved (area 4) 0) (0 ∷ 1 ∷ 0 ∷ 0 ∷ 0 ∷ [])
    ∷ []

pub just_saved_lem : AsStated saved_cases
unfolding fresh_on step_on failed_on layout decoded well_laid word put_word put_words failure_answer failure_line rounds round ones ones_in
just_saved_lem = as_stated saved_cases refl

-- Receipts that carry the receiver's own number force nothing: 0 carries 1 to 1, which has a checkpoint of its own numbered 1.
pub equal_number : map told (outcomes_on (fresh_table 2 4) (exact 0 checkpoint ∷ exact 1 checkpoint ∷ exact 0 (send 1) ∷ exact 1 (receipt 0 1) ∷ []))
    ≡ (0 ∷ 1 ∷ []) ∷ (0 ∷ 1 ∷ []) ∷ (0 ∷ 1 ∷ 1 ∷ []) ∷ (0 ∷ 1 ∷ 0 ∷ 2 ∷ 2 ∷ []) ∷ []
unfolding fresh_on step_on layout decoded well_laid word put_word put_words
equal_number = refl

-- No run makes this table: process 1 has a receipt of send 1 of process 0, which goes to 2. It is an orphan in every cut, so process 1
-- goes back although none failed.
pub other_destination : told (failed_on
    (bytes (3 ∷ 1 ∷ 1 ∷ 0 ∷ 1 ∷ 3 ∷ 2 ∷ 1 ∷ 0 ∷ 1 ∷ 0 ∷ 0 ∷ 4 ∷ 0 ∷ 1 ∷ 0 ∷ 0 ∷ 0 ∷ 0 ∷ 0 ∷ 0 ∷ 0 ∷ 0 ∷ [])) (area 5) 0)
    ≡ 0 ∷ 1 ∷ 0 ∷ 0 ∷ 2 ∷ 1 ∷ []
unfolding failed_on decoded well_laid word put_word put_words failure_answer failure_line rounds round ones ones_in
other_destination = refl

-- ---- Document 02, slip 3: the fourth word of a record

-- n = 2, E = 2: process 0 has two records, of which s are sends, and its number is 3
abbrev two_records : ℕ → List ℕ → List ℕ → List ℕ
two_records s first second = bytes (2 ∷ 2 ∷ 2 ∷ 3 ∷ s ∷ (first ++ second ++ replicate 11 0))

-- records with the fourth word c: a checkpoint numbered 3, send 1 to process 1, a receipt of send 2 of process 1
abbrev save : ℕ → List ℕ
save c = 1 ∷ 3 ∷ 0 ∷ c ∷ []

abbrev out : ℕ → List ℕ
out c = 3 ∷ 1 ∷ 1 ∷ c ∷ []

abbrev arrived : ℕ → List ℕ
arrived c = 4 ∷ 1 ∷ 2 ∷ c ∷ []

-- line 0 of such a table: answered where it is well laid, else row 3
abbrev laid : ℕ → List ℕ → List ℕ → Outcome
laid s first second = line_on (two_records s first second) (area 2) 0

-- A send's word is the number of the last checkpoint before it, no less and no more, and not of one that follows it; a receipt's is at
-- most that number, and again the one before it counts; a checkpoint's is 0.
abbrev word_cases : List Case
word_cases =
    case (laid 1 (save 0) (out 3)) (0 ∷ 0 ∷ 0 ∷ [])
    ∷ case (laid 1 (save 0) (out 2)) (3 ∷ [])
    ∷ case (laid 1 (save 0) (out 4)) (3 ∷ [])
    ∷ case (laid 1 (out 0) (save 0)) (0 ∷ 0 ∷ 0 ∷ [])
    ∷ case (laid 1 (out 3) (save 0)) (3 ∷ [])
    ∷ case (laid 0 (save 0) (arrived 3)) (0 ∷ 0 ∷ 0 ∷ [])
    ∷ case (laid 0 (save 0) (arrived 1)) (0 ∷ 0 ∷ 0 ∷ [])
    ∷ case (laid 0 (save 0) (arrived 4)) (3 ∷ [])
    ∷ case (laid 0 (arrived 0) (save 0)) (0 ∷ 0 ∷ 0 ∷ [])
    ∷ case (laid 0 (arrived 3) (save 0)) (3 ∷ [])
    ∷ case (laid 0 (save 0) (save 0)) (0 ∷ 0 ∷ 0 ∷ [])
    ∷ case (laid 0 (save 1) (save 0)) (3 ∷ [])
    ∷ []

pub word_cases_lem : AsStated word_cases
unfolding line_on decoded well_laid word put_word put_words
word_cases_lem = as_stated word_cases refl

-- a table as long as document 01 had it for n = 2, E = 4, with three words a record, has another length
pub old_length : (fresh_on (replicate 128 0) 2 4).returned ≡ 2
unfolding fresh_on layout
old_length = refl

-- ---- Document 02, slip 4: "Check 4 uses 16 for receipts"

-- P9 with areas of 8 bytes, as document 01 had it, of 12, 16 and 20
abbrev area_cases : List Case
area_cases =
    case (step_on worked (area 2) 2 (receipt 1 1)) (4 ∷ [])
    ∷ case (step_on worked (area 3) 2 (receipt 1 1)) (4 ∷ [])
    ∷ case (step_on worked (area 4) 2 (receipt 1 1)) (8 ∷ [])
    ∷ case (step_on worked (area 5) 2 (receipt 1 1)) (4 ∷ [])
    ∷ []

pub area_cases_lem : AsStated area_cases
unfolding step_on layout decoded well_laid word put_word put_words
area_cases_lem = as_stated area_cases refl
