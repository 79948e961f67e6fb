-- Document 02, slip 7, worked: which rule moved a process.
use Rattle.std.specs.Prelude.{refl, List, [], ◌∷◌, ℕ}
use Rattle.xdr.specs.Words.{word, put_word, put_words, bytes}
use Rattle.rules.specs.Table.{layout, decoded, well_laid}
use Rattle.rules.specs.Steps.{checkpoint, send, receipt}
use Rattle.rules.specs.FailureLine.{round, rounds, failure_line}
use Rattle.rules.specs.Calls.{fresh_on, step_on}
use Rattle.rules.specs.Grounds.{grounds, grounds_on}
use Rattle.rules.specs.Lists.{table_after}
use Rattle.rules.specs.Worked.{Case, case, AsStated, as_stated, area, exact, fresh_table, worked, just_saved}
use Rattle.rules.specs.WorkedResend.{stray_receipt}

-- The worked controller, masks 0 to 7. With mask 1 process 1 is moved by its receipt at place 3, and process 2 by the one at 2, since
-- process 1 moved. Then a mask with a bit at 3, areas of 5 and 7 words, and both: the area is checked before the mask.
abbrev pub grounds_cases : List Case
grounds_cases =
    case (grounds_on worked (area 6) 0) (0 ∷ 0 ∷ 0 ∷ 0 ∷ 0 ∷ 0 ∷ 0 ∷ [])
    ∷ case (grounds_on worked (area 6) 1) (0 ∷ 1 ∷ 0 ∷ 2 ∷ 3 ∷ 2 ∷ 2 ∷ [])
    ∷ case (grounds_on worked (area 6) 2) (0 ∷ 0 ∷ 0 ∷ 1 ∷ 0 ∷ 2 ∷ 2 ∷ [])
    ∷ case (grounds_on worked (area 6) 3) (0 ∷ 1 ∷ 0 ∷ 1 ∷ 0 ∷ 2 ∷ 2 ∷ [])
    ∷ case (grounds_on worked (area 6) 4) (0 ∷ 0 ∷ 0 ∷ 0 ∷ 0 ∷ 1 ∷ 0 ∷ [])
    ∷ case (grounds_on worked (area 6) 5) (0 ∷ 1 ∷ 0 ∷ 2 ∷ 3 ∷ 1 ∷ 0 ∷ [])
    ∷ case (grounds_on worked (area 6) 6) (0 ∷ 0 ∷ 0 ∷ 1 ∷ 0 ∷ 1 ∷ 0 ∷ [])
    ∷ case (grounds_on worked (area 6) 7) (0 ∷ 1 ∷ 0 ∷ 1 ∷ 0 ∷ 1 ∷ 0 ∷ [])
    ∷ case (grounds_on worked (area 6) 8) (11 ∷ [])
    ∷ case (grounds_on worked (area 5) 0) (4 ∷ [])
    ∷ case (grounds_on worked (area 7) 8) (4 ∷ [])
    ∷ []

pub grounds_cases_lem : AsStated grounds_cases
unfolding grounds_on grounds decoded well_laid word put_word put_words failure_line rounds round
grounds_cases_lem = as_stated grounds_cases refl

-- n = 2, E = 4. A failed process is at its last checkpoint where it has no checkpoint record, at 0, and where that is its count. Where
-- process 0 fails behind a send, process 1 goes back to 0 by its receipt, at 1; so it does where it fails too, but has saved behind the
-- receipt: it isn't at its last checkpoint.
abbrev sent_once : List ℕ
sent_once = table_after (fresh_table 2 4) (exact 0 (send 1) ∷ exact 1 (receipt 0 1) ∷ [])

abbrev saved_behind : List ℕ
saved_behind = table_after (fresh_table 2 4) (exact 0 (send 1) ∷ exact 1 (receipt 0 1) ∷ exact 1 checkpoint ∷ [])

abbrev failed_cases : List Case
failed_cases =
    case (grounds_on (fresh_table 2 4) (area 4) 3) (0 ∷ 1 ∷ 0 ∷ 1 ∷ 0 ∷ [])
    ∷ case (grounds_on just_saved (area 4) 0) (0 ∷ 0 ∷ 0 ∷ 0 ∷ 0 ∷ [])
    ∷ case (grounds_on just_saved (area 4) 1) (0 ∷ 1 ∷ 0 ∷ 0 ∷ 0 ∷ [])
    ∷ case (grounds_on sent_once (area 4) 1) (0 ∷ 1 ∷ 0 ∷ 2 ∷ 1 ∷ [])
    ∷ case (grounds_on saved_behind (area 4) 3) (0 ∷ 1 ∷ 0 ∷ 2 ∷ 1 ∷ [])
    ∷ case (grounds_on saved_behind (area 4) 2) (0 ∷ 0 ∷ 0 ∷ 1 ∷ 0 ∷ [])
    ∷ []

pub failed_cases_lem : AsStated failed_cases
unfolding fresh_on step_on layout grounds_on grounds decoded well_laid word put_word put_words failure_line rounds round
failed_cases_lem = as_stated failed_cases refl

-- No runs make these tables, in which nobody failed. n = 3, E = 2: process 1 has a receipt of send 1 of process 0, which goes to 2, and its
-- send is inside the cut. n = 2, E = 3: process 0 has two receipts of sends that aren't there, at places 1 and 3; the first counts.
abbrev two_missing : List ℕ
two_missing =
    bytes
    (2 ∷ 3
    ∷ 3 ∷ 1 ∷ 0 ∷ 4 ∷ 1 ∷ 1 ∷ 0 ∷ 1 ∷ 1 ∷ 0 ∷ 0 ∷ 4 ∷ 1 ∷ 2 ∷ 0
    ∷ 0 ∷ 0 ∷ 0 ∷ 0 ∷ 0 ∷ 0 ∷ 0 ∷ 0 ∷ 0 ∷ 0 ∷ 0 ∷ 0 ∷ 0 ∷ 0 ∷ 0
    ∷ [])

abbrev stray_cases : List Case
stray_cases =
    case (grounds_on stray_receipt (area 6) 0) (0 ∷ 0 ∷ 0 ∷ 2 ∷ 2 ∷ 0 ∷ 0 ∷ [])
    ∷ case (grounds_on two_missing (area 4) 0) (0 ∷ 2 ∷ 1 ∷ 0 ∷ 0 ∷ [])
    ∷ case (grounds_on two_missing (area 4) 1) (0 ∷ 2 ∷ 1 ∷ 0 ∷ 0 ∷ [])
    ∷ []

pub stray_cases_lem : AsStated stray_cases
unfolding grounds_on grounds decoded well_laid word put_word put_words failure_line rounds round
stray_cases_lem = as_stated stray_cases refl
