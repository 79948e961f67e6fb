-- Document 02, slip 8, worked: no line without a saved state. P3 is in Worked.antt.
use Rattle.std.specs.Prelude.{◌≡◌, refl, List, [], ◌∷◌, ℕ}
use Rattle.xdr.specs.Words.{word, put_word, put_words, bytes}
use Rattle.rules.specs.Table.{layout, decoded, well_laid}
use Rattle.rules.specs.Steps.{checkpoint}
use Rattle.rules.specs.Calls.{outcome, fresh_on, step_on, line_on}
use Rattle.rules.specs.Lists.{table_after}
use Rattle.rules.specs.Worked.{Case, case, AsStated, as_stated, area, exact, fresh_table, worked, just_saved}

-- n = 2, E = 4: where process 1 alone has saved, and where both have
abbrev second_saved : List ℕ
second_saved = table_after (fresh_table 2 4) (exact 1 checkpoint ∷ [])

abbrev both_saved : List ℕ
both_saved = table_after (fresh_table 2 4) (exact 0 checkpoint ∷ exact 1 checkpoint ∷ exact 1 checkpoint ∷ [])

-- Line 0 is answered on a fresh table too. One process without such a checkpoint is enough for 15, whichever it is; the area's length is
-- checked before.
abbrev pub saved_lines : List Case
saved_lines =
    case (line_on (fresh_table 2 4) (area 2) 0) (0 ∷ 0 ∷ 0 ∷ [])
    ∷ case (line_on (fresh_table 2 4) (area 2) 1) (15 ∷ [])
    ∷ case (line_on just_saved (area 2) 1) (15 ∷ [])
    ∷ case (line_on second_saved (area 2) 1) (15 ∷ [])
    ∷ case (line_on both_saved (area 2) 1) (0 ∷ 1 ∷ 1 ∷ [])
    ∷ case (line_on both_saved (area 2) 2) (15 ∷ [])
    ∷ case (line_on worked (area 3) 4294967295) (15 ∷ [])
    ∷ case (line_on worked (area 2) 2) (4 ∷ [])
    ∷ case (line_on worked (area 4) 2) (4 ∷ [])
    ∷ []

pub saved_lines_lem : AsStated saved_lines
unfolding fresh_on step_on line_on layout decoded well_laid word put_word put_words
saved_lines_lem = as_stated saved_lines refl

-- No run makes this table, n = 2, E = 3: the numbers of process 0 fall from 5 to 2, so that its number is 2. Process 1 saves with 4. A line
-- is judged by the checkpoints, and not by the numbers that the processes have now.
abbrev falling : List ℕ
falling =
    bytes
    (2 ∷ 3
    ∷ 2 ∷ 2 ∷ 0 ∷ 1 ∷ 5 ∷ 0 ∷ 0 ∷ 1 ∷ 2 ∷ 0 ∷ 0 ∷ 0 ∷ 0 ∷ 0 ∷ 0
    ∷ 1 ∷ 4 ∷ 0 ∷ 1 ∷ 4 ∷ 0 ∷ 0 ∷ 0 ∷ 0 ∷ 0 ∷ 0 ∷ 0 ∷ 0 ∷ 0 ∷ 0
    ∷ [])

abbrev pub falling_lines : List Case
falling_lines =
    case (line_on falling (area 2) 2) (0 ∷ 1 ∷ 1 ∷ [])
    ∷ case (line_on falling (area 2) 4) (0 ∷ 1 ∷ 1 ∷ [])
    ∷ case (line_on falling (area 2) 5) (15 ∷ [])
    ∷ []

pub falling_lines_lem : AsStated falling_lines
unfolding line_on decoded well_laid word put_word put_words
falling_lines_lem = as_stated falling_lines refl

-- a refused line leaves table and area as they were
pub refused_line : line_on worked (area 3) 2 ≡ outcome 15 worked (area 3)
unfolding line_on decoded well_laid word put_word put_words
refused_line = refl
