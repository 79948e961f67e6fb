-- What the functions of the text program promise, by document 01's definitions.
use Rattle.std.specs.Prelude.{◌≡◌, List, ◌++◌, ℕ, ◌+◌, ◌*◌, ◌≤◌, length}
use Rattle.rules.specs.Text as text
use Rattle.decimal.specs.Output.{Page}
use Rattle.answers.specs.Shows.{answer_room}
use Rattle.session.specs.declared.Session.{Session}

-- ---- the input

-- what is still to be written, when x is the rest of the input
abbrev pub owed_by : Session → List ℕ → List ℕ
owed_by s x = text.answers s.program (text.lines_from s.line x)

-- the session s took the bytes `fed` and became r: whatever the rest of the input is, what was written and what is owed stay the same
pub record Took (s : Session) (before : Page) (fed : List ℕ) (r : Session) (after : Page) : Type 0 where
  pub total : (x : List ℕ) → before.written ++ owed_by s (fed ++ x) ≡ after.written ++ owed_by r x
  pub most : length after.written ≤ length before.written + answer_room * length fed
  pub room : length after.written + length after.rest ≡ length before.written + length before.rest
