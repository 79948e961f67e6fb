-- No answer of the text program is cut short, stated. Proved as `fields_hold` in proofs/Fields.antt.
--
-- "Lines of n + 3 fields …: the returned number, then the answer words": the fields behind the number hold every word. A receipt has four
-- since document 02, slip 4, and is accepted only where there is another process.
use Rattle.std.specs.Prelude.{◌≡◌, List, [], ◌∷◌, ℕ, ◌+◌, ◌≤◌, length}
use Rattle.rules.specs.Calls.{answer_words}
use Rattle.rules.specs.Text.{Reading, read_line, Stage, waiting, running, ran, replied}

-- where the program stands after these lines
abbrev pub after : Stage → List (List ℕ) → Stage
after g [] = g
after g (l ∷ ls) = after (replied g (read_line l)).stage ls

-- whatever lines it has read, where it has a table by then, and whatever the next line says
abbrev pub Fields : Type 0
Fields = (ls : List (List ℕ)) (n : ℕ) (t : List ℕ) (r : Reading) → after waiting ls ≡ running n t → length (answer_words (ran n t r)) ≤ n + 2
