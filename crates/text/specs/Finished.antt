-- The end of the input.
use Rattle.std.specs.Prelude.{List, [], ◌∷◌, ℕ}
use Rattle.rules.specs.Text as text

-- where the program stands after a last line of these bytes, if there are any
abbrev pub stage_after : text.Stage → List ℕ → text.Stage
stage_after g [] = g
stage_after g (b ∷ h) = (text.replied g (text.read_line (b ∷ h))).stage
