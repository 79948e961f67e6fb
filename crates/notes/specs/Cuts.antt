-- The row that positions in a table are checked by (document 02, row 12).
use Rattle.std.specs.Prelude.{not, ◌||◌, List, [], ◌∷◌, ℕ, ◌*◌, eqb, length}
use Rattle.xdr.specs.Words.{words}
use Rattle.rules.specs.Records.{State}
use Rattle.rules.specs.Calls.{Row, row}
use Rattle.rules.specs.Resend.{above}

-- they aren't 4n bytes, or one is above its process's count
abbrev pub cut_rows : ℕ → State → List ℕ → List Row
cut_rows n s positions = row 12 (not (eqb (length positions) (4 * n)) || above s (words positions) n) ∷ []
