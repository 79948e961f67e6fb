-- The rows behind the table's of a call that takes a mask.
use Rattle.std.specs.Prelude.{not, List, [], ◌∷◌, ℕ, ◌^◌, leb, eqb}
use Rattle.rules.specs.Calls.{Row, row}

-- its area has len bytes and is to have `want`; the mask has no bit at n or above
abbrev pub mask_rows : ℕ → ℕ → ℕ → ℕ → List Row
mask_rows n mask len want = row 4 (not (eqb len want)) ∷ row 11 (leb (2 ^ n) mask) ∷ []
