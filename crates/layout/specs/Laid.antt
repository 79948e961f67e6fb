-- A table that meets none of its own rows.
use Rattle.std.specs.Prelude.{◌≡◌, List, ℕ, ◌≤◌}
use Rattle.xdr.specs.Words.{word}
use Rattle.rules.specs.Calls.{first, table_rows}

-- and has these dimensions, which then are within their ranges
abbrev pub Laid : List ℕ → ℕ → ℕ → Type 0
Laid t n E = (first (table_rows t) ≡ 0) × (n ≡ word t 0) × (E ≡ word t 1) × (n ≤ 16) × (E ≤ 1024)
