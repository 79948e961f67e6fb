-- The room of a program's table.
use Rattle.std.specs.Prelude.{◌≡◌, List, ◌++◌, ℕ, ◌-◌, ◌≤◌, length, take, drop, replicate}
use Rattle.std.proofs.Common.{◌∙◌, sym, ap, length-take-le, take-append-drop}
use Rattle.rules.specs.Table.{size}

-- the bytes of the largest table that the program takes, of 8 processes with 256 records each
abbrev pub table_room : ℕ
table_room = size 8 256

-- the bytes of its room behind a table of m bytes
abbrev pub unused : ℕ → List ℕ
unused m = replicate (table_room - m) 0

-- the room, from the table in it
pub room_back : (room : List ℕ) (m : ℕ) → m ≤ length room → drop m room ≡ unused m → take m room ++ unused (length (take m room)) ≡ room
room_back room m le rest =
    ap (λ (k : ℕ). take m room ++ unused k) (length-take-le m room le) ∙ ap (λ (l : List ℕ). take m room ++ l) (sym rest) ∙ take-append-drop m room
