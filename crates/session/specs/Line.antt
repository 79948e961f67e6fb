-- The line that has not ended.
use Rattle.std.specs.Prelude.{◌≡◌, List, ◌++◌, ℕ, ◌-◌, ◌≤◌, length, take, drop, replicate}
use Rattle.std.proofs.Common.{◌∙◌, sym, ap, arith, length-take-le, take-append-drop}

-- the bytes that are held of a line, at most
abbrev pub line_room : ℕ
line_room = 66

-- the bytes of its room behind k that are held
abbrev pub unused : ℕ → List ℕ
unused k = replicate (line_room - k) 0

-- the room, from the bytes that are held
pub line_back : (l : List ℕ) (k : ℕ) → k ≤ line_room → length l ≡ line_room → drop k l ≡ unused k → take k l ++ unused (length (take k l)) ≡ l
line_back l k le len rest =
    ap (λ (j : ℕ). take k l ++ unused j) (length-take-le k l (omega (arith, le, len))) ∙ ap (λ (r : List ℕ). take k l ++ r) (sym rest) ∙ take-append-drop k l
