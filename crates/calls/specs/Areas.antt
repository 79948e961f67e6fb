-- The answer area of a line's call.
use Rattle.std.specs.Prelude.{ℕ, ◌+◌, ◌*◌}
use Rattle.rules.specs.Calls.{area_length}
use Rattle.rules.specs.Text.{Reading, call, fresh, step, line, failed, unreadable}

-- how many bytes it has, on a table of n processes; a line that makes no call has none
abbrev pub area_of : ℕ → Reading → ℕ
area_of n (call (fresh m E)) = 0
area_of n (call (step p c)) = area_length c
area_of n (call (line N)) = 4 * n
area_of n (call (failed mask)) = 4 * n + 8
area_of n unreadable = 0
