use Rattle.std.proofs.Common.{◌≡◌, ℕ, ◌<◌, get_or, length}
use Rattle.std.proofs.Math.Option.{some}
use Rattle.rules.specs.Records.{history}
use Rattle.rules.specs.Lines.{numbered}
use Rattle.layout.specs.Tables.{state_of}
use Rattle.lines.proofs.positions.Given as goal

abbrev pub invariant-loop-p : goal.invariant-loop-p
invariant-loop-p l = (length l.line ≡ 16) × ((q : ℕ) → q < l.p → numbered l.m (history (state_of l.table) q) ≡ some (get_or l.line q 0))
