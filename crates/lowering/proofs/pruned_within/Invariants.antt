use Rattle.std.proofs.Common.{◌-◌, ◌≤◌}
use Rattle.layout.specs.Tables.{state_of}
use Rattle.cuts.specs.Parts.{positions, counts}
use Rattle.lowering.specs.Lowering.{Pruned}
use Rattle.lowering.proofs.pruned_within.Given as goal

abbrev pub invariant-loop-next : goal.invariant-loop-next
invariant-loop-next g l = (l.next ≤ l.table.n) × Pruned (state_of l.table) (positions l.fn.cut) (positions l.lowered) (counts l.lowered) 0 l.next l.table.n

abbrev pub decreases-loop-next : goal.decreases-loop-next
decreases-loop-next g l = l.table.n - l.next
