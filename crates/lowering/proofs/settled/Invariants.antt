use Rattle.std.proofs.Common.{◌+◌, ◌-◌, ◌*◌}
use Rattle.layout.specs.Tables.{state_of}
use Rattle.cuts.specs.Parts.{positions, counts}
use Rattle.lowering.proofs.Cuts.{total}
use Rattle.lowering.proofs.Steps.{Quiet}
use Rattle.lowering.proofs.settled.Given as goal

abbrev pub invariant-loop-stayed : goal.invariant-loop-stayed
invariant-loop-stayed l = Quiet (state_of l.table) (positions l.fn.cut) (positions l.lowered) (counts l.lowered) l.table.n l.p l.stayed

abbrev pub decreases-loop-stayed : goal.decreases-loop-stayed
decreases-loop-stayed l = total (positions l.lowered) l.table.n * 17 + (16 - l.stayed)
