use Rattle.layout.specs.Tables.{state_of}
use Rattle.cuts.specs.Parts.{positions, counts}
use Rattle.lowering.specs.Lowering.{Pruned}
use Rattle.lowering.proofs.pruned_of.Given as goal

abbrev pub invariant-loop-p : goal.invariant-loop-p
invariant-loop-p l = Pruned (state_of l.table) (positions l.fn.cut) (positions l.lowered) (counts l.lowered) l.senders.from l.senders.next l.p
