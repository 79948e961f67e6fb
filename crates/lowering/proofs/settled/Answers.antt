use Rattle.std.proofs.Common.{arith, ltb, cond, ◌≡◌, ◌+◌}
use borrow.Author.Tests.{lt-ltb, le-ltb}
use Rattle.cuts.specs.Parts.{part_at}
use Rattle.lowering.proofs.Steps.{quiet_next, quiet_less, part_held, late_step}
use Rattle.lowering.proofs.settled.Goals as goal
use Rattle.lowering.proofs.settled.Goals.{then-part-lowered, else-part-lowered}

pub lower-part-requires : goal.lower-part-requires
lower-part-requires c = let s = c.loop-stayed in
    part_held c.args.table.now s.lowered s.invariant.counted s.p (s.invariant.turn (omega arith)) c.records.result c.records.ensures.held

stays : (c : goal.After-after-p)
    → c.if-part-lowered.stayed ≡ cond (ltb c.lower-part.result.position (part_at c.loop-stayed.lowered c.loop-stayed.p).position) 0 (c.loop-stayed.stayed + 1)
stays c = let x = c.lower-part.result.position in
    let y = (part_at c.loop-stayed.lowered c.loop-stayed.p).position in
    elim c.if-part-lowered.branch [
      | then-part-lowered w ↦ rw (lt-ltb x y w.if-part-lowered.true) w.stayed-is
      | else-part-lowered w ↦ rw (le-ltb x y (omega arith)) w.stayed-is
    ]

pub loop-stayed-smaller : goal.loop-stayed-smaller
loop-stayed-smaller c = let t = c.args.table.now in
    let s = c.loop-stayed in
    let u = late_step t s.lowered s.invariant c.loop-stayed-test.true c.records.result c.records.ensures.held c.lower-part.result c.lower-part.ensures in
    quiet_less s.invariant c.loop-stayed-test.true u (stays c) t.laid.3

pub loop-stayed-preserved : goal.loop-stayed-preserved
loop-stayed-preserved c = let t = c.args.table.now in
    let s = c.loop-stayed in
    let u = late_step t s.lowered s.invariant c.loop-stayed-test.true c.records.result c.records.ensures.held c.lower-part.result c.lower-part.ensures in
    quiet_next s.invariant c.loop-stayed-test.true u (stays c) c.after-p.ensures
