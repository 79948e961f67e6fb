use Rattle.layout.specs.Tables.{state_of}
use Rattle.cuts.specs.Parts.{positions, counts}
use Rattle.notes.proofs.Groups.{group_inside}
use Rattle.lowering.specs.Lowering.{ends}
use Rattle.lowering.proofs.Notes.{astray_step}
use Rattle.lowering.proofs.Steps.{part_held, pruned_next}
use Rattle.lowering.proofs.pruned_of.Goals as goal

pub invariant_of-astray : goal.invariant_of-astray
invariant_of-astray c = let t = c.args.table.now in
    let N = c.requires.0 in
    record { inside = group_inside (state_of t) (ends t) c.args.senders.now N.group N.room }

pub lower-requires : goal.lower-requires
lower-requires c = let s = c.loop-p in
    part_held c.args.table.now s.lowered s.invariant.0 s.p c.loop-p-test.true c.records.result c.records.ensures.held

pub loop-p-preserved : goal.loop-p-preserved
loop-p-preserved c = let t = c.args.table.now in
    let g = c.args.senders.now in
    let s = c.loop-p in
    pruned_next (state_of t) (positions c.args.cut) (positions s.lowered) (counts s.lowered) _ _ g.from g.next s.p s.invariant
    (astray_step t g c.args.to.now c.requires.0 s.p s.lowered s.invariant.0 c.loop-p-test.true c.records.result c.records.ensures.held c.lower.result c.lower.ensures)
