use Rattle.std.proofs.Common.{arith}
use mathlib.Core.Path.{sym}
use Rattle.layout.specs.Tables.{state_of}
use Rattle.layout.proofs.Sections.{processes}
use Rattle.cuts.specs.Parts.{positions, counts}
use Rattle.lowering.proofs.Steps.{pruned_start, pruned_more}
use Rattle.lowering.proofs.pruned_within.Goals as goal

pub loop-next-init : goal.loop-next-init
loop-next-init g c = let t = c.args.table.now in
    let cut = c.args.cut in
    (omega arith, pruned_start (state_of t) (positions cut) (counts cut) t.n c.requires.2)

pub loop-next-preserved : goal.loop-next-preserved
loop-next-preserved g c = let t = c.args.table.now in
    let s = c.loop-next in
    let E = c.pruned_from-then.ensures in
    (E.3, pruned_more (state_of t) (positions c.args.cut) (positions s.lowered) (counts s.lowered) _ _ s.next _ t.n (sym (processes t)) s.invariant.1 E.0)
