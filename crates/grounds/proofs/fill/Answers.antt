use Rattle.std.proofs.Common.{refl}
use Rattle.xdr.specs.Words.{put_words}
use Rattle.layout.specs.Tables.{state_of}
use Rattle.cuts.specs.Parts.{positions}
use Rattle.grounds.proofs.Lines.{below_next}
use Rattle.grounds.proofs.fill.Goals as goal

pub loop-p-init : goal.loop-p-init
unfolding put_words
loop-p-init c = (refl, refl)

pub loop-p-preserved : goal.loop-p-preserved
loop-p-preserved c = let a = c.args in
    let s = c.loop-p in
    below_next a.mask (state_of a.table.now) (positions a.line.now) a.area.now s.p s.invariant.0 s.invariant.1 (c.ground_of.ensures a.mask c.bit.ensures) c.put_all.ensures
