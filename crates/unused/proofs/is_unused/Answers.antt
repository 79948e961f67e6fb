use Rattle.xdr.specs.Words.{word}
use Rattle.unused.proofs.Zeros.{zeros_next}
use Rattle.unused.proofs.is_unused.Goals as goal

pub loop-i-preserved : goal.loop-i-preserved
loop-i-preserved c = let r = c.args.records.now in
    zeros_next (word r.bytes.now) r.at c.loop-i.i c.loop-i.joined c.raw_pair-joined.result c.loop-i.invariant c.raw_pair-joined.ensures
