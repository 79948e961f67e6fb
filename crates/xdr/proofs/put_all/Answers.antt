use Rattle.std.proofs.Common.{rules}
use mathlib.Core.Path.{refl}
use Rattle.xdr.specs.Words.{put_words}
use Rattle.xdr.proofs.Puts.{put_next}
use Rattle.xdr.proofs.put_all.Goals as goal

pub loop-j-init : goal.loop-j-init
unfolding put_words
loop-j-init g c = refl

pub loop-j-preserved : goal.loop-j-preserved
loop-j-preserved g c = put_next c.args.s.now c.args.i c.loop-j.j c.args.words (search rules) c.loop-j.invariant (search rules)
