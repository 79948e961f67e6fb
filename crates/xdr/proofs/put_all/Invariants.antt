use Rattle.std.proofs.Common.{◌≡◌}
use lib.ListN.{take}
use Rattle.xdr.specs.Words.{put_words}
use Rattle.xdr.proofs.put_all.Given as goal

abbrev pub invariant-loop-j : goal.invariant-loop-j
invariant-loop-j g l = l.s ≡ put_words l.initial.s l.i (take l.j l.word-items)
