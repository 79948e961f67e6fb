use Rattle.std.proofs.Common.{◌≡◌, get_or}
use Rattle.xdr.specs.Words.{put_each}
use Rattle.lines.proofs.fill.Given as goal

abbrev pub invariant-loop-p : goal.invariant-loop-p
invariant-loop-p l = l.area ≡ put_each l.initial.area (λ q. get_or l.line q 0) l.p
