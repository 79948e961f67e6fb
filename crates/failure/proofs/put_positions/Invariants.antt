use Rattle.std.proofs.Common.{◌≡◌, length, get_or}
use Rattle.xdr.specs.Words.{put_each}
use Rattle.cuts.specs.Parts.{positions}
use Rattle.failure.proofs.put_positions.Given as goal

abbrev pub invariant-loop-p : goal.invariant-loop-p
invariant-loop-p l = (l.area ≡ put_each l.initial.area (λ q. get_or (positions l.line) q 0) l.p) × (length l.area ≡ length l.initial.area)
