use Rattle.std.proofs.Common.{◌≡◌, length}
use Rattle.layout.specs.Tables.{state_of}
use Rattle.tops.proofs.Starts.{Started}
use Rattle.tops.proofs.tops.Given as goal

abbrev pub invariant-loop-p : goal.invariant-loop-p
invariant-loop-p l = (length l.cut ≡ 16) × Started l.mask (state_of l.table) l.cut l.p
