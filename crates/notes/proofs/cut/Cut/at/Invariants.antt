use Rattle.std.proofs.Common.{◌≡◌, false}
use Rattle.xdr.specs.Words.{words}
use Rattle.rules.specs.Resend.{above}
use Rattle.layout.specs.Tables.{state_of}
use Rattle.notes.proofs.cut.Cut.at.Given as goal

abbrev pub invariant-loop-p : goal.invariant-loop-p
invariant-loop-p l = above (state_of l.table) (words l.positions) l.p ≡ false
