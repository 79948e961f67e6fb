use Rattle.std.proofs.Common.{◌≡◌, length}
use Rattle.xdr.specs.Words.{put_words}
use Rattle.rules.specs.Grounds.{grounds_below}
use Rattle.layout.specs.Tables.{state_of}
use Rattle.cuts.specs.Parts.{positions}
use Rattle.grounds.proofs.fill.Given as goal

abbrev pub invariant-loop-p : goal.invariant-loop-p
invariant-loop-p l = (l.area ≡ put_words l.initial.area 0 (grounds_below l.mask (state_of l.table) (positions l.line) l.p)) × (length l.area ≡ length l.initial.area)
