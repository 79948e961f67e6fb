use Rattle.std.proofs.Common.{◌≡◌}
use Rattle.rules.specs.Lines.{goes_back_at, mask_below}
use Rattle.layout.specs.Tables.{state_of}
use Rattle.cuts.specs.Parts.{positions}
use Rattle.failure.proofs.back.Given as goal

abbrev pub invariant-loop-p : goal.invariant-loop-p
invariant-loop-p l = l.back ≡ mask_below (goes_back_at l.mask (state_of l.table) (positions l.line)) l.p
