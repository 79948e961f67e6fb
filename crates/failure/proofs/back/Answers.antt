use Rattle.std.proofs.Common.{arith, ◌≡◌, ◌∙◌}
use Rattle.rules.specs.Lines.{goes_back_at}
use Rattle.layout.specs.Tables.{state_of}
use Rattle.cuts.specs.Parts.{positions}
use Rattle.cuts.proofs.Parts.{position_at}
use Rattle.failure.proofs.FailureLine.{mask_with, mask_without}
use Rattle.failure.proofs.back.Goals as goal
use Rattle.failure.proofs.back.Goals.{then-goes_back, else-goes_back}

pub loop-p-preserved : goal.loop-p-preserved
loop-p-preserved c = let t = c.args.table.now in
    let n = t.laid.3 in
    let f = goes_back_at c.args.mask (state_of t) (positions c.args.line.now) in
    let p = c.loop-p.p in
    let q = position_at c.args.line.now p in
    let is : f p ≡ c.goes_back.result = cc in
    elim c.if-goes_back.branch [
      | then-goes_back w ↦ w.back-is ∙ mask_with f p (omega arith) c.loop-p.invariant (is ∙ w.if-goes_back.true)
      | else-goes_back w ↦ w.back-is ∙ mask_without f p (omega arith) c.loop-p.invariant (is ∙ w.if-goes_back.false)
    ]
