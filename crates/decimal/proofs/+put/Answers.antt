use Rattle.std.proofs.Common.{rules}
use Rattle.decimal.proofs.Texts.{digit_behind, digit_alone}
use Rattle.decimal.proofs.+put.Goals.{then-more, else-more}
use Rattle.decimal.proofs.+put.Goals as goal

pub returns-clause-text : goal.returns-clause-text
returns-clause-text t c = elim c.if-more.branch [
  | then-more w ↦ digit_behind _ _ _ c.args.v c.ranges.v.fits (search rules) w.put.ensures.text (rw w.out-is at c.push.ensures.text)
  | else-more w ↦ digit_alone _ _ c.args.v (search rules) (rw w.out-is at c.push.ensures.text)
]
