use mathlib.Core.Path.{◌∙◌}
use Rattle.decimal.specs.Output.{page_of}
use Rattle.answers.proofs.Fields.{written_on}
use Rattle.answers.proofs.put_fields.Goals as goal

pub loop-i-preserved : goal.loop-i-preserved
loop-i-preserved c = let a = c.args in
    let h = c.loop-i.invariant in
    let put = c.put_field.ensures in (
      written_on (page_of a.out.now) (page_of c.loop-i.out) _ a.count a.area.now a.k c.loop-i.i h.0 c.loop-i-test.true c.requires.2 put.text,
      put.same_reference ∙ h.1,
    )
