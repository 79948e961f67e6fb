use Rattle.answers.proofs.Fields.{field_shown}
use Rattle.answers.proofs.put_field.Goals as goal

pub returns-then-i-count-clause-text : goal.returns-then-i-count-clause-text
returns-then-i-count-clause-text c = let a = c.args in
    field_shown a.count a.i a.area.now c.if-i-count.true c.get.ensures c.push.ensures.text c.put.ensures.text
