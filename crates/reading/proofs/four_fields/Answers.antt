use Rattle.reading.proofs.Lines.{five_fields}
use Rattle.reading.proofs.four_fields.Goals as goal

pub returns-in-Some : goal.returns-in-Some
returns-in-Some c =
    five_fields c.args.s.now c.in_ok-word.s.now c.in_ok-x.s.now c.in_ok-y.z.now _ _ _ _ c.in-Some.field-0.1.now c.in_ok-word.ensures c.in_ok-x.ensures
    c.in_ok-y.ensures c.in-Some.ensures
