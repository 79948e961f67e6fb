use native.Mathlib.Omega.{arith}
use Rattle.decimal.proofs.Texts.{writes_both}
use Rattle.answers.proofs.put_answer.Goals as goal

pub returns-clause-text : goal.returns-clause-text
returns-clause-text c =
    writes_both (omega arith) (writes_both {k = 120} (omega arith) c.put.ensures.text c.put_fields.ensures.text) c.put_end.ensures.text
