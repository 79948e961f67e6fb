use Rattle.fields.proofs.Texts.{Valued}
use Rattle.fields.proofs.read_field.Given as goal

abbrev pub invariant-loop-b : goal.invariant-loop-b
invariant-loop-b l = Valued l.s l.v l.b-index
