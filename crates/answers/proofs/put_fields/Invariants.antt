use mathlib.Core.Path.{◌≡◌}
use Rattle.decimal.specs.Output.{page_of}
use Rattle.answers.proofs.Fields.{Written}
use Rattle.answers.specs.Shows.{shown}
use Rattle.answers.proofs.put_fields.Given as goal

abbrev pub invariant-loop-i : goal.invariant-loop-i
invariant-loop-i l =
    Written (page_of l.initial.out) (page_of l.out) (shown l.count l.area) l.k l.i × (l.out.bytes.ghost_name ≡ l.initial.out.bytes.ghost_name)
