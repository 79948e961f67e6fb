use mathlib.Core.Path.{refl}
use Rattle.decimal.specs.Output.{page_of}
use Rattle.session.proofs.Bytes.{took_byte}
use Rattle.session.proofs.Session.take_byte.Goals as goal

pub returns-else-ends-clause-took : goal.returns-else-ends-clause-took
returns-else-ends-clause-took c = took_byte c.args.self.now _ (page_of c.args.out.now) _ c.ends.ensures c.if-ends.false refl c.hold.ensures
