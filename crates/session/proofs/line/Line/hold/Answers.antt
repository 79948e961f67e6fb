use Rattle.session.proofs.Bytes.{room_on}
use Rattle.session.proofs.line.Line.hold.Goals as goal

pub invariant_of-self : goal.invariant_of-self
invariant_of-self c = room_on c.self.inside.bytes c.self.inside.held c.min-i.result c.args.byte c.self.invariant c.min-i.ensures
