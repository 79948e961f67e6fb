use Rattle.std.proofs.Common.{arith}
use Rattle.notes.proofs.Places.{position_small}
use Rattle.notes.proofs.cut.Cut.position.Goals as goal

pub returns : goal.returns
returns c = let small = position_small c.args.self.now c.args.p c.requires in
    (c.get.ensures, omega arith)
