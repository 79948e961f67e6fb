use Rattle.std.proofs.Common.{◌≡◌}
use Rattle.replay.specs.Way.{Going}
use Rattle.replay.proofs.Replay.run.Given as goal

abbrev pub invariant-loop : goal.invariant-loop
invariant-loop l = (l.self.table ≡ l.initial.self.table) × Going l.self

abbrev pub decreases-loop : goal.decreases-loop
decreases-loop l = l.self.left
