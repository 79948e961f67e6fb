use Rattle.std.proofs.Common.{◌≡◌, ◌≤◌}
use Rattle.replay.specs.Way.{Going, Rests}
use Rattle.replay.proofs.Replay.round.Given as goal

abbrev pub invariant-loop-p : goal.invariant-loop-p
invariant-loop-p l = (l.self.table ≡ l.initial.self.table)
    × Going l.self
    × (l.self.left ≤ l.initial.self.left)
    × (l.self.left ≡ l.initial.self.left → Rests l.self.table l.self.done l.p)
