use Rattle.std.proofs.Common.{◌-◌}
use Rattle.replay.specs.Way.{Kept, Came}
use Rattle.replay.proofs.Replay.furthest.Given as goal

abbrev pub invariant-loop-done : goal.invariant-loop-done
invariant-loop-done l = Kept l.initial.self l.self × Came l.self l.p l.done

abbrev pub decreases-loop-done : goal.decreases-loop-done
decreases-loop-done l = l.records.count - l.done.records
