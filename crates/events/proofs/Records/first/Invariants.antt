use Rattle.std.proofs.Common.{◌≡◌, false}
use Rattle.rules.specs.FailureLine.{any}
use Rattle.events.specs.Events.{first_of}
use Rattle.events.proofs.Records.first.Given as goal

abbrev pub invariant-loop-i : goal.invariant-loop-i
invariant-loop-i g l = any (g.T.Test.passes l.test) (first_of l.self l.i) ≡ false
