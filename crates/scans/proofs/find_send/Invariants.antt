use Prim.Native.Nat.{◌<◌}
use Rattle.rules.specs.Records.{sends}
use Rattle.events.specs.Events.{first_of}
use Rattle.scans.proofs.find_send.Given as goal

abbrev pub invariant-loop-i : goal.invariant-loop-i
invariant-loop-i l = sends (first_of l.records l.i) < l.k
