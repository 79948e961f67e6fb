use Rattle.std.proofs.Common.{◌≡◌, ◌≤◌}
use Rattle.rules.specs.Records.{sends}
use Rattle.rules.specs.FailureLine.{last_saved}
use Rattle.events.specs.Events.{first_of}
use Rattle.cuts.proofs.back_to.Given as goal

abbrev pub invariant-loop-i : goal.invariant-loop-i
invariant-loop-i l = record {
  last : l.i ≤ l.r → last_saved (first_of l.records l.i) ≡ last_saved (first_of l.records l.r);
  counted : l.sends ≡ sends (first_of l.records l.i);
  within : l.i ≤ l.records.count;
}

abbrev pub decreases-loop-i : goal.decreases-loop-i
decreases-loop-i l = l.i
