use Rattle.std.proofs.Common.{◌≡◌, length}
use Rattle.cuts.specs.Notes.{struck}
use Rattle.events.specs.Events.{first_of}
use Rattle.cuts.proofs.strike.Given as goal

abbrev pub invariant-loop-i : goal.invariant-loop-i
invariant-loop-i l = (l.to ≡ struck l.spans l.p (first_of l.records l.i) l.initial.to) × (length l.to ≡ length l.initial.to)
