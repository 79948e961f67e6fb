use Rattle.std.proofs.Common.{◌≡◌, length}
use Rattle.cuts.specs.Notes.{struck_by_place}
use Rattle.events.specs.Events.{first_of}
use Rattle.cuts.proofs.strike_by_place.Given as goal

abbrev pub invariant-loop-i : goal.invariant-loop-i
invariant-loop-i l = (l.to ≡ struck_by_place l.spans l.p (first_of l.records l.i) l.initial.to) × (length l.to ≡ length l.initial.to)
