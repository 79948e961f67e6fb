use Rattle.std.proofs.Common.{◌≡◌, ◌≤◌, length}
use Rattle.rules.specs.Records.{sends}
use Rattle.cuts.specs.Notes.{noted}
use Rattle.events.specs.Events.{first_of}
use Rattle.cuts.proofs.note.Given as goal

abbrev pub invariant-loop-i : goal.invariant-loop-i
invariant-loop-i l = (l.to ≡ noted l.from (first_of l.records l.i) l.initial.to) × (l.k ≡ sends (first_of l.records l.i)) × (l.k ≤ l.i) × (length l.to ≡ length l.initial.to)
