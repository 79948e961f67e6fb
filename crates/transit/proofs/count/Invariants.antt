use Rattle.std.proofs.Common.{◌≡◌, length}
use Rattle.rules.specs.Resend.{transit_below}
use Rattle.notes.specs.Noted.{state_at, places}
use Rattle.transit.proofs.count.Given as goal

abbrev pub invariant-loop-q : goal.invariant-loop-q
invariant-loop-q l = (l.notes.cut ≡ l.initial.notes.cut) × (l.count ≡ length (transit_below (state_at l.initial.notes.cut) (places l.initial.notes.cut) l.q))
