-- The messages in transit at a cut, and how many they may be.
use Rattle.std.specs.Prelude.{List, ℕ}
use Rattle.basics.specs.Sums.{sum_below}
use Rattle.rules.specs.Records.{State, history, sends}
use Rattle.rules.specs.Resend.{Message, in_transit}
use Rattle.notes.specs.declared.cut.Cut.{Cut}
use Rattle.notes.specs.Noted.{state_at, places}

-- the messages in transit
abbrev pub transit_at : Cut → List Message
transit_at c = in_transit (state_at c) (places c)

-- how many sends the processes below q have made, inside the cut and after it
abbrev pub sends_below : State → ℕ → ℕ
sends_below s = sum_below (λ q. sends (history s q))
