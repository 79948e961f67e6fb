-- Where the program stands, in document 01's terms.
use Rattle.std.specs.Prelude.{◌≡◌, refl, Bool, true, false}
use Rattle.rules.specs.Text as text
use Rattle.replies.specs.Opened.{running_of}
pub use Rattle.replies.specs.Room.{table_room}
use Rattle.replies.specs.declared.State.{State}
use Rattle.replies.specs.declared.State.TheVariants.{Waiting, Running, Ended}

-- where the program stands
abbrev pub stage_of : State → text.Stage
stage_of Waiting = text.waiting
stage_of (Running h) = running_of h
stage_of Ended = text.ended

-- the state at a stage
abbrev pub state_of : text.Stage → State
state_of text.waiting = Waiting
state_of (text.running n t) = Running (n, t)
state_of text.ended = Ended

-- a stage says all of the state
pub state_back : (s : State) → state_of (stage_of s) ≡ s
state_back Waiting = refl
state_back (Running h) = refl
state_back Ended = refl

-- the program is at its end
abbrev pub is_ended : text.Stage → Bool
is_ended text.waiting = false
is_ended (text.running n t) = false
is_ended text.ended = true
