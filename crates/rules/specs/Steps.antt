-- Document 01, "Steps": what an accepted checkpoint, send or receipt adds. One step of the index-based scheme.
use Rattle.std.specs.Prelude.{Bool, cond, List, [], ◌∷◌, ◌++◌, ℕ, suc, ltb, set}
use Rattle.rules.specs.Records.{Event, basic, forced, sent, received, History, State, history, number, carried}

-- a call at a process p
pub data Call : Type 0 where
  checkpoint : Call
  send : (q : ℕ) → Call
  receipt : (q : ℕ) → (k : ℕ) → Call

-- the number of a basic checkpoint after h
abbrev pub next_number : History → ℕ
next_number h = suc (number h)

-- a receipt after h of a message that carries c forces a checkpoint
abbrev pub forces : History → ℕ → Bool
forces h c = ltb (number h) c

-- the number that a call's message carries; 0 where it receives none
abbrev pub carries : State → Call → ℕ
carries s checkpoint = 0
carries s (send q) = 0
carries s (receipt q k) = carried (history s q) k

-- the records that a call adds to the history h, newest first, where its message carries c
abbrev pub added : History → Call → ℕ → List Event
added h checkpoint c = basic (next_number h) ∷ []
added h (send q) c = sent q ∷ []
added h (receipt q k) c = received q k c ∷ cond (forces h c) (forced c ∷ []) []

-- the history after the call
abbrev pub grown : History → Call → ℕ → History
grown h call c = added h call c ++ h

-- the state after the call at process p
abbrev pub stepped : State → ℕ → Call → State
stepped s p call = set s p (grown (history s p) call (carries s call))
