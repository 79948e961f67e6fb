-- Document 02, slip 9, worked: saves that can be used, two well laid tables of no run with one that can't, and what an engine leaves that
-- saves after the receipt.
use Rattle.std.specs.Prelude.{◌≡◌, refl, Bool, true, false, cond, List, [], ◌∷◌, ◌++◌, map, ℕ, set}
use Rattle.xdr.specs.Words.{word}
use Rattle.rules.specs.Compared.{sames_equal}
use Rattle.rules.specs.Records.{basic, forced, sent, received, History, State, history}
use Rattle.rules.specs.Table.{fresh, layout, decoded, well_laid}
use Rattle.rules.specs.Steps.{Call, checkpoint, send, receipt, forces, carries, grown, stepped}
use Rattle.rules.specs.Lists.{check}
use Rattle.rules.specs.Audit.{advance, sweep, sweeps, replayed, audited}
use Rattle.rules.specs.Saves.{cut_through, useful, reached}
use Rattle.rules.specs.Worked.{worked}

-- a process, and a place in its records
abbrev Place : Type 0
Place = ℕ × ℕ

abbrev cuts_of : State → List Place → List (List ℕ)
cuts_of s ps = map (λ (x : Place). cut_through s x.0 x.1) ps

abbrev uses_of : State → List Place → List Bool
uses_of s ps = map (λ (x : Place). useful s x.0 x.1) ps

-- ---- saves that can be used

-- all checkpoints of the worked controller are numbered 1, and their cut is line 1
abbrev worked_saves : List Place
worked_saves = (0, 1) ∷ (1, 2) ∷ (2, 1) ∷ []

pub worked_cuts : cuts_of (decoded worked) worked_saves ≡ (1 ∷ 2 ∷ 1 ∷ []) ∷ (1 ∷ 2 ∷ 1 ∷ []) ∷ (1 ∷ 2 ∷ 1 ∷ []) ∷ []
unfolding decoded word
worked_cuts = sames_equal (cuts_of (decoded worked) worked_saves) ((1 ∷ 2 ∷ 1 ∷ []) ∷ (1 ∷ 2 ∷ 1 ∷ []) ∷ (1 ∷ 2 ∷ 1 ∷ []) ∷ []) refl

pub worked_used : uses_of (decoded worked) worked_saves ≡ true ∷ true ∷ true ∷ []
unfolding decoded word
worked_used = refl

-- Process 0 saves with 1, 2 and 3, process 1 is forced to 2 and process 2 doesn't save. Process 2 is at its count in each cut, and process 1
-- in the one through the last save of process 0, since they have no checkpoint with its number or more.
abbrev three : State
three =
    (basic 3 ∷ sent 1 ∷ basic 2 ∷ basic 1 ∷ [])
    ∷ (received 2 1 0 ∷ received 0 1 2 ∷ forced 2 ∷ [])
    ∷ (sent 1 ∷ [])
    ∷ []

abbrev three_saves : List Place
three_saves = (0, 1) ∷ (0, 2) ∷ (0, 4) ∷ (1, 1) ∷ []

pub three_cuts : cuts_of three three_saves ≡ (1 ∷ 1 ∷ 1 ∷ []) ∷ (2 ∷ 1 ∷ 1 ∷ []) ∷ (4 ∷ 3 ∷ 1 ∷ []) ∷ (2 ∷ 1 ∷ 1 ∷ []) ∷ []
three_cuts = sames_equal (cuts_of three three_saves) ((1 ∷ 1 ∷ 1 ∷ []) ∷ (2 ∷ 1 ∷ 1 ∷ []) ∷ (4 ∷ 3 ∷ 1 ∷ []) ∷ (2 ∷ 1 ∷ 1 ∷ []) ∷ []) refl

pub three_used : uses_of three three_saves ≡ true ∷ true ∷ true ∷ true ∷ []
three_used = refl

-- a save behind a receipt from a process that has no checkpoint but the initial one: that one is at its count
abbrev counted : State
counted = (sent 1 ∷ []) ∷ (basic 1 ∷ received 0 1 0 ∷ []) ∷ []

pub counted_used : uses_of counted ((1, 2) ∷ []) ≡ true ∷ []
counted_used = refl

-- ---- saves that can't be used

-- "Two receipts may each wait for the other": process 0 saves between its receipt and its send, and no cut without orphans has it there,
-- wherever process 1 is.
abbrev pub waiting : State
waiting = (sent 1 ∷ basic 1 ∷ received 1 1 0 ∷ []) ∷ (sent 0 ∷ received 0 1 0 ∷ []) ∷ []

pub waiting_reached : reached waiting 0 2 ≡ false
waiting_reached = refl

-- The receipt of process 1 should have forced, and its fourth word is 0 where the message carried 1. Between its send and that receipt
-- process 1 has no checkpoint: where process 0 is at 2, it would have to be at 1.
abbrev pub unforced : State
unforced = (sent 1 ∷ basic 1 ∷ received 1 1 0 ∷ []) ∷ (received 0 1 0 ∷ sent 0 ∷ []) ∷ []

pub unforced_reached : reached unforced 0 2 ≡ true
unforced_reached = refl

pub unforced_used : uses_of unforced ((0, 2) ∷ []) ≡ false ∷ []
unforced_used = refl

-- both are well laid, and no run leaves them
pub idle_laid : map (λ s. well_laid (layout 2 3 s)) (waiting ∷ unforced ∷ []) ≡ true ∷ true ∷ []
unfolding layout decoded well_laid word
idle_laid = refl

pub idle_audited : map (λ s. audited (layout 2 3 s)) (waiting ∷ unforced ∷ []) ≡ false ∷ false ∷ []
unfolding audited replayed sweeps sweep advance check layout decoded well_laid word
idle_audited = refl

-- ---- saving after the receipt

-- the history after a call, of the engine that does, where the rule saves before it
abbrev pub late_grown : History → Call → ℕ → History
late_grown h checkpoint c = grown h checkpoint c
late_grown h (send q) c = grown h (send q) c
late_grown h (receipt q k) c = cond (forces h c) (forced c ∷ []) [] ++ (received q k c ∷ h)

abbrev pub late : State → ℕ → Call → State
late s p call = set s p (late_grown (history s p) call (carries s call))

-- the state that an engine's steps leave
abbrev pub leaves : (State → ℕ → Call → State) → List (ℕ × Call) → State → State
leaves f [] s = s
leaves f (x ∷ l) s = leaves f l (f s x.0 x.1)

-- process 0 saves after it received a message of process 1 and before it sends one to it
abbrev pub crossing : List (ℕ × Call)
crossing = (1, send 0) ∷ (0, receipt 1 1) ∷ (0, checkpoint) ∷ (0, send 1) ∷ (1, receipt 0 1) ∷ []

-- by the rule
abbrev pub in_time : State
in_time = (sent 1 ∷ basic 1 ∷ received 1 1 0 ∷ []) ∷ (received 0 1 1 ∷ forced 1 ∷ sent 0 ∷ []) ∷ []

pub in_time_left : leaves stepped crossing (fresh 2) ≡ in_time
in_time_left = refl

pub in_time_used : uses_of in_time ((0, 2) ∷ (1, 2) ∷ []) ≡ true ∷ true ∷ []
in_time_used = refl

-- By that engine: again process 1 has no checkpoint between its send and its receipt. The table isn't well laid, since a receipt carries
-- more than the number before it.
abbrev pub too_late : State
too_late = (sent 1 ∷ basic 1 ∷ received 1 1 0 ∷ []) ∷ (forced 1 ∷ received 0 1 1 ∷ sent 0 ∷ []) ∷ []

pub too_late_left : leaves late crossing (fresh 2) ≡ too_late
too_late_left = refl

pub too_late_used : uses_of too_late ((0, 2) ∷ (1, 3) ∷ []) ≡ false ∷ true ∷ []
too_late_used = refl

pub too_late_laid : well_laid (layout 2 3 too_late) ≡ false
unfolding layout decoded well_laid word
too_late_laid = refl
