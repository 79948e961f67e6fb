-- Document 02, slip 5, worked: tables that a run leaves, and well laid ones that none does.
use Rattle.std.specs.Prelude.{◌≡◌, refl, true, List, [], ◌∷◌, map, ℕ, length, replicate}
use Rattle.xdr.specs.Words.{word, put_word, put_words}
use Rattle.rules.specs.Records.{basic, forced, sent, received, State}
use Rattle.rules.specs.Table.{layout, decoded, well_laid}
use Rattle.rules.specs.Calls.{Outcome}
use Rattle.rules.specs.Lists.{check}
use Rattle.rules.specs.Audit.{advance, sweep, sweeps, replayed, audited, audit_on}
use Rattle.rules.specs.Worked.{Case, case, AsStated, as_stated, area, worked}

-- the audit of a table with three processes of four records, with a scratch of the table's length
abbrev audit_of : State → Outcome
audit_of s = let t = layout 3 4 s in audit_on t (area 1) (replicate (length t) 255) []

abbrev answered : ℕ → State → Case
answered v s = case (audit_of s) (0 ∷ v ∷ [])

-- Runs leave these: nothing; a message that was received, and one that overtook another; a receipt that forces and a later one that
-- doesn't; a message that process 0 sends before it receives.
abbrev made_states : List State
made_states =
    ([] ∷ [] ∷ [] ∷ [])
    ∷ ((sent 1 ∷ sent 1 ∷ []) ∷ (received 0 1 0 ∷ received 0 2 0 ∷ []) ∷ [] ∷ [])
    ∷ ((sent 1 ∷ basic 1 ∷ sent 1 ∷ []) ∷ (received 0 1 0 ∷ received 0 2 1 ∷ forced 1 ∷ sent 2 ∷ []) ∷ [] ∷ [])
    ∷ ((received 1 1 0 ∷ sent 1 ∷ []) ∷ (sent 0 ∷ received 0 1 0 ∷ []) ∷ [] ∷ [])
    ∷ []

-- No run leaves these, which are well laid.
abbrev unmade_states : List State
unmade_states =
    -- "two receipts may each wait for the other", and three in a ring
    ((sent 1 ∷ received 1 1 0 ∷ []) ∷ (sent 0 ∷ received 0 1 0 ∷ []) ∷ [] ∷ [])
    ∷ ((sent 1 ∷ received 2 1 0 ∷ []) ∷ (sent 2 ∷ received 0 1 0 ∷ []) ∷ (sent 0 ∷ received 1 1 0 ∷ []) ∷ [])
    -- a receipt of a send that isn't there, of one to another process, and one twice
    ∷ ((sent 1 ∷ []) ∷ (received 0 2 0 ∷ []) ∷ [] ∷ [])
    ∷ ((sent 2 ∷ []) ∷ (received 0 1 0 ∷ []) ∷ [] ∷ [])
    ∷ ((sent 1 ∷ []) ∷ (received 0 1 0 ∷ received 0 1 0 ∷ []) ∷ [] ∷ [])
    -- a receipt whose fourth word isn't what the send carried: less, so that it should have forced, and more
    ∷ ((sent 1 ∷ basic 1 ∷ []) ∷ (received 0 1 0 ∷ []) ∷ [] ∷ [])
    ∷ ((sent 1 ∷ []) ∷ (received 0 1 1 ∷ basic 1 ∷ []) ∷ [] ∷ [])
    -- a forced checkpoint without its receipt: at the end, before a send, before one that carried less
    ∷ ((sent 1 ∷ basic 1 ∷ []) ∷ (forced 1 ∷ []) ∷ [] ∷ [])
    ∷ ((sent 1 ∷ basic 1 ∷ []) ∷ (received 0 1 1 ∷ sent 0 ∷ forced 1 ∷ []) ∷ [] ∷ [])
    ∷ ((sent 1 ∷ basic 1 ∷ []) ∷ (received 0 1 1 ∷ forced 2 ∷ []) ∷ [] ∷ [])
    -- one where the number was as large before
    ∷ ((sent 1 ∷ basic 1 ∷ []) ∷ (received 0 1 1 ∷ forced 1 ∷ basic 1 ∷ []) ∷ [] ∷ [])
    -- numbers that don't follow the rule: skipped, repeated, falling
    ∷ ((basic 2 ∷ []) ∷ [] ∷ [] ∷ [])
    ∷ ((basic 1 ∷ basic 1 ∷ []) ∷ [] ∷ [] ∷ [])
    ∷ ((basic 1 ∷ basic 2 ∷ []) ∷ [] ∷ [] ∷ [])
    ∷ []

-- all of them are well laid
pub unmade_laid : map (λ s. well_laid (layout 3 4 s)) unmade_states ≡ map (λ s. true) unmade_states
unfolding layout decoded well_laid word
unmade_laid = refl

-- The worked controller's table is made. Rows 3, 4 and 14, in this order: a send's number changed, an area and a scratch of another length.
abbrev pub audit_cases : List Case
audit_cases =
    case (audit_on worked (area 1) (replicate (length worked) 255) []) (0 ∷ 1 ∷ [])
    ∷ case (audit_on (put_word worked 11 2) (area 2) [] []) (3 ∷ [])
    ∷ case (audit_on worked (area 2) [] []) (4 ∷ [])
    ∷ case (audit_on worked (area 1) (replicate 24 255) []) (14 ∷ [])
    ∷ []

pub audit_cases_lem : AsStated audit_cases
unfolding audit_on audited replayed sweeps sweep advance check layout decoded well_laid word put_word put_words
audit_cases_lem = as_stated audit_cases refl

pub made_cases : AsStated (map (answered 1) made_states)
unfolding audit_on audited replayed sweeps sweep advance check layout decoded well_laid word put_word put_words
made_cases = as_stated (map (answered 1) made_states) refl

pub unmade_cases : AsStated (map (answered 0) unmade_states)
unfolding audit_on audited replayed sweeps sweep advance check layout decoded well_laid word put_word put_words
unmade_cases = as_stated (map (answered 0) unmade_states) refl
