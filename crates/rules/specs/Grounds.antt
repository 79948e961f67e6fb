-- Document 02, slip 7: which rule moved a process. Each process of a failure line gets a ground.
use Rattle.std.specs.Prelude.{Bool, not, cond, ◌&&◌, List, [], ◌∷◌, ◌++◌, ℕ, zero, suc, ◌*◌, ◌^◌, leb, eqb, length, get_or}
use Rattle.std.proofs.Math.Option.{Option, none, some}
use Rattle.xdr.specs.Words.{word}
use Rattle.rules.specs.Records.{Event, History, State, history}
use Rattle.rules.specs.Table.{decoded}
use Rattle.rules.specs.Lines.{orphan, or_else, failed}
use Rattle.rules.specs.FailureLine.{last_saved, failure_line}
use Rattle.rules.specs.Calls.{Row, row, first, table_rows, Outcome, judged}

-- ---- grounds

-- the place, counted from 1, of the first record after position t for which a test holds
abbrev pub first_after : (Event → Bool) → ℕ → History → Option ℕ
first_after o t [] = none
first_after o t (e ∷ h) = or_else (first_after o t h) (cond (leb t (length h) && o e) (some (suc (length h))) none)

-- it hasn't failed and is at its count; it failed and is at its last checkpoint, the initial one included
abbrev pub at_count : Bool → History → ℕ → Bool
at_count down h t = not down && eqb t (length h)

abbrev pub at_last_checkpoint : Bool → History → ℕ → Bool
at_last_checkpoint down h t = down && eqb t (last_saved h)

-- 2 and a place; there always is one, as `which_rule` (theorems) shows, so that the 0 is never seen
abbrev pub moved_by : Option ℕ → List ℕ
moved_by (some place) = 2 ∷ place ∷ []
moved_by none = 2 ∷ 0 ∷ []

-- The two words of process p: 0, 0 or 1, 0 or else 2 and the place of the first receipt after its position whose send is outside the cut,
-- as for orphans: its destination counts.
abbrev pub ground : ℕ → State → List ℕ → ℕ → List ℕ
ground mask s cut p =
    let h = history s p in
    let t = get_or cut p 0 in
    cond (at_count (failed mask p) h t) (0 ∷ 0 ∷ [])
    (cond (at_last_checkpoint (failed mask p) h t) (1 ∷ 0 ∷ [])
    (moved_by (first_after (orphan s cut p) t h)))

-- those of the first p processes
abbrev pub grounds_below : ℕ → State → List ℕ → ℕ → List ℕ
grounds_below mask s cut zero = []
grounds_below mask s cut (suc p) = grounds_below mask s cut p ++ ground mask s cut p

-- the cut is the failure line
unfoldable pub grounds : ℕ → State → List ℕ
grounds mask s = grounds_below mask s (failure_line mask s) (length s)

-- ---- rows

-- the area has 8n bytes; the mask has no bit at n or above
abbrev pub grounds_rows : ℕ → ℕ → ℕ → List Row
grounds_rows n mask len = row 4 (not (eqb len (8 * n))) ∷ row 11 (leb (2 ^ n) mask) ∷ []

-- ---- the outcome

unfoldable pub grounds_on : List ℕ → List ℕ → ℕ → Outcome
grounds_on t a mask = judged (first (table_rows t ++ grounds_rows (word t 0) mask (length a))) t a t (grounds mask (decoded t))
