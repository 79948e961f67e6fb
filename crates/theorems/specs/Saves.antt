-- Slip 9, stated. Proved as `every_save`, `last_reloaded` and `idle_saves` in proofs/Saves.antt.
--
-- "Flash writes wear the card, and the owner wants to know that none is idle. For every table made by accepted calls and every checkpoint
-- in it, basic or forced, show a cut without orphans that has its process at exactly that checkpoint and each other process at a checkpoint
-- or at its count." Uses is what such a cut has. "The cut is a matter of the records alone, however it is found": cut_through (rules,
-- Saves.antt) has it from the records that the table holds, whatever calls have left them.
-- A table that the audit gives 1 has this too: `saves` of Has in Audited.antt.
use Rattle.std.specs.Prelude.{◌≡◌, ◌≢◌, true, false, List, ℕ, ◌≤◌, ◌<◌, length, get_or}
use Rattle.std.proofs.Math.Option.{some}
use Rattle.rules.specs.Records.{Event, State, history, record_at}
use Rattle.rules.specs.Table.{fresh, layout, decoded}
use Rattle.rules.specs.Lines.{NoOrphan, failed, is_checkpoint, permitted, IsFailureLine}
use Rattle.rules.specs.FailureLine.{last_saved}
use Rattle.rules.specs.Calls.{first, table_rows}
use Rattle.rules.specs.Lists.{MadeByCalls}
use Rattle.rules.specs.Saves.{cut_through}
use Rattle.rules.specs.WorkedSaves.{waiting, unforced, late, leaves, crossing, too_late}

-- a cut of the records s that uses the checkpoint at place i of process p
pub record Uses (s : State) (p i : ℕ) (cut : List ℕ) : Type 0 where
  -- a position for each process
  pub size : length cut ≡ length s
  -- "its process at exactly that checkpoint"
  pub here : get_or cut p 0 ≡ i
  -- "each other process at a checkpoint or at its count"
  pub others : (q : ℕ) → q < length s → q ≢ p → permitted false (history s q) (get_or cut q 0) ≡ true
  -- "without orphans"
  pub clean : NoOrphan s cut

-- every checkpoint in the records s, basic or forced, at whatever place i of whatever process p, is used by the cut through it
abbrev pub AllUsed : State → Type 0
AllUsed s = (p i : ℕ) (e : Event) → record_at i (history s p) ≡ some e → is_checkpoint e ≡ true → Uses s p i (cut_through s p i)

abbrev pub EverySave : Type 0
EverySave = (n E : ℕ) (t : List ℕ) → MadeByCalls n E t → AllUsed (decoded t)

-- process p failed, and no other
pub record FailsAlone (mask p : ℕ) : Type 0 where
  pub it : failed mask p ≡ true
  pub alone : (q : ℕ) → q ≢ p → failed mask q ≡ false

-- A use that the calls answer: where a process of a made table fails alone, the failure line has it at its last checkpoint, which may be the
-- initial one.
abbrev pub LastReloaded : Type 0
LastReloaded = (n E : ℕ) (t : List ℕ)
    → MadeByCalls n E t
    → (mask p : ℕ)
    → p < n
    → FailsAlone mask p
    → (cut : List ℕ)
    → IsFailureLine mask (decoded t) cut
    → get_or cut p 0 ≡ last_saved (history (decoded t) p)

-- ---- it isn't so of all records

-- no cut of the records s uses the checkpoint at place i of process p
pub record Idle (s : State) (p i : ℕ) : Type 0 where
  pub e : Event
  pub there : record_at i (history s p) ≡ some e
  pub saves : is_checkpoint e ≡ true
  pub idle : (cut : List ℕ) → Uses s p i cut → ⊥

-- the table of two processes with room for three records each that has the records s is well laid
abbrev pub Laid : State → Type 0
Laid s = (first (table_rows (layout 2 3 s)) ≡ 0) × (decoded (layout 2 3 s) ≡ s)

-- a cut without orphans that has process p at its place i, and each other process anywhere
pub record Reaches (s : State) (p i : ℕ) (cut : List ℕ) : Type 0 where
  pub of_each : length cut ≡ length s
  pub at : get_or cut p 0 ≡ i
  pub within : (q : ℕ) → q < length s → q ≢ p → get_or cut q 0 ≤ length (history s q)
  pub no_orphan : NoOrphan s cut

pub record IdleSaves : Type 0 where
  -- no calls leave such records
  pub of_no_run : (n E : ℕ) (t : List ℕ) (p i : ℕ) → Idle (decoded t) p i → MadeByCalls n E t → ⊥
  -- well laid tables may have them: "two receipts may each wait for the other", where no cut without orphans reaches the checkpoint at all
  pub laid : Laid waiting
  pub idle : Idle waiting 0 2
  pub nowhere : (cut : List ℕ) → Reaches waiting 0 2 cut → ⊥
  -- or a receipt that should have forced and didn't
  pub laid_unforced : Laid unforced
  pub idle_unforced : Idle unforced 0 2
  -- so have the records that an engine leaves which saves after the receipt, where the rule saves before it
  pub idle_late : Idle too_late 0 2
  pub left_late : leaves late crossing (fresh 2) ≡ too_late
