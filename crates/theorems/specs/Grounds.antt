-- Slip 7, stated. Proved as `which_rule` in proofs/Grounds.antt.
--
-- "Field service wants the failure line with a ground for every process": for every well laid table, whether a run makes it or not, and
-- every mask that has no bit at n or above.
use Rattle.std.specs.Prelude.{◌≡◌, ◌↔◌, true, false, List, ℕ, ◌+◌, ◌*◌, ◌^◌, ◌≤◌, ◌<◌, length, get_or}
use Rattle.std.proofs.Math.Option.{some}
use Rattle.xdr.specs.Words.{word, bytes}
use Rattle.rules.specs.Records.{received, State, history, record_at, has_send}
use Rattle.rules.specs.Table.{decoded}
use Rattle.rules.specs.Lines.{part, failed, saved, permitted, IsFailureLine}
use Rattle.rules.specs.Calls.{outcome, first, table_rows}
use Rattle.rules.specs.Grounds.{grounds_on}

-- ---- a receipt whose send is outside the cut

-- Place i of process p, counted from 1, has one: the part of its sender doesn't hold that send "with p as its destination".
pub record OrphanAt (s : State) (cut : List ℕ) (p i : ℕ) : Type 0 where
  pub sender : ℕ
  pub k : ℕ
  pub carried : ℕ
  pub receipt : record_at i (history s p) ≡ some (received sender k carried)
  pub outside : has_send (part s cut sender) p k ≡ false

-- "the place of the first receipt after its position whose send is outside the cut"
pub record FirstOrphan (s : State) (cut : List ℕ) (p place : ℕ) : Type 0 where
  pub after : get_or cut p 0 < place
  pub there : OrphanAt s cut p place
  pub before : (i : ℕ) → get_or cut p 0 < i → OrphanAt s cut p i → place ≤ i

-- ---- what a process might have kept

-- process p might be at position t, as far as it alone decides: "a failed process may be at 0 or a checkpoint; another may also be at its
-- count"
abbrev pub Might : ℕ → State → ℕ → ℕ → Type 0
Might mask s p t = permitted (failed mask p) (history s p) t ≡ true

-- the process has lost nothing: no such position is later than its own
abbrev pub LostNothing : ℕ → State → List ℕ → ℕ → Type 0
LostNothing mask s cut p = (t : ℕ) → Might mask s p t → t ≤ get_or cut p 0

-- it has lost a position t
pub record Lost (mask : ℕ) (s : State) (cut : List ℕ) (p : ℕ) : Type 0 where
  pub t : ℕ
  pub might : Might mask s p t
  pub later : get_or cut p 0 < t

-- ---- the three cases

-- "if it hasn't failed and is at its count"
abbrev pub AtCount : ℕ → State → List ℕ → ℕ → Type 0
AtCount mask s cut p = (failed mask p ≡ false) × (get_or cut p 0 ≡ length (history s p))

-- "if it failed and is at its last checkpoint": this position is saved, as 0 is, and no later one is
abbrev pub AtLastCheckpoint : ℕ → State → List ℕ → ℕ → Type 0
AtLastCheckpoint mask s cut p =
    (failed mask p ≡ true)
    × (saved (history s p) (get_or cut p 0) ≡ true)
    × ((t : ℕ) → saved (history s p) t ≡ true → t ≤ get_or cut p 0)

-- The two words of process p. One number is in at most one of the first three clauses, and in one of them: the cases exclude each other, and
-- are all.
pub record Ground (mask : ℕ) (s : State) (cut : List ℕ) (p g place : ℕ) : Type 0 where
  pub running : (g ≡ 0) ↔ AtCount mask s cut p
  pub reloaded : (g ≡ 1) ↔ AtLastCheckpoint mask s cut p
  pub moved : (g ≡ 2) ↔ ((AtCount mask s cut p → ⊥) × (AtLastCheckpoint mask s cut p → ⊥))
  pub all : g ≤ 2
  -- "0, 0" and "1, 0": such a process has lost nothing that it might have kept
  pub none : g ≤ 1 → place ≡ 0
  pub kept : g ≤ 1 → LostNothing mask s cut p
  -- "otherwise 2 and the place": "such a receipt always exists", "and it comes at or before the next position that the process might have
  -- had", of which there is one
  pub receipt : g ≡ 2 → FirstOrphan s cut p place
  pub lost : g ≡ 2 → Lost mask s cut p
  pub next : g ≡ 2 → (t : ℕ) → Might mask s p t → get_or cut p 0 < t → place ≤ t

-- What the exported call leaves: s are the table's records, n its processes.
pub record Grounded (t a : List ℕ) (mask : ℕ) (s : State) (n : ℕ) : Type 0 where
  pub cut : List ℕ
  pub words : List ℕ
  -- 0 is returned, the table stays as it was, and the area has "two words a process"
  pub left : grounds_on t a mask ≡ outcome 0 t (bytes words)
  pub two : length words ≡ 2 * n
  -- the cut is "the failure line": the one that document 01 says, of which there is only one
  pub line : IsFailureLine mask s cut
  pub each : (p : ℕ) → p < n → Ground mask s cut p (get_or words (2 * p) 0) (get_or words (2 * p + 1) 0)

abbrev pub WhichRule : Type 0
WhichRule = (t a : List ℕ) (mask : ℕ)
    → first (table_rows t) ≡ 0
    → length a ≡ 8 * word t 0
    → mask < 2 ^ word t 0
    → Grounded t a mask (decoded t) (word t 0)

-- This leaves no choice: two words of a process that meet it are the same. Proved as `one_ground`.
abbrev pub OneGround : Type 0
OneGround = (mask : ℕ) (s : State) (cut : List ℕ) (p g place h other : ℕ) → Ground mask s cut p g place → Ground mask s cut p h other
    → (g ≡ h) × (place ≡ other)
