-- What holds of a cut where it starts, and as long as it is lowered.
use Rattle.std.specs.Prelude.{◌≡◌, true, List, ℕ, ◌≤◌, ◌<◌, length, get_or}
use Rattle.rules.specs.Records.{State, history, sends}
use Rattle.rules.specs.Lines.{part, NoOrphan, failed, permitted, Permitted}

-- sixteen positions, those of the processes within their records, with the count of sends before each
pub record Counted (s : State) (position counts : List ℕ) : Type 0 where
  pub positions : length position ≡ 16
  pub sixteen : length counts ≡ 16
  pub within : (p : ℕ) → p < length s → get_or position p 0 ≤ length (history s p)
  pub counted : (p : ℕ) → p < length s → get_or counts p 0 ≡ sends (part s position p)

-- the positions are permitted, and no permitted cut without orphans is later at any process
pub record Over (mask : ℕ) (s : State) (position : List ℕ) : Type 0 where
  pub permit : (p : ℕ) → p < length s → permitted (failed mask p) (history s p) (get_or position p 0) ≡ true
  pub latest : (other : List ℕ) → Permitted mask s other → NoOrphan s other → (p : ℕ) → p < length s
      → get_or other p 0 ≤ get_or position p 0
