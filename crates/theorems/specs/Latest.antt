-- Demand 2, failure lines, stated. Proved as `latest` in proofs/Demand2.antt.
--
-- "After a failure the states named are, process by process, the latest of all permitted sets in which no message is received but
-- unsent", for every well laid table, whether a run makes it or not, and every mask that has no bit at n or above.
use Rattle.std.specs.Prelude.{◌≡◌, cond, List, [], ◌∷◌, ◌++◌, ℕ, zero, suc, ◌+◌, ◌*◌, ◌^◌, ◌<◌, length}
use Rattle.std.specs.Int.Count.{ones}
use Rattle.xdr.specs.Words.{word, bytes}
use Rattle.rules.specs.Records.{State}
use Rattle.rules.specs.Table.{decoded}
use Rattle.rules.specs.Lines.{failed, IsFailureLine, goes_back_at}
use Rattle.rules.specs.Calls.{outcome, failed_on, first, table_rows}

-- how many of the first p processes go back, which a process does "when it has failed or its position is below its count"
abbrev pub how_many : ℕ → State → List ℕ → ℕ → ℕ
how_many mask s cut zero = 0
how_many mask s cut (suc p) = how_many mask s cut p + cond (goes_back_at mask s cut p) 1 0

-- What the exported call leaves: s are the table's records, n its processes.
pub record Answered (t a : List ℕ) (mask : ℕ) (s : State) (n : ℕ) : Type 0 where
  -- the positions and the mask of the processes that go back
  pub cut : List ℕ
  pub back : ℕ
  -- 0 is returned, the table stays as it was, and the area has "positions, mask of the processes that go back, count of ones in that
  -- mask"
  pub left : failed_on t a mask ≡ outcome 0 t (bytes (cut ++ (back ∷ ones back ∷ [])))
  -- the positions are permitted, no receipt is an orphan, and every permitted cut without orphans is at most as late at every process;
  -- so such a cut exists, and there is only one
  pub line : IsFailureLine mask s cut
  pub only : (other : List ℕ) → IsFailureLine mask s other → other ≡ cut
  -- the mask has exactly the bits of the processes that failed or are below their count, none at n or above, and the count of its ones
  -- is how many they are
  pub bits : (p : ℕ) → p < n → failed back p ≡ goes_back_at mask s cut p
  pub within : back < 2 ^ n
  pub count : ones back ≡ how_many mask s cut n

abbrev pub Latest : Type 0
Latest = (t a : List ℕ) (mask : ℕ)
    → first (table_rows t) ≡ 0
    → length a ≡ 4 * word t 0 + 8
    → mask < 2 ^ word t 0
    → Answered t a mask (decoded t) (word t 0)
