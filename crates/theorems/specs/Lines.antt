-- Slip 8, stated. Proved as `which_lines` and `made_lines` in proofs/Lines.antt.
--
-- Which lines there are: "a numbered line must now be refused if some process has no saved checkpoint of that number or more", so the last
-- one that is answered is the smallest of the processes' largest numbers (last_line). That holds of every well laid table, whether a run
-- makes it or not; on a table that accepted calls made a process's largest number is the one in its section's heading (MadeLines).
-- What becomes of demand 3 is in TwoLists.antt.
use Rattle.std.specs.Prelude.{◌≡◌, true, List, [], ◌∷◌, ℕ, ◌+◌, ◌*◌, ◌≤◌, ◌<◌, min, max, replicate, length, get_or}
use Rattle.xdr.specs.Words.{word, bytes}
use Rattle.rules.specs.Records.{basic, forced, sent, received, History, State, history, number}
use Rattle.rules.specs.Table.{start, decoded}
use Rattle.rules.specs.Lines.{upto, saved, numbered_line}
use Rattle.rules.specs.Calls.{outcome, first, table_rows, line_on}
use Rattle.rules.specs.Lists.{MadeByCalls}

-- the largest number with which a process has saved a state, the initial one included, whose number is 0
abbrev pub largest : History → ℕ
largest [] = 0
largest (basic m ∷ h) = max m (largest h)
largest (forced m ∷ h) = max m (largest h)
largest (sent q ∷ h) = largest h
largest (received q k c ∷ h) = largest h

-- the smallest of these numbers
abbrev pub last_line : State → ℕ
last_line [] = 0
last_line (h ∷ []) = largest h
last_line (h ∷ g ∷ s) = min (largest h) (last_line (g ∷ s))

-- position t of a process is its first saved state with a number of N or more
pub record FirstSaved (N : ℕ) (h : History) (t : ℕ) : Type 0 where
  pub is_saved : saved h t ≡ true
  pub enough : N ≤ number (upto t h)
  -- before it every number was smaller
  pub before : (u : ℕ) → u < t → number (upto u h) < N

-- What holds of numbered line N, asked for on a table t of n processes, whose records are s, with an area a of the exact length.
pub record Line (t a : List ℕ) (N : ℕ) (n : ℕ) (s : State) : Type 0 where
  -- it is answered up to the last line, with a position for each process: "its first checkpoint with a number of N or more"
  pub answered : N ≤ last_line s → line_on t a N ≡ outcome 0 t (bytes (numbered_line N s))
  pub positions : N ≤ last_line s → (p : ℕ) → p < n → FirstSaved N (history s p) (get_or (numbered_line N s) p 0)
  -- "Refused: 15", above that line, with the area as it was
  pub refused : last_line s < N → line_on t a N ≡ outcome 15 t a

-- "line 0 never does" turn into a refusal: every process is at its initial checkpoint
abbrev pub LineZero : List ℕ → List ℕ → ℕ → Type 0
LineZero t a n = line_on t a 0 ≡ outcome 0 t (bytes (replicate n 0))

abbrev pub WhichLines : Type 0
WhichLines = (t a : List ℕ)
    → first (table_rows t) ≡ 0
    → length a ≡ 4 * word t 0
    → LineZero t a (word t 0) × ((N : ℕ) → Line t a N (word t 0) (decoded t))

-- Operators read in a made table up to where there are lines: the number in a section's heading is the process's largest.
abbrev pub MadeLines : Type 0
MadeLines = (n E : ℕ) (t : List ℕ) → MadeByCalls n E t → (p : ℕ) → p < n → word t (start E p + 1) ≡ largest (history (decoded t) p)
