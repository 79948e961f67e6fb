-- Slip 1, stated. Proved as `sent_again` in proofs/SentAgain.antt.
--
-- "After a restart the host must repeat what the sender's saved state has sent and the receiver's hasn't got": for every well laid
-- table, whether a run makes it or not, and every cut of it, "one with orphans too".
use Rattle.std.specs.Prelude.{◌≡◌, ◌↔◌, ◌⊎◌, true, false, cond, ℕ, ◌+◌, ◌*◌, ◌≤◌, ◌<◌, length, get_or, drop}
use mathlib.Core.List.{List, [], ◌∷◌, ◌++◌, Memᴰ}
use Rattle.xdr.specs.Words.{word, words, bytes}
use Rattle.basics.specs.Sums.{sum_pairs}
use Rattle.rules.specs.Records.{State, history, sends, destination, has_send, has_receipt}
use Rattle.rules.specs.Table.{decoded}
use Rattle.rules.specs.Lines.{part}
use Rattle.rules.specs.Calls.{outcome_with, first, table_rows}
use Rattle.rules.specs.Resend.{Message, message, resend_on}

-- "n positions as words", each "from 0 to its count c"
pub record IsCut (t positions : List ℕ) : Type 0 where
  pub size : length positions ≡ 4 * word t 0
  pub within : (p : ℕ) → p < word t 0 → get_or (words positions) p 0 ≤ length (history (decoded t) p)

-- "by sender and then send number"
abbrev pub Earlier : Message → Message → Type 0
Earlier (message q k p) (message q' k' p') = (q < q') ⊎ ((q ≡ q') × (k < k'))

-- each message comes before all those behind it, so that none is there twice
abbrev pub Ordered : List Message → Type 0
Ordered [] = Unit {0}
Ordered (m ∷ ms) = ((other : Message) → Memᴰ other ms → Earlier m other) × Ordered ms

-- f q k over all sends inside the cut: of each process q below n, the sends k from 1 to the count of sends in its part
abbrev pub over_sends : State → List ℕ → ℕ → (ℕ → ℕ → ℕ) → ℕ
over_sends s cut n f = sum_pairs f (λ q. sends (part s cut q)) n

-- 1 for send k of process q unless its destination's part of the cut has a receipt of it
abbrev pub unreceived : State → List ℕ → ℕ → ℕ → ℕ
unreceived s cut q k = cond (has_receipt (part s cut (destination (part s cut q) k)) q k) 0 1

-- "sender, send number and receiver for each"
abbrev pub entries : List Message → List ℕ
entries [] = []
entries (message q k p ∷ ms) = q ∷ k ∷ p ∷ entries ms

-- What the exported call leaves: s are the table's records, n its processes, and the cut has the positions.
pub record Listed (t positions : List ℕ) (s : State) (n : ℕ) (cut : List ℕ) : Type 0 where
  pub list : List Message
  -- 0 is returned, the table and the positions stay as they were, and "the area holds the count, then" the entries; "bytes after the
  -- last entry stay untouched"
  pub left : (a : List ℕ) → 4 + 12 * length list ≤ length a
      → resend_on t positions a ≡ outcome_with 0 t (bytes (length list ∷ entries list) ++ drop (4 + 12 * length list) a) positions
  -- "13 … when the area has fewer than 4 + 12 × count bytes", and nothing is written
  pub short : (a : List ℕ) → length a < 4 + 12 * length list → resend_on t positions a ≡ outcome_with 13 t a positions
  -- a message is listed exactly when its sender's part of the cut holds the send, with the receiver as its destination, and the
  -- receiver's part holds no receipt of it; a receipt by another process doesn't count, and a message whose send isn't inside, as that
  -- of an orphan, isn't listed
  pub exactly : (q k p : ℕ) → Memᴰ (message q k p) list ↔ ((has_send (part s cut q) p k ≡ true) × (has_receipt (part s cut p) q k ≡ false))
  -- "lists each such message once, by sender and then send number"
  pub ordered : Ordered list
  -- the count is how many of the sends inside the cut have no such receipt
  pub count : length list ≡ over_sends s cut n (unreceived s cut)

-- What holds of a table's positions.
pub record Answers (t positions : List ℕ) : Type 0 where
  pub cut : IsCut t positions → Listed t positions (decoded t) (word t 0) (words positions)
  -- "12 when the positions aren't 4n bytes or one is above its count", and nothing is written
  pub other : (IsCut t positions → ⊥) → (a : List ℕ) → resend_on t positions a ≡ outcome_with 12 t a positions

abbrev pub SentAgain : Type 0
SentAgain = (t positions : List ℕ) → first (table_rows t) ≡ 0 → Answers t positions
