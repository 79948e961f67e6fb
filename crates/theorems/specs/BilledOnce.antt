-- Slip 1, the promise for one restart, stated. Proved as `billed_once` in proofs/BilledOnce.antt.
--
-- After one restart each pulse is billed once, on every table made by accepted calls:
-- All processes go on from one cut without orphans (`anywhere`), as every failure line is and every numbered line that is answered
-- (`failure`, `numbered`).
-- What was sent inside the cut stays sent: the sender's saved state has reported these pulses and won't report them again (`all_sent`).
-- What was received inside it stays received: these pulses are in the receiver's saved state, where they are billed (`all_received`).
-- The host sends the listed messages again, and nothing else (`all_listed`, of the list that the exported call leaves).
-- So no pulse is lost and none is billed twice. `once` says it for each message, and `amounts` for whatever the messages carry: the amounts
-- sent inside the cut are those already received plus those that resend lists, and so they are for one flat or one ledger alone.
use Rattle.std.specs.Prelude.{◌≡◌, cond, ◌&&◌, List, map, ℕ, ◌+◌, ◌*◌, ◌^◌, ◌<◌, leb, ltb, eqb, length, take}
use Rattle.xdr.specs.Words.{word, words}
use Rattle.basics.specs.Sums.{sum_below}
use Rattle.rules.specs.Records.{Event, basic, forced, sent, received, State, sends}
use Rattle.rules.specs.Table.{decoded}
use Rattle.rules.specs.Lines.{part, NoOrphan}
use Rattle.rules.specs.FailureLine.{sum}
use Rattle.rules.specs.Calls.{line_on, failed_on}
use Rattle.rules.specs.Resend.{Message, message}
use Rattle.rules.specs.Lists.{MadeByCalls}
use Rattle.theorems.specs.SentAgain.{IsCut, over_sends, Listed}

-- ---- amounts, where message (q, k) carries v q k

-- of all sends inside the cut by the processes below n
abbrev pub all_sent : State → List ℕ → ℕ → (ℕ → ℕ → ℕ) → ℕ
all_sent = over_sends

-- of all receipts inside the cut by the processes below n
abbrev pub amount_received : (ℕ → ℕ → ℕ) → Event → ℕ
amount_received v (basic m) = 0
amount_received v (forced m) = 0
amount_received v (sent q) = 0
amount_received v (received q k c) = v q k

abbrev pub all_received : State → List ℕ → ℕ → (ℕ → ℕ → ℕ) → ℕ
all_received s cut n v = sum_below (λ p. sum (map (amount_received v) (part s cut p))) n

-- of all messages listed
abbrev pub amount_listed : (ℕ → ℕ → ℕ) → Message → ℕ
amount_listed v (message q k p) = v q k

abbrev pub all_listed : List Message → (ℕ → ℕ → ℕ) → ℕ
all_listed list v = sum (map (amount_listed v) list)

-- 1 for message (q, k) and 0 for any other: the amounts then tell how often (q, k) is there
abbrev pub only : ℕ → ℕ → ℕ → ℕ → ℕ
only q k q' k' = cond (eqb q q' && eqb k k') 1 0

-- ---- one restart

-- What holds at a cut: s are the table's records, n its processes, and the cut has the positions.
pub record Billed (t positions : List ℕ) (s : State) (n : ℕ) (cut : List ℕ) : Type 0 where
  -- what the exported call leaves at these positions, as `sent_again` has it
  pub listed : Listed t positions s n cut
  -- a message sent inside the cut is either received inside exactly once or listed exactly once, never both and never neither; any
  -- other is neither received inside nor listed
  pub once : (q k : ℕ) → all_received s cut n (only q k) + all_listed listed.list (only q k) ≡ cond (ltb 0 k && leb k (sends (part s cut q))) 1 0
  -- the amounts sent inside are those received inside plus those listed
  pub amounts : (v : ℕ → ℕ → ℕ) → all_sent s cut n v ≡ all_received s cut n v + all_listed listed.list v

abbrev pub BilledAt : List ℕ → List ℕ → Type 0
BilledAt t positions = Billed t positions (decoded t) (word t 0) (words positions)

-- What holds of a table of n processes.
pub record Restarts (n : ℕ) (t : List ℕ) : Type 0 where
  -- at every cut without orphans
  pub anywhere : (positions : List ℕ) → IsCut t positions → NoOrphan (decoded t) (words positions) → BilledAt t positions
  -- at every failure line, as the call answers it
  pub failure : (mask : ℕ) (a : List ℕ) → mask < 2 ^ n → length a ≡ 4 * n + 8 → BilledAt t (take (4 * n) (failed_on t a mask).area)
  -- at every numbered line that is answered, as the call answers it
  pub numbered : (N : ℕ) (a : List ℕ) → length a ≡ 4 * n → (line_on t a N).returned ≡ 0 → BilledAt t (line_on t a N).area

abbrev pub BilledOnce : Type 0
BilledOnce = (n E : ℕ) (t : List ℕ) → MadeByCalls n E t → Restarts n t
