-- What holds of a cut while it is lowered to the failure line.
use Rattle.std.specs.Prelude.{◌≡◌, Bool, false, not, ◌&&◌, List, map, ℕ, ◌≤◌, ◌<◌, leb, ltb, length, get_or}
use Rattle.rules.specs.Records.{Event, basic, forced, sent, received, State, history, sends, has_send}
use Rattle.rules.specs.Lines.{part}
use Rattle.rules.specs.FailureLine.{any}
use Rattle.layout.specs.declared.Table.{Table}
use Rattle.layout.specs.Tables.{state_of}
use Rattle.cuts.specs.Tests.{late}
use Rattle.tops.specs.Tops.{Counted, Over}

-- how many records each process has: where the cut is at which all have happened
abbrev pub ends : Table → List ℕ
ends t = map length (state_of t)

-- lowered from one cut to another, and not past the failure line, whichever processes failed
pub record Lowered (s : State) (from to : List ℕ) : Type 0 where
  pub down : (p : ℕ) → p < length s → get_or to p 0 ≤ get_or from p 0
  pub over : (mask : ℕ) → Over mask s from → Over mask s to

-- A receipt of process p that went astray: its number is that of a send of q, but of none to p, so that it is an orphan in every cut. q is
-- one of the processes from `from` on that come before `next`.
abbrev pub astray : State → ℕ → ℕ → ℕ → Event → Bool
astray s from next p (basic m) = false
astray s from next p (forced m) = false
astray s from next p (sent q) = false
astray s from next p (received q k c) = leb from q && ltb q next && (leb k (sends (history s q)) && not (has_send (history s q) p k))

-- none of the first p processes has such a receipt in the cut
abbrev pub NoneAstray : State → List ℕ → ℕ → ℕ → ℕ → Type 0
NoneAstray s position from next p = (q : ℕ) → q < p → any (astray s from next q) (part s position q) ≡ false

-- none of the first p processes has a receipt in the cut whose send number is above the sender's count
abbrev pub NoneLate : State → List ℕ → List ℕ → ℕ → Type 0
NoneLate s position counts p = (q : ℕ) → q < p → any (late counts) (part s position q) ≡ false

-- ---- what the functions leave of a cut that was at `start`

-- pruned at the first p processes, of receipts from these senders
abbrev pub Pruned : State → List ℕ → List ℕ → List ℕ → ℕ → ℕ → ℕ → Type 0
Pruned s start position counts from next p = Counted s position counts × Lowered s start position × NoneAstray s position from next p

-- settled: none of the first n processes has a late receipt
abbrev pub Settled : State → List ℕ → List ℕ → List ℕ → ℕ → Type 0
Settled s start position counts n = Counted s position counts × Lowered s start position × NoneLate s position counts n
