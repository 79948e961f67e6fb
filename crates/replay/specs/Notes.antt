-- What is noted of the sends that were made again.
use Rattle.std.specs.Prelude.{◌≡◌, cond, List, ℕ, ◌+◌, ◌*◌, ◌≤◌, ◌<◌}
use Rattle.xdr.specs.Words.{word}
use Rattle.rules.specs.Records.{State, history, sends, carried, destination, has_receipt}

-- the note of a message to process p that carries c
abbrev pub note_of : ℕ → ℕ → ℕ
note_of p c = 16 * c + p

-- that of a message that was received
abbrev pub taken : ℕ
taken = 4294967295

-- what is noted of send k of process q once the records c are made
abbrev pub noted : State → ℕ → ℕ → ℕ
noted c q k =
    let d = destination (history c q) k in
    cond (has_receipt (history c d) q k) taken (note_of d (carried (history c q) k))

-- a list has this for the sends of n processes, of which none has more than E
abbrev pub Noted : ℕ → ℕ → State → List ℕ → Type 0
Noted n E c notes = (q k : ℕ) → q < n → 0 < k → k ≤ sends (history c q) → word notes (q * E + k) ≡ noted c q k
