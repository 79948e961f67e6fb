-- Document 02, slip 1: the messages to send again after a restart, for any cut. The field calls them the messages in transit.
use Rattle.std.specs.Prelude.{Bool, false, not, cond, ◌||◌, List, [], ◌∷◌, ◌++◌, ℕ, zero, suc, ◌+◌, ◌*◌, ltb, eqb, length, get_or}
use Rattle.xdr.specs.Words.{word, words}
use Rattle.rules.specs.Records.{State, history, sends, destination, has_receipt}
use Rattle.rules.specs.Table.{decoded}
use Rattle.rules.specs.Lines.{part}
use Rattle.rules.specs.Calls.{Row, row, first, table_rows, Outcome, judged_with}

-- ---- what the sender's saved state has sent and the receiver's hasn't got

pub data Message : Type 0 where
  message : (sender : ℕ) → (k : ℕ) → (receiver : ℕ) → Message

-- the receiver's part of the cut has a receipt of (q, k)
abbrev pub got : State → List ℕ → ℕ → ℕ → Bool
got s cut q k = has_receipt (part s cut (destination (part s cut q) k)) q k

-- send k of process q, as a list, unless its receiver has got it
abbrev pub unless_got : State → List ℕ → ℕ → ℕ → List Message
unless_got s cut q k = cond (got s cut q k) [] (message q k (destination (part s cut q) k) ∷ [])

-- of the first k sends of process q, those in transit, by send number
abbrev pub transit_of : State → List ℕ → ℕ → ℕ → List Message
transit_of s cut q zero = []
transit_of s cut q (suc k) = transit_of s cut q k ++ unless_got s cut q (suc k)

-- of the sends inside the cut by the processes below q, those in transit, by sender and then send number
abbrev pub transit_below : State → List ℕ → ℕ → List Message
transit_below s cut zero = []
transit_below s cut (suc q) = transit_below s cut q ++ transit_of s cut q (sends (part s cut q))

unfoldable pub in_transit : State → List ℕ → List Message
in_transit s cut = transit_below s cut (length s)

-- ---- the answer

-- sender, send number and receiver
abbrev pub message_words : Message → List ℕ
message_words (message q k p) = q ∷ k ∷ p ∷ []

abbrev pub messages_words : List Message → List ℕ
messages_words [] = []
messages_words (m ∷ ms) = message_words m ++ messages_words ms

-- the count, then the words of each message
abbrev pub resend_words : List Message → List ℕ
resend_words ms = length ms ∷ messages_words ms

-- ---- rows

-- one of the first p positions is above its process's count
abbrev pub above : State → List ℕ → ℕ → Bool
above s cut zero = false
above s cut (suc p) = above s cut p || ltb (length (history s p)) (get_or cut p 0)

-- the positions aren't 4n bytes or one is above its count; the area has fewer than 4 + 12 × count bytes
abbrev pub resend_rows : ℕ → State → List ℕ → ℕ → List Row
resend_rows n s positions len =
    row 12 (not (eqb (length positions) (4 * n)) || above s (words positions) n)
    ∷ row 13 (ltb len (4 + 12 * length (in_transit s (words positions))))
    ∷ []

-- ---- the outcome

-- the messages to send again after a restart at these positions, which stay as they were
unfoldable pub resend_on : List ℕ → List ℕ → List ℕ → Outcome
resend_on t positions a =
    let s = decoded t in
    judged_with (first (table_rows t ++ resend_rows (word t 0) s positions (length a))) t a positions t
    (resend_words (in_transit s (words positions))) positions
