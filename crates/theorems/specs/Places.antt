-- Slip 4, stated. Proved as `places` in proofs/Places.antt.
--
-- "The receipt's area grows to 16 bytes: carried number, forced or not, place of the send, place of the receipt, both counted from 1":
-- for every receipt that is accepted, on a table that a run makes or on any other.
use Rattle.std.specs.Prelude.{◌≡◌, cond, List, [], ◌∷◌, ◌++◌, ℕ, ◌+◌, ltb, eqb, length}
use Rattle.std.proofs.Math.Option.{some}
use Rattle.xdr.specs.Words.{word, bytes}
use Rattle.rules.specs.Records.{sent, received, forced, History, State, history, record_at, number, sends}
use Rattle.rules.specs.Table.{layout, decoded}
use Rattle.rules.specs.Steps.{receipt}
use Rattle.rules.specs.Lines.{upto}
use Rattle.rules.specs.Calls.{outcome, step_on}

-- place i, "counted from 1", has the k-th send: its record is a send, to d, and of the records up to it k are sends
pub record SendAt (h : History) (k d i : ℕ) : Type 0 where
  pub there : record_at i h ≡ some (sent d)
  pub rank : sends (upto i h) ≡ k

-- What the receipt at p of send k of q leaves, where the table held the records s.
pub record Received (t a : List ℕ) (p q k : ℕ) (s : State) : Type 0 where
  pub carries : ℕ
  pub forces : ℕ
  pub sent_at : ℕ
  pub received_at : ℕ
  pub after : State
  -- the area has 16 bytes; 0 is returned, the table holds the records `after`, and the area has the four words
  pub size : length a ≡ 16
  pub left : step_on t a p (receipt q k) ≡ outcome 0 (layout (word t 0) (word t 1) after) (bytes (carries ∷ forces ∷ sent_at ∷ received_at ∷ []))
  -- "its place in the sender's list": the record there is the k-th send, with p as its destination, in the list as it was and as it is
  -- left, and no other record is the k-th send
  pub send : SendAt (history s q) k p sent_at
  pub stays : history after q ≡ history s q
  pub only : (d i : ℕ) → SendAt (history s q) k d i → i ≡ sent_at
  -- carried number and "1 if forced and 0 if not", as document 01 has them: the number that the sender had there, and whether it is
  -- greater than the receiver's
  pub number_there : carries ≡ number (upto sent_at (history s q))
  pub greater : forces ≡ cond (ltb (number (history s p)) carries) 1 0
  -- the place of the receipt's own record, which carries what is answered and is the last of its process, behind a forced checkpoint
  -- where one was added
  pub own : record_at received_at (history after p) ≡ some (received q k carries)
  pub last : received_at ≡ length (history s p) + 1 + forces
  pub behind : history after p ≡ received q k carries ∷ (cond (eqb forces 1) (forced carries ∷ []) [] ++ history s p)

abbrev pub Places : Type 0
Places = (t a : List ℕ) (p q k : ℕ) → (step_on t a p (receipt q k)).returned ≡ 0 → Received t a p q k (decoded t)

-- This leaves no choice: only one answer meets it. Proved as `one_answer`.
abbrev pub answer_of : {t a : List ℕ} {p q k : ℕ} {s : State} → Received t a p q k s → List ℕ
answer_of R = R.carries ∷ R.forces ∷ R.sent_at ∷ R.received_at ∷ []

abbrev pub OneAnswer : Type 0
OneAnswer = (t a : List ℕ) (p q k : ℕ) (s : State) (A B : Received t a p q k s) → answer_of A ≡ answer_of B
