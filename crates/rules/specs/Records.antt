-- Document 01, "The table" and "Steps": what a process's records say.
use Rattle.std.specs.Prelude.{Bool, false, cond, ◌&&◌, ◌||◌, List, [], ◌∷◌, ℕ, suc, leb, ltb, eqb, length, get_or}
use Rattle.std.proofs.Math.Option.{Option, none, some}

-- A record of kind 1, 2, 3 or 4. What follows from the records before it isn't kept: a send's number, which is its place among the sends
-- of its process, and the number that it carries. A receipt keeps the carried number that was written with it.
pub data Event : Type 0 where
  basic : (number : ℕ) → Event
  forced : (number : ℕ) → Event
  sent : (destination : ℕ) → Event
  received : (sender : ℕ) → (k : ℕ) → (carried : ℕ) → Event

-- A process's records, newest first: what was before a record is the rest of the list.
abbrev pub History : Type 0
History = List Event

-- One history for each process, process 0 first.
abbrev pub State : Type 0
State = List History

abbrev pub history : State → ℕ → History
history s p = get_or s p []

-- the record at place i, counted from 1
abbrev pub record_at : ℕ → History → Option Event
record_at i [] = none
record_at i (e ∷ h) = cond (eqb i (suc (length h))) (some e) (record_at i h)

-- the process's number: that of its last checkpoint, of which the initial one has number 0
abbrev pub number : History → ℕ
number [] = 0
number (basic m ∷ h) = m
number (forced m ∷ h) = m
number (sent q ∷ h) = number h
number (received q k c ∷ h) = number h

-- the process's count of sends
abbrev pub sends : History → ℕ
sends [] = 0
sends (basic m ∷ h) = sends h
sends (forced m ∷ h) = sends h
sends (sent q ∷ h) = suc (sends h)
sends (received q k c ∷ h) = sends h

-- what f gives for the k-th send, from the records before it and its destination; 0 where there is no k-th send
abbrev pub of_send : (History → ℕ → ℕ) → History → ℕ → ℕ
of_send f [] k = 0
of_send f (basic m ∷ h) k = of_send f h k
of_send f (forced m ∷ h) k = of_send f h k
of_send f (sent q ∷ h) k = cond (eqb k (suc (sends h))) (f h q) (of_send f h k)
of_send f (received q j c ∷ h) k = of_send f h k

-- the carried number of the k-th send: the number of the sender's last checkpoint before it
abbrev pub carried : History → ℕ → ℕ
carried h k = of_send (λ before q. number before) h k

-- the destination of the k-th send
abbrev pub destination : History → ℕ → ℕ
destination h k = of_send (λ before q. q) h k

-- the place of the k-th send among its sender's records, counted from 1
abbrev pub send_place : History → ℕ → ℕ
send_place h k = of_send (λ before q. suc (length before)) h k

-- the k-th send is there, with p as its destination
abbrev pub has_send : History → ℕ → ℕ → Bool
has_send h p k = ltb 0 k && leb k (sends h) && eqb (destination h k) p

-- there is a receipt of (q, k), send k of q, whatever it carried
abbrev pub has_receipt : History → ℕ → ℕ → Bool
has_receipt [] q k = false
has_receipt (basic m ∷ h) q k = has_receipt h q k
has_receipt (forced m ∷ h) q k = has_receipt h q k
has_receipt (sent d ∷ h) q k = has_receipt h q k
has_receipt (received r j c ∷ h) q k = (eqb r q && eqb j k) || has_receipt h q k
