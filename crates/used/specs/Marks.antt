-- A record's words a and b tested at once, then its fourth word. A pair holds two words as the halves of one number; a test marks a half by
-- its top bit.
use Rattle.std.specs.Prelude.{◌≡◌, ℕ, ◌+◌, ◌-◌, ◌*◌, ◌/◌, ◌%◌, ◌≤◌, Bool, true, cond, ◌&&◌, List, [], ◌∷◌, ◌==◌, bit_and, bit_or, bit_xor, nat_lt, slice_index, slice_index_or}
use Rattle.rules.specs.Records.{number, sends}
use Rattle.rules.specs.Table.{records_at, records_ok}
use Rattle.used.specs.declared.Seen.{Seen}

-- a half's top bit, 2 ^ 31; its other bits; the weight of the upper half, 2 ^ 32; where a number of 64 bits wraps, 2 ^ 64
abbrev pub top : ℕ
top = 2147483648

abbrev pub rest : ℕ
rest = 2147483647

abbrev pub upper : ℕ
upper = 4294967296

abbrev pub wrap : ℕ
wrap = 18446744073709551616

-- two words as one number
abbrev pub pair_of : ℕ → ℕ → ℕ
pair_of a b = a * upper + b

-- neither half is marked
abbrev pub clear : ℕ → Bool
clear x = x / (top * upper) == 0 && x / top % 2 == 0

-- where a kind stands in the lists below; a number that is no kind stands at 0
abbrev pub kind_index : ℕ → ℕ
kind_index kind = cond (nat_lt kind 5) kind 0

-- by kind, what is added to a pair: a sum is marked where the word is above the most that it may be
abbrev pub rooms : ℕ → ℕ → List ℕ
rooms n E =
    pair_of top 0
    ∷ pair_of (rest - n * E) rest
    ∷ pair_of (rest - n * E) rest
    ∷ pair_of (top - n) rest
    ∷ pair_of (top - n) (rest - E)
    ∷ []

-- by kind, what a pair is taken from: a difference is marked where the word is 0 and must not be, or has its own top bit
abbrev pub floors : List ℕ
floors = pair_of rest rest ∷ pair_of rest rest ∷ pair_of rest rest ∷ pair_of top rest ∷ pair_of top top ∷ []

-- by kind, how many sends a record is
abbrev pub counts : List ℕ
counts = 0 ∷ 0 ∷ 0 ∷ 1 ∷ 0 ∷ []

-- All bits of a number for a receipt, and none for other kinds; at the place behind a kind's own, all for a send and none for others. One
-- list has both.
abbrev pub masks : List ℕ
masks = 0 ∷ 0 ∷ 0 ∷ 0 ∷ (wrap - 1) ∷ 0 ∷ []

-- three lists are those, for a table of n processes with room for E records each
abbrev pub ByKind : ℕ → ℕ → List ℕ → List ℕ → List ℕ → Type 0
ByKind n E room floor mask = (room ≡ rooms n E) × (floor ≡ floors) × (mask ≡ masks)

-- the sum; t is the send number that a send is to have, and 0 for other records, so that b becomes 0 where it is right
abbrev pub above : ℕ → ℕ → ℕ → ℕ
above pair t room = (bit_xor pair t + room) % wrap

-- the difference; own has the process of the section in its upper half, so that a becomes 0 where it is that process
abbrev pub below : ℕ → ℕ → ℕ → ℕ
below pair own floor = (floor + (wrap - bit_xor pair own)) % wrap

-- the difference for the fourth word c of a record whose kind stands at i, where x is the number before it: c is taken from x for a
-- receipt, else from 0, and for a send it becomes 0 first where it is x. So it is marked where c isn't what it may be.
abbrev pub beyond : ℕ → ℕ → ℕ → ℕ
beyond x c i = (bit_and x (slice_index masks i) + (wrap - bit_xor c (bit_and x (slice_index masks (i + 1))))) % wrap

-- ---- what a scan of used records has found

-- after one record more: its kind, its words a and b as a pair, and its fourth word c
abbrev pub Next : Seen → List ℕ → List ℕ → ℕ → ℕ → ℕ → ℕ → Seen → Type 0
Next s room floor own kind pair c r =
    let i = kind_index kind in
    let k = s.sends + slice_index_or counts i 0 in
    (r.marks
    ≡ bit_or (bit_or (bit_or s.marks (above pair (k * slice_index counts i) (slice_index room i))) (below pair own (slice_index floor i))) (beyond (s.last / upper) c i))
    × (r.last ≡ cond (nat_lt i 3) pair s.last)
    × (r.sends ≡ k)

-- after the first c records of process p from word `at` on: the marks are clear where all are in order, and then the last checkpoint and
-- the count of sends are known
abbrev pub Found : ℕ → ℕ → (ℕ → ℕ) → ℕ → ℕ → ℕ → Seen → Type 0
Found n E w p at c s =
    (clear s.marks ≡ records_ok n E w p at c)
    × (records_ok n E w p at c ≡ true → (s.last ≡ number (records_at w at c) * upper) × (s.sends ≡ sends (records_at w at c)))
    × (s.sends ≤ c)
