-- What the words of records say.
use Rattle.std.specs.Prelude.{◌≡◌, Bool, cond, List, [], ◌∷◌, ℕ, ◌+◌, ◌*◌, length, Option, Some, None}
use Rattle.rules.specs.Records as records
use Rattle.rules.specs.FailureLine.{any, before}
use Rattle.rules.specs.Table.{width, event_at, records_at}
use Rattle.xdr.specs.Words.{word}
use Rattle.events.specs.declared.Event.{Event}
use Rattle.events.specs.declared.Event.TheVariants as event
use Rattle.events.specs.declared.Records.{Records}

-- the record that document 01 means by it; a send's own number and what it carries follow from the records before it
abbrev pub meant : Event → records.Event
meant (event.Basic m) = records.basic m
meant (event.Forced m) = records.forced m
meant (event.Sent q k c) = records.sent q
meant (event.Received q k c) = records.received q k c

-- the record at index i
abbrev pub record_of : Records → ℕ → records.Event
record_of r i = event_at (word r.bytes.now) (r.at + width * i)

-- its words a and b
abbrev pub numbers_of : Records → ℕ → ℕ × ℕ
numbers_of r i = (word r.bytes.now (r.at + width * i + 1), word r.bytes.now (r.at + width * i + 2))

-- the first i records, and all of them, newest first
abbrev pub first_of : Records → ℕ → records.History
first_of r i = records_at (word r.bytes.now) r.at i

abbrev pub held : Records → records.History
held r = first_of r r.count

-- what a send's words at word i say besides: its own number and what it carries
abbrev pub Spells : (ℕ → ℕ) → ℕ → Event → Type 0
Spells w i (event.Sent q k c) = (k ≡ w (i + 2)) × (c ≡ w (i + 3))
Spells w i (event.Basic m) = Unit {0}
Spells w i (event.Forced m) = Unit {0}
Spells w i (event.Received q k c) = Unit {0}

-- its words
abbrev pub words_of : Event → List ℕ
words_of (event.Basic m) = 1 ∷ m ∷ 0 ∷ 0 ∷ []
words_of (event.Forced m) = 2 ∷ m ∷ 0 ∷ 0 ∷ []
words_of (event.Sent q k c) = 3 ∷ q ∷ k ∷ c ∷ []
words_of (event.Received q k c) = 4 ∷ q ∷ k ∷ c ∷ []

-- where the first record is for which a test holds, oldest first: as many come before it
abbrev pub first_index : (records.Event → Bool) → records.History → Option ℕ
first_index o h = cond (any o h) (Some (length (before o h))) None
