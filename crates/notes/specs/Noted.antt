-- What is noted of the messages in transit at a cut.
use Rattle.std.specs.Prelude.{◌≡◌, Bool, cond, ◌&&◌, List, [], ◌∷◌, ◌++◌, ℕ, zero, suc, ◌+◌, ◌≤◌, ◌<◌, leb, ltb, length, get_or, set, replicate}
use Rattle.xdr.specs.Words.{words}
use Rattle.rules.specs.Records.{State, sends, destination, has_receipt}
use Rattle.rules.specs.Lines.{part}
use Rattle.rules.specs.Resend.{Message, message, transit_of}
use Rattle.layout.specs.declared.Table.{Table}
use Rattle.layout.specs.Tables.{state_of}
use Rattle.cuts.specs.Notes.{span_of}
use Rattle.notes.specs.declared.cut.Cut.{Cut}
use Rattle.notes.specs.declared.Senders.{Senders}

-- what the table of a cut holds, and the cut's positions
abbrev pub state_at : Cut → State
state_at c = state_of c.table

abbrev pub places : Cut → List ℕ
places c = words c.positions.now

-- a list has room for the notes of any one process, and sixteen bits hold each index
abbrev pub HasRoom : Cut → ℕ → Type 0
HasRoom c len = (c.table.e < len) × (len ≤ 65536)

-- how many sends the processes below q have made inside the cut
abbrev pub sent_below : State → List ℕ → ℕ → ℕ
sent_below s cut zero = 0
sent_below s cut (suc q) = sent_below s cut q + sends (part s cut q)

-- ---- senders that are noted, one behind the other

-- none from process q on
abbrev pub none_from : ℕ → Senders
none_from q = record { from = q; next = q; many = 0; spans = replicate 16 (record { start = 0; count = 0 }) }

-- one more, of which k sends are noted behind the others
abbrev pub grown : Senders → ℕ → Senders
grown g k = record { from = g.from; next = g.next + 1; many = g.many + k; spans = set g.spans g.next (record { start = g.many; count = k }) }

-- The processes from `from` on that come before `next` are noted, with all their sends inside the cut, of which there are `many`: from
-- which index on each is noted, and how many sends. No other process is noted.
pub record Group (s : State) (cut : List ℕ) (g : Senders) : Type 0 where
  pub size : length g.spans ≡ 16
  pub start : (q : ℕ) → g.from ≤ q → q < g.next → (span_of g.spans q).start + sent_below s cut g.from ≡ sent_below s cut q
  pub count : (q : ℕ) → g.from ≤ q → q < g.next → (span_of g.spans q).count ≡ sends (part s cut q)
  pub before : (q : ℕ) → q < g.from → ((span_of g.spans q).start ≡ 0) × ((span_of g.spans q).count ≡ 0)
  pub behind : (q : ℕ) → g.next ≤ q → ((span_of g.spans q).start ≡ 0) × ((span_of g.spans q).count ≡ 0)
  pub all : g.many + sent_below s cut g.from ≡ sent_below s cut g.next

-- where send k of process q goes, 16 if its receiver is one of the first p processes and has got it
abbrev pub left : State → List ℕ → ℕ → ℕ → ℕ → ℕ
left s cut p q k =
    let d = destination (part s cut q) k in
    cond (ltb d p && has_receipt (part s cut d) q k) 16 d

-- a list has this for each send that is noted
abbrev pub Left : State → List ℕ → ℕ → Senders → List ℕ → Type 0
Left s cut p g to = (q k : ℕ) → g.from ≤ q → q < g.next → 0 < k → k ≤ sends (part s cut q) → get_or to ((span_of g.spans q).start + k) 0 ≡ left s cut p q k

-- what is noted of a cut of a table, where the receipts of the first p processes are struck
pub record NotedAt (t : Table) (cut : List ℕ) (p : ℕ) (g : Senders) (to : List ℕ) : Type 0 where
  pub group : Group (state_of t) cut g
  pub notes : Left (state_of t) cut p g to
  pub order : g.from ≤ g.next
  pub most : g.next ≤ t.n
  pub room : g.many < length to

abbrev pub Noted : Cut → ℕ → Senders → List ℕ → Type 0
Noted c = NotedAt c.table (places c)

-- ---- as messages

-- a note that isn't struck
abbrev pub is_left : ℕ → Bool
is_left d = ltb d 16

-- the message that a note of send k of process q leaves, as a list
abbrev pub left_one : ℕ → ℕ → ℕ → List Message
left_one q k d = cond (is_left d) (message q k d ∷ []) []

-- those that notes of process q leave, where the first note is that of send k + 1
abbrev pub left_in : ℕ → ℕ → List ℕ → List Message
left_in q k [] = []
left_in q k (d ∷ to) = left_one q (suc k) d ++ left_in q (suc k) to

-- how many sends process q has made inside a cut, and those of them that are in transit
abbrev pub sent_by : Cut → ℕ → ℕ
sent_by c q = sends (part (state_at c) (places c) q)

abbrev pub messages_of : Cut → ℕ → List Message
messages_of c q = transit_of (state_at c) (places c) q (sent_by c q)

-- what a clause sees of notes: the cut, and that the senders from one on and before another are noted
pub record Noting : Type 0 where
  pub cut : Cut
  pub from : ℕ
  pub next : ℕ

-- whether process q is noted
abbrev pub has : Noting → ℕ → Bool
has v q = leb v.from q && ltb q v.next

-- it is
abbrev pub Has : Noting → ℕ → Type 0
Has v q = (v.from ≤ q) × (q < v.next)
