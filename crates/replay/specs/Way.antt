-- How far the calls of a table were made again.
use Rattle.std.specs.Prelude.{◌≡◌, ◌≢◌, ◌⊎◌, Bool, true, cond, List, ℕ, suc, ◌-◌, ◌≤◌, ◌<◌, length, get_or, set, Option as Maybe, Result, MatchResult, MatchOption}
use Rattle.xdr.specs.Words.{word, put_word}
use Rattle.basics.specs.Sums.{sum_below}
use Rattle.rules.specs.Records.{History, State, history, record_at, number, sends}
use Rattle.rules.specs.Lines.{upto}
use Rattle.runs.proofs.Ways.{MadeState, Reached}
use Rattle.runs.proofs.Stops.{Stop}
use Rattle.runs.proofs.Turns.{past}
use Rattle.events.specs.declared.Records.{Records}
use Rattle.events.specs.Events.{held}
use Rattle.layout.specs.declared.Table.{Table}
use Rattle.layout.specs.Tables.{state_of}
use Rattle.replay.specs.Notes.{taken, Noted}
use Rattle.replay.specs.declared.Done.{Done}
use Rattle.replay.specs.declared.Unmade.{Unmade}
use Rattle.replay.specs.declared.Replay.{Replay}

-- a run leaves the table's records
abbrev pub Made : Table → Type 0
Made t = MadeState t.n t.e (state_of t)

-- ---- processes

abbrev pub done_at : List Done → ℕ → Done
done_at done p = get_or done p (record { records = 0; number = 0; sends = 0 })

-- a process that has come this far has made these records
abbrev pub Stands : Done → History → Type 0
Stands d h = (d.records ≡ length h) × (d.number ≡ number h) × (d.sends ≡ sends h)

-- Records that a run leaves were made again, the first ones of each process, and this is noted of their sends.
pub record Way (t : Table) (done : List Done) (notes : List ℕ) : Type 0 where
  pub state : State
  pub reached : Reached t.n t.e (state_of t) state
  pub sixteen : length done ≡ 16
  pub stands : (p : ℕ) → p < t.n → Stands (done_at done p) (history state p)
  pub noting : Noted t.n t.e state notes

-- how far process p may come without a send that isn't made: a forced checkpoint comes with the receipt behind it
abbrev pub top : Table → List Done → ℕ → History
top t done p =
    let h = history (state_of t) p in
    let r = (done_at done p).records in
    past (record_at (suc r) h) (upto r h)

-- process p has made all its calls, or waits for a send
abbrev pub Stops : Table → List Done → ℕ → Type 0
Stops t done p = Stop (state_of t) (top t done) p

-- so do the processes below m
abbrev pub Rests : Table → List Done → ℕ → Type 0
Rests t done m = (p : ℕ) → p < m → Stops t done p

-- how many records are left to be made
abbrev pub remaining : Table → List Done → ℕ
remaining t done = sum_below (λ p. length (history (state_of t) p) - (done_at done p).records) t.n

-- a table whose calls are made again has come this far, and counts what is left
abbrev pub Going : Replay → Type 0
Going r = Way r.table r.done r.notes.now × (r.left ≡ remaining r.table r.done)

-- process p has come as far as d, and these are its records, of which one is left
abbrev pub Pending : Replay → ℕ → Done → Records → Type 0
Pending r p d records =
    (p < r.table.n)
    × (held records ≡ history (state_of r.table) p)
    × (d.records < records.count)
    × Way r.table (set r.done p d) r.notes.now

-- its notes alone may change
abbrev pub Kept : Replay → Replay → Type 0
Kept r s = (s.table ≡ r.table) × (s.done ≡ r.done) × (s.left ≡ r.left)

-- process p has come as far as d, where no other process has gone on; d is what it was, or further
abbrev pub Came : Replay → ℕ → Done → Type 0
Came r p d =
    Way r.table (set r.done p d) r.notes.now
    × (d.records ≤ length (history (state_of r.table) p))
    × ((d ≡ done_at r.done p) ⊎ ((done_at r.done p).records < d.records))

-- ---- what functions leave

-- a message whose note is to be m, at word `at`: it waits, or was there and its note is struck; or another note is there
abbrev pub Took : Bool → ℕ → ℕ → List ℕ → Result Bool Unmade → List ℕ → Type 0
Took there m at before r after =
    MatchResult r (λ b. (b ≡ there) × (after ≡ cond b (put_word before at taken) before) × (b ≡ true → word before at ≡ m))
    (λ x. (there ≡ true) × (word before at ≢ m))

-- process p, which had come as far as d, makes its next call or waits; or no run leaves the table
abbrev pub Went : Replay → ℕ → Done → Result (Maybe Done) Unmade → Replay → Type 0
Went r p d result s =
    MatchResult result (λ o. MatchOption o ((s.notes.now ≡ r.notes.now) × Stops r.table (set r.done p d) p)
    (λ g. Way r.table (set r.done p g) s.notes.now × (d.records < g.records) × (g.records ≤ length (history (state_of r.table) p))))
    (λ x. ¬ Made r.table)
