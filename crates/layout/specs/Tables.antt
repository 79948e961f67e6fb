-- What a lent table holds.
use Rattle.std.specs.Prelude.{◌≡◌, ◌≤◌, ℕ, length}
use Rattle.rules.specs.Records.{State, History, number, sends}
use Rattle.rules.specs.Table.{decoded}
use Rattle.layout.specs.declared.Table.{Table}
use Rattle.layout.specs.declared.Section.{Section}

abbrev pub state_of : Table → State
state_of t = decoded t.bytes.now

-- a section starts at this word, and its heading is that of this history, whose number and count of sends are those of a well laid table
abbrev pub Heads : Section → ℕ → History → Type 0
Heads s at h =
    (s.at ≡ at)
    × (s.count ≡ length h)
    × (s.number ≡ number h)
    × (s.sends ≡ sends h)
    × (s.number ≤ 16384)
    × (s.sends ≤ 1024)
