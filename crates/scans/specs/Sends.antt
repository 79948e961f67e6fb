-- What the search for a send promises.
use Rattle.std.specs.Prelude.{◌≡◌, Bool, true, false, ◌&&◌, ℕ, leb, ltb, Option, Some, None}
use Rattle.rules.specs.Records.{History, sends, carried, destination, send_place}
use Rattle.scans.specs.declared.Sent.{Sent}

-- send k of the history h is there
abbrev pub there : ℕ → History → Bool
there k h = ltb 0 k && leb k (sends h)

-- if it is, the number that it carries, its destination and its place
abbrev pub Answers : ℕ → History → Option Sent → Type 0
Answers k h None = there k h ≡ false
Answers k h (Some s) = (there k h ≡ true) × (s.carried ≡ carried h k) × (s.to ≡ destination h k) × (s.place ≡ send_place h k)
