-- What the functions that write text promise.
use Rattle.std.specs.Prelude.{◌≡◌, List, ◌++◌, ℕ, ◌+◌, ◌≤◌, length, take, drop}
use Rattle.decimal.specs.declared.output.Output.{Output}

-- memory that a text is written to: what is written, and the bytes behind it
pub record Page : Type 0 where
  pub written : List ℕ
  pub rest : List ℕ

abbrev pub page : List ℕ → List ℕ → Page
page w r = record { written = w; rest = r }

-- what an output shows of its memory
abbrev pub page_of : Output → Page
page_of o = page (take o.len o.bytes.now) (drop o.len o.bytes.now)

-- the text s, of n bytes at most, is written behind what was written before, and the bytes behind it are as they were
pub record Writes (before : Page) (s : List ℕ) (n : ℕ) (after : Page) : Type 0 where
  pub room : length after.written + length after.rest ≡ length before.written + length before.rest
  pub text : after.written ≡ before.written ++ s
  pub rest : after.rest ≡ drop (length s) before.rest
  pub most : length s ≤ n
