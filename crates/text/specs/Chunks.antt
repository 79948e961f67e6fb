-- However the input is cut into chunks, the outputs joined are `text_output` of the whole: the statement.
use Rattle.std.specs.Prelude.{◌≡◌, List, [], ◌∷◌, ◌++◌, ℕ}
use Rattle.rules.specs.Text.{text_output}
use Rattle.session.specs.declared.Session.{Session}
use Rattle.session.specs.Session.{owed_by}

-- a call of `feed`: the chunk, the bytes that it wrote, and the session as it left it
pub record Turn : Type 0 where
  pub chunk : List ℕ
  pub written : List ℕ
  pub session : Session

-- Calls of `feed` one after the other, each with what the one before left, as its contract has them. Then the rest of the input gets
-- `last`: from `finish` where there is no rest, and nothing where the session has ended.
abbrev pub Fed : Session → List Turn → List ℕ → List ℕ → Type 0
Fed s [] rest last = last ≡ owed_by s rest
Fed s (t ∷ ts) rest last = ((x : List ℕ) → owed_by s (t.chunk ++ x) ≡ t.written ++ owed_by t.session x) × Fed t.session ts rest last

-- the chunks joined, and what was written for them joined
abbrev pub chunks : List Turn → List ℕ
chunks [] = []
chunks (t ∷ ts) = t.chunk ++ chunks ts

abbrev pub outputs : List Turn → List ℕ
outputs [] = []
outputs (t ∷ ts) = t.written ++ outputs ts

-- For a session that owes what `start` promises: whatever chunks the input comes in, the outputs and `last` joined are what document 01
-- has for the whole input.
abbrev pub AnyChunks : Type 0
AnyChunks =
    (s : Session) → ((x : List ℕ) → owed_by s x ≡ text_output x) → (ts : List Turn) (rest last : List ℕ) → Fed s ts rest last
    → outputs ts ++ last ≡ text_output (chunks ts ++ rest)
