-- However the input is cut into chunks, the outputs joined are `text_output` of the whole.
use mathlib.Core.Path.{◌≡◌, ◌∙◌, sym, ap}
use mathlib.Core.List.{List, [], ◌∷◌, ◌++◌, append_assoc}
use Prim.Native.Nat.{ℕ}
use Rattle.session.specs.declared.Session.{Session}
use Rattle.session.specs.Session.{owed_by}
use Rattle.text.specs.Chunks.{Turn, Fed, chunks, outputs, AnyChunks}

fed_all : (s : Session) (ts : List Turn) (rest last : List ℕ) → Fed s ts rest last → outputs ts ++ last ≡ owed_by s (chunks ts ++ rest)
fed_all s [] rest last h = h
fed_all s (t ∷ ts) rest last h =
    append_assoc t.written (outputs ts) last
    ∙ ap (λ (l : List ℕ). t.written ++ l) (fed_all t.session ts rest last h.1)
    ∙ sym (h.0 (chunks ts ++ rest))
    ∙ ap (owed_by s) (sym (append_assoc t.chunk (chunks ts) rest))

pub any_chunks : AnyChunks
any_chunks s start ts rest last h = fed_all s ts rest last h ∙ start (chunks ts ++ rest)
