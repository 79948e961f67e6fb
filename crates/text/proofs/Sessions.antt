-- What a session owes when it begins, and at its end.
use mathlib.Core.Path.{◌≡◌, refl, ◌∙◌, ap}
use mathlib.Core.Bool.{true, false≢true}
use mathlib.Core.List.{List, [], ◌∷◌}
use Prim.Native.Nat.{ℕ}
use Rattle.rules.specs.Text as text
use Rattle.replies.specs.Replies.{is_ended}
use Rattle.session.specs.declared.Session.{Session}
use Rattle.session.specs.Session.{owed_by}

pub starts : (s : Session) → s.program ≡ text.waiting → s.line ≡ [] → (x : List ℕ) → owed_by s x ≡ text.text_output x
unfolding text.text_output
starts s e h x =
    ap (λ (l : List ℕ). text.answers s.program (text.lines_from l x)) h ∙ ap (λ (g : text.Stage). text.answers g (text.lines_from [] x)) e

-- at its end the program writes nothing more
answers_ended : (ls : List (List ℕ)) → text.answers text.ended ls ≡ []
answers_ended [] = refl
answers_ended (l ∷ ls) = answers_ended ls

pub owes_nothing : (g : text.Stage) (h x : List ℕ) → is_ended g ≡ true → text.answers g (text.lines_from h x) ≡ []
owes_nothing text.waiting h x e = absurd (false≢true e)
owes_nothing (text.running n t) h x e = absurd (false≢true e)
owes_nothing text.ended h x e = answers_ended (text.lines_from h x)
