-- The line that tells what a call left, by the bytes of the call's own area.
use mathlib.Core.Path.{◌≡◌, refl, ◌∙◌, ap, subst}
use mathlib.Core.List.{List, ◌++◌}
use Prim.Native.Nat.{ℕ, ◌+◌, ◌*◌, ◌≤◌}
use lib.ListN.{take}
use Rattle.std.proofs.lemmas.List.{take-take}
use Rattle.std.specs.Prelude.{Result}
use Rattle.xdr.specs.Words.{words}
use Rattle.rules.specs.Calls.{Outcome}
use Rattle.rules.specs.Text.{decimal, further_fields, line_end, answer_line}
use Rattle.decimal.specs.Output.{Page, Writes}
use Rattle.answers.specs.declared.Refused.{Refused}
use Rattle.answers.specs.Shows.{Shows, returned, count_of, told_line}

-- the words that are told lie in that area
told_part : (n m : ℕ) {o : Outcome} {told : Result ℕ Refused} {t area : List ℕ} → Shows o told t area → 4 * count_of told ≤ m
    → told_line n told (take m area) ≡ answer_line n o
told_part n m {o} {told} {t} {area} shows le =
    ap (λ (bytes : List ℕ). decimal (returned told) ++ further_fields (n + 2) (words bytes) ++ line_end) (take-take (4 * count_of told) m area le)
    ∙ rw (shows.number, shows.words) refl

-- what is written then is the outcome's line, where it is written for the table's own count of processes
pub told_written : {k n m room : ℕ} {o : Outcome} {told : Result ℕ Refused} {t area : List ℕ} {a b : Page} → Writes a (told_line k told (take m area)) room b
    → k ≡ n → Shows o told t area → 4 * count_of told ≤ m → Writes a (answer_line n o) room b
told_written {k} {n} {m} {room} {o} {told} {t} {area} {a} {b} w is shows le =
    subst (λ (text : List ℕ). Writes a text room b) (ap (λ (i : ℕ). told_line i told (take m area)) is ∙ told_part n m shows le) w
