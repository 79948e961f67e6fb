-- Scripts: calls with the outcomes that another engine gave, to try the rules on; and checkpoints with what uses them.
use Rattle.std.specs.Prelude.{◌≡◌, Bool, cond, List, [], ◌∷◌, ◌++◌, map, ℕ, ◌-◌, ◌*◌, eqb, length, replicate}
use Rattle.xdr.specs.Words.{bytes}
use Rattle.rules.specs.Calls.{Outcome, outcome_with, outcome, fresh_on, step_on, line_on, failed_on}
use Rattle.rules.specs.Text.{Ask, fresh, step, line, failed}
use Rattle.rules.specs.Grounds.{grounds_on}
use Rattle.rules.specs.Resend.{resend_on}
use Rattle.rules.specs.Audit.{audit_on}
use Rattle.rules.specs.Records.{State}
use Rattle.rules.specs.Table.{decoded}
use Rattle.rules.specs.Saves.{cut_through, useful}

-- what the rules give for a call on the table t with the area a; fresh has no area
abbrev pub answered : List ℕ → List ℕ → Ask → Outcome
answered t a (fresh n E) = fresh_on t n E
answered t a (step p call) = step_on t a p call
answered t a (line N) = line_on t a N
answered t a (failed mask) = failed_on t a mask

-- A call with the length of its lent area, and what another engine did: it refused, returning a number, or it accepted, answering
-- these words and leaving this table. Resend is given its positions as words, and bytes after them where they aren't whole words; it
-- has no answer where it is refused, and whatever the answer leaves of the area stays. Grounds are asked of a mask. The audit is given
-- the length of a scratch besides.
pub data Step : Type 0 where
  refused : Ask → (length : ℕ) → (number : ℕ) → Step
  accepted : Ask → (length : ℕ) → (answer : List ℕ) → (after : List ℕ) → Step
  grounded : (mask : ℕ) → (length : ℕ) → (number : ℕ) → (answer : List ℕ) → Step
  resend : (positions : List ℕ) → (rest : List ℕ) → (length : ℕ) → (number : ℕ) → (answer : List ℕ) → Step
  audit : (length : ℕ) → (scratch : ℕ) → (number : ℕ) → (answer : List ℕ) → Step

-- a lent table, and the steps on it
pub data Script : Type 0 where
  script : (table : List ℕ) → List Step → Script

-- lent bytes that mean nothing
abbrev pub lent : ℕ → List ℕ
lent m = replicate m 255

-- What the rules give for each step. Every step is on the table that the script says the one before left, and not on the one that
-- the rules compute: so that no step is computed more than once. What an accepted audit leaves in the scratch is open; here it is
-- nothing.
abbrev pub given_on : List ℕ → List Step → List Outcome
given_on t [] = []
given_on t (refused ask m r ∷ l) = answered t (lent m) ask ∷ given_on t l
given_on t (accepted ask m ws t' ∷ l) = answered t (lent m) ask ∷ given_on t' l
given_on t (grounded mask m r ws ∷ l) = grounds_on t (lent m) mask ∷ given_on t l
given_on t (resend ps bs m r ws ∷ l) = resend_on t (bytes ps ++ bs) (lent m) ∷ given_on t l
given_on t (audit m s r ws ∷ l) = audit_on t (lent m) (lent s) [] ∷ given_on t l

abbrev pub given : Script → List Outcome
given (script t l) = given_on t l

-- what the script says
abbrev pub stated_on : List ℕ → List Step → List Outcome
stated_on t [] = []
stated_on t (refused ask m r ∷ l) = outcome r t (lent m) ∷ stated_on t l
stated_on t (accepted ask m ws t' ∷ l) = outcome 0 t' (bytes ws) ∷ stated_on t' l
stated_on t (grounded mask m r ws ∷ l) = outcome r t (bytes ws ++ lent (m - 4 * length ws)) ∷ stated_on t l
stated_on t (resend ps bs m r ws ∷ l) = outcome_with r t (bytes ws ++ lent (m - 4 * length ws)) (bytes ps ++ bs) ∷ stated_on t l
stated_on t (audit m s r ws ∷ l) = outcome_with r t (bytes ws ++ lent (m - 4 * length ws)) (cond (eqb r 0) [] (lent s)) ∷ stated_on t l

abbrev pub stated : Script → List Outcome
stated (script t l) = stated_on t l

-- the rules agree with the scripts
abbrev pub Agree : List Script → Type 0
Agree scripts = map given scripts ≡ map stated scripts

-- ---- saves

-- the checkpoint at place i of process p, the cut through it, and whether some cut uses it, as another search found
pub data Save : Type 0 where
  save : (p : ℕ) → (i : ℕ) → (cut : List ℕ) → (used : Bool) → Save

-- a table, and its checkpoints
pub data Saves : Type 0 where
  saves : (table : List ℕ) → List Save → Saves

-- what the rules give
abbrev pub searched : State → Save → Save
searched s (save p i cut used) = save p i (cut_through s p i) (useful s p i)

abbrev pub searched_on : Saves → Saves
searched_on (saves t l) = saves t (map (searched (decoded t)) l)

-- the rules agree with the other search
abbrev pub AgreeSaves : List Saves → Type 0
AgreeSaves l = map searched_on l ≡ l
