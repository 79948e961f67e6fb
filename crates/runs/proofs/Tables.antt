-- The audit's test of a table's bytes is passed exactly where some run leaves the records that the table holds, and the bytes are theirs.
use mathlib.Core.Path.{◌≡◌, refl, sym, ap, ◌∙◌, subst}
use mathlib.Core.Logic.{◌↔◌}
use mathlib.Core.Bool.{Bool, true, false}
use mathlib.Core.List.{List, [], ◌∷◌}
use Prim.Native.Nat.{ℕ}
use borrow.Author.Tests.{eq-eqb}
use Rattle.xdr.specs.Words.{word}
use Rattle.rules.specs.Compared.{same, same_equal}
use Rattle.rules.specs.Records.{State}
use Rattle.rules.specs.Table.{layout, decoded}
use Rattle.rules.specs.Audit.{replayed, audited}
use Rattle.basics.proofs.Booleans.{Test, passes, fails, test, clash}
use Rattle.tables.proofs.Laid.{layout_decoded}
use Rattle.tables.proofs.Ranges.{InRange}
use Rattle.tables.proofs.WellLaid.{decoded_layout}
use Rattle.tables.proofs.OneCall.{Valid}
use Rattle.runs.proofs.Ways.{MadeState, sound}
use Rattle.runs.proofs.Replayed.{replayed_made, replays}

same_itself : (t : List ℕ) → same t t ≡ true
same_itself [] = refl
same_itself (a ∷ t) = rw (eq-eqb a a refl) (same_itself t)

-- a table that holds records which some run leaves, and nothing beside them
pub record MadeTable (n E : ℕ) (t : List ℕ) : Type 0 where
  pub made : MadeState n E (decoded t)
  pub is : t ≡ layout n E (decoded t)

pub audited_table : (t : List ℕ) → InRange (word t 0) (word t 1) → (audited t ≡ true) ↔ MadeTable (word t 0) (word t 1) t
unfolding audited
audited_table t d = (there, back)
  where
    n : ℕ
    n = word t 0

    E : ℕ
    E = word t 1

    r : State
    r = replayed n E (decoded t)

    there : same (layout n E r) t ≡ true → MadeTable n E t
    there e =
        let is : layout n E r ≡ t = same_equal (layout n E r) t e in
        let held : r ≡ decoded t = sym (layout_decoded n E d r (sound (replayed_made n E (decoded t)))) ∙ ap decoded is in
        record { made = (replays n E (decoded t)).0 held; is = sym is ∙ ap (layout n E) held }

    back : MadeTable n E t → same (layout n E r) t ≡ true
    back M =
        let is : layout n E r ≡ t = ap (layout n E) ((replays n E (decoded t)).1 M.made) ∙ sym M.is in
        subst (λ (x : List ℕ). same x t ≡ true) (sym is) (same_itself t)

-- of a well laid table, whose bytes are those of its records
pub audited_made : (t : List ℕ) → Valid t → (audited t ≡ true) ↔ MadeState (word t 0) (word t 1) (decoded t)
audited_made t W = (
  λ e. ((audited_table t W.range).0 e).made,
  λ M. (audited_table t W.range).1 (record { made = M; is = decoded_layout (word t 0) (word t 1) t W.is }),
)

-- whatever else finds out whether some run leaves them agrees with the test
pub same_answer : (t : List ℕ) → Valid t → (b : Bool) → (b ≡ true) ↔ MadeState (word t 0) (word t 1) (decoded t) → audited t ≡ b
same_answer t W true D = (audited_made t W).1 (D.0 refl)
same_answer t W false D = go (test (audited t))
  where
    go : Test (audited t) → audited t ≡ false
    go (fails e) = e
    go (passes e) = clash false (D.1 ((audited_made t W).0 e)) refl
