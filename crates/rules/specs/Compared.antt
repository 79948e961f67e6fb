-- Lists of numbers compared by a test. A worked case whose sides differ is then refused by one test that fails, and neither side has to be
-- set out in full.
use Rattle.std.specs.Prelude.{◌≡◌, refl, Bool, true, false, ◌&&◌, List, [], ◌∷◌, ℕ, eqb}
use Rattle.std.proofs.Common.{ap₂, eqb-true}
use Rattle.std.proofs.Math.Bool.{and-eq-true_iff}
use Rattle.std.proofs.lemmas.Bool.{false≢true}

abbrev pub same : List ℕ → List ℕ → Bool
same [] [] = true
same [] (b ∷ t) = false
same (a ∷ s) [] = false
same (a ∷ s) (b ∷ t) = eqb a b && same s t

abbrev pub sames : List (List ℕ) → List (List ℕ) → Bool
sames [] [] = true
sames [] (b ∷ t) = false
sames (a ∷ s) [] = false
sames (a ∷ s) (b ∷ t) = same a b && sames s t

pub same_equal : (s t : List ℕ) → same s t ≡ true → s ≡ t
same_equal [] [] e = refl
same_equal [] (b ∷ t) e = absurd (false≢true e)
same_equal (a ∷ s) [] e = absurd (false≢true e)
same_equal (a ∷ s) (b ∷ t) e =
    let h = (and-eq-true_iff (eqb a b) (same s t)).0 e in
    ap₂ (λ (x : ℕ) (xs : List ℕ). x ∷ xs) (eqb-true a b h.0) (same_equal s t h.1)

pub sames_equal : (s t : List (List ℕ)) → sames s t ≡ true → s ≡ t
sames_equal [] [] e = refl
sames_equal [] (b ∷ t) e = absurd (false≢true e)
sames_equal (a ∷ s) [] e = absurd (false≢true e)
sames_equal (a ∷ s) (b ∷ t) e =
    let h = (and-eq-true_iff (same a b) (sames s t)).0 e in
    ap₂ (λ (x : List ℕ) (xs : List (List ℕ)). x ∷ xs) (same_equal a b h.0) (sames_equal s t h.1)
