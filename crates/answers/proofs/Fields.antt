-- The fields of an answer, one after the other.
use mathlib.Core.Path.{◌≡◌, refl, ◌∙◌, sym, ap, subst}
use mathlib.Core.Bool.{Bool, true, false, cond}
use mathlib.Core.List.{List, [], ◌∷◌, ◌++◌}
use Prim.Native.Nat.{ℕ, suc, ◌+◌, ◌-◌, ◌*◌, ◌≤◌, ◌<◌}
use native.Mathlib.Omega.{arith}
use native.Mathlib.Nat.{not-suc-le-zero}
use native.Mathlib.Numerals.{add-one}
use lib.Dec.{ltb}
use lib.ListN.{length, drop, drop_of_length-le}
use lib.Seq.{drop-cons}
use borrow.Author.Tests.{ltb-true, ltb-false}
use Rattle.xdr.specs.Words.{word}
use Rattle.xdr.proofs.Words.{words_length, words_get}
use Rattle.rules.specs.Text.{decimal, further_fields}
use Rattle.decimal.specs.Output.{Page, Writes}
use Rattle.decimal.proofs.Texts.{Writing, writing_on, writes_both}
use Rattle.std.specs.Prelude.{Result, Ok, Err}
use Rattle.std.specs.Result.{result_unwrap_or}
use Rattle.answers.specs.declared.Refused.{Refused}
use Rattle.answers.specs.Shows.{shown, field_or, count_of}

-- of k fields, the first of them the numbers vs, the first i are written
abbrev pub Written : Page → Page → List ℕ → ℕ → ℕ → Type 0
Written before out vs k i = (i ≤ k) × Writing before (further_fields k vs) (11 * i) out (further_fields (k - i) (drop i vs))

-- the fields from field i on are field i and those after it
field_next : (count : ℕ) (area : List ℕ) (i m : ℕ) (b : Bool) → ltb i count ≡ b → 4 * count ≤ length area
    → further_fields (suc m) (drop i (shown count area)) ≡ (44 ∷ cond b (decimal (word area i)) []) ++ further_fields m (drop (i + 1) (shown count area))
field_next count area i m true t le =
    let lt : i < count = ltb-true i count t in
    let vs = shown count area in
    let inside : i < length vs = omega (arith, lt, words_length count area le) in
    ap (further_fields (suc m)) (drop-cons vs i 0 inside)
    ∙ ap (λ (v : ℕ). 44 ∷ (decimal v ++ further_fields m (drop (suc i) vs))) (words_get count area i le lt)
    ∙ ap (λ (j : ℕ). 44 ∷ (decimal (word area i) ++ further_fields m (drop j vs))) (sym (add-one i))
field_next count area i m false t le =
    let ge : count ≤ i = ltb-false i count t in
    let vs = shown count area in
    let one : length vs ≤ i = omega (arith, ge, words_length count area le) in
    let two : length vs ≤ i + 1 = omega (arith, one) in
    ap (further_fields (suc m)) (drop_of_length-le vs one) ∙ ap (λ (l : List ℕ). 44 ∷ further_fields m l) (sym (drop_of_length-le vs two))

-- a field that shows a word
pub field_shown : {a b c : Page} (count i : ℕ) (area : List ℕ) {v : ℕ} → i < count → v ≡ word area i → Writes a (44 ∷ []) 1 b
    → Writes b (decimal v) 10 c → Writes a (field_or count area i) 11 c
field_shown {a} {b} {c} count i area lt e comma number =
    subst (λ (s : List ℕ). Writes a s 11 c) (ap (λ (w : ℕ). 44 ∷ decimal w) e ∙ sym (either (ltb i count) refl)) (writes_both (omega arith) comma number)
  where
    either : (t : Bool) → ltb i count ≡ t → field_or count area i ≡ 44 ∷ decimal (word area i)
    either true h = ap (λ (t : Bool). 44 ∷ cond t (decimal (word area i)) []) h
    either false h = absurd (not-suc-le-zero {n = 0} (omega (arith, ltb-false i count h, lt)))

pub written_on : (before out out₁ : Page) (count : ℕ) (area : List ℕ) (k i : ℕ) → Written before out (shown count area) k i → i < k
    → 4 * count ≤ length area → Writes out (field_or count area i) 11 out₁ → Written before out₁ (shown count area) k (i + 1)
written_on before out out₁ count area k i h lt le put =
    let m : k - i ≡ suc (k - (i + 1)) = omega (arith, lt) in
    let next = field_next count area i (k - (i + 1)) (ltb i count) refl le in (
      omega (arith, lt),
      writing_on (omega arith)
          (subst (λ (l : List ℕ). Writing before (further_fields k (shown count area)) (11 * i) out l)
          (ap (λ (j : ℕ). further_fields j (drop i (shown count area))) m ∙ next) h.1) put,
    )

pub count_is : (r : Result ℕ Refused) → result_unwrap_or r 0 ≡ count_of r
count_is (Ok k) = refl
count_is (Err e) = refl
