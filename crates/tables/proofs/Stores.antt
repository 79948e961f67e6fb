-- The six words that a call stores for one record, and that they turn a well laid table into that of the longer history.
use mathlib.Core.Path.{◌≡◌, sym, ap, ◌∙◌, subst}
use mathlib.Core.Logic.{◌≢◌, ◌⊎◌, inl, inr}
use mathlib.Core.List.{List, [], ◌∷◌, ◌++◌}
use Prim.Native.Nat.{ℕ, suc, ◌+◌, ◌*◌, ◌≤◌, ◌<◌}
use native.Mathlib.Nat.{mul-le-mul_right}
use native.Mathlib.Omega.{arith}
use native.Mathlib.Decide.{dec_lt, ℕ_discrete}
use lib.ListN.{length, get_or, set, length-set, length-append}
use Rattle.rules.specs.Records.{History, State, history, number, sends}
use Rattle.xdr.specs.Words.{word, put_words}
use Rattle.rules.specs.Table.{heading, width, section_words, layout, start, decoded}
use Rattle.records.proofs.Steps.{history_same, history_other, each_step}
use Rattle.tables.proofs.Places.{At}
use Rattle.tables.proofs.Laid.{section_length, next}
use Rattle.tables.proofs.WellLaid.{IsTable, is_layout, added_words, added_length, section_grown, decoded_length, decoded_words, decoded_short}
use Rattle.xdr.proofs.Words.{Small}
use Rattle.xdr.proofs.Puts.{all_length, all_bytes, all_other, all_at}

-- the words at the start of a section with records es after those of h
abbrev pub head_words : History → History → List ℕ
head_words es h = (length es + length h) ∷ number (es ++ h) ∷ sends (es ++ h) ∷ []

-- a table with records es more at process p, whose history is h
unfoldable pub stored : ℕ → List ℕ → ℕ → History → History → List ℕ
stored E t p h es = put_words (put_words t (start E p) (head_words es h)) (start E p + heading + width * length h) (added_words es h)

pub stored_layout : (n E : ℕ) (t : List ℕ) (T : IsTable n E t) (p : ℕ) (es : History) → p < n → length es + length (history (decoded t) p) ≤ E
    → Small (head_words es (history (decoded t) p)) → Small (added_words es (history (decoded t) p))
    → stored E t p (history (decoded t) p) es ≡ layout n E (set (decoded t) p (es ++ history (decoded t) p))
unfolding stored
stored_layout n E t T p es lt room small₁ small₂ =
    is_layout n E (set s p (es ++ h)) u (all_bytes t' k (added_words es h) (all_bytes t at heads T.bytes))
    (all_length t' k (added_words es h) ∙ all_length t at heads ∙ T.whole)
    (length-set s p (es ++ h) ∙ decoded_length n E t T)
    (each_step (λ (r : ℕ) (x : History). length x ≤ E) s p (es ++ h) inside (let l = length-append es h in omega arith) (λ r ne. decoded_short n E t T r))
    (early 0 (omega arith) ∙ T.first) (early 1 (omega arith) ∙ T.second)
    sections
  where
    s : State
    s = decoded t

    h : History
    h = history s p

    at : ℕ
    at = start E p

    k : ℕ
    k = at + heading + width * length h

    heads : List ℕ
    heads = head_words es h

    t' : List ℕ
    t' = put_words t at heads

    u : List ℕ
    u = put_words t' k (added_words es h)

    inside : p < length s
    inside = let z = decoded_length n E t T in omega arith

    three : length (added_words es h) ≡ width * length es
    three = added_length es h

    -- word 0 and word 1 stay
    early : (j : ℕ) → j < 2 → word u j ≡ word t j
    early j l = all_other t' k (added_words es h) j (inl (omega arith)) ∙ all_other t at heads j (inl (omega arith))

    -- a word outside the section stays
    outside : (j : ℕ) → (j < at) ⊎ (start E (suc p) ≤ j) → word u j ≡ word t j
    outside j (inl x) = all_other t' k (added_words es h) j (inl (omega arith)) ∙ all_other t at heads j (inl x)
    outside j (inr x) =
        let y = next E p in
        let z = three in
        all_other t' k (added_words es h) j (inr (omega arith)) ∙ all_other t at heads j (inr (omega arith))

    fits : 4 * (k + width * length es) ≤ length t
    fits =
        let a = next E p in
        let b = mul-le-mul_right (heading + width * E) lt in
        let c = T.whole in
        omega arith

    head_at : (j : ℕ) → j < heading → word u (at + j) ≡ get_or heads j 0
    head_at j l = all_other t' k (added_words es h) (at + j) (inl (omega arith)) ∙ all_at t at heads small₁ (let f = fits in omega arith) j l

    own : At (word u) at (section_words E (es ++ h))
    own = section_grown E (word t) (word u) at h es room (decoded_words n E t T p lt)
        (ap (word u) (let i : at ≡ at + 0 = omega arith in i) ∙ head_at 0 (omega arith)) (head_at 1 (omega arith)) (head_at 2 (omega arith))
        (all_at t' k (added_words es h) small₂ (let f = fits in let l = all_length t at heads in let z = three in omega arith))
        (λ i le o. all_other t' k (added_words es h) i (rest i o) ∙ all_other t at heads i (inr (omega arith)))
      where
        rest : (i : ℕ) → (i < k) ⊎ (k + width * length es ≤ i) → (i < k) ⊎ (k + length (added_words es h) ≤ i)
        rest i (inl x) = inl x
        rest i (inr x) = inr (let z = three in omega arith)

    others : (r : ℕ) → r < n → r ≢ p → At (word u) (start E r) (section_words E (history s r))
    others r l ne j lj = outside (start E r + j) (side (dec_lt r p)) ∙ decoded_words n E t T r l j lj
      where
        long : length (section_words E (history s r)) ≡ heading + width * E
        long = section_length E (history s r) (decoded_short n E t T r)

        side : Dec (r < p) → (start E r + j < at) ⊎ (start E (suc p) ≤ start E r + j)
        side (yes x) = inl (let a = mul-le-mul_right (heading + width * E) x in let b = next E r in let c = long in omega arith)
        side (no x) = inr (let y : suc p ≤ r = omega arith in let a = mul-le-mul_right (heading + width * E) y in omega arith)

    sections : (r : ℕ) → r < n → At (word u) (start E r) (section_words E (history (set s p (es ++ h)) r))
    sections r l = go (ℕ_discrete r p)
      where
        go : Dec (r ≡ p) → At (word u) (start E r) (section_words E (history (set s p (es ++ h)) r))
        go (yes x) = subst (λ (i : ℕ). At (word u) (start E i) (section_words E (history (set s p (es ++ h)) i))) (sym x)
            (subst (λ (g : History). At (word u) at (section_words E g)) (sym (history_same s p (es ++ h) inside)) own)
        go (no x) = subst (λ (g : History). At (word u) (start E r) (section_words E g)) (sym (history_other s p r (es ++ h) x)) (others r l x)
