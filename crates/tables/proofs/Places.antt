-- What stands at a place of a list of words; w i is word i.
use mathlib.Core.Path.{◌≡◌, ap, sym, ◌∙◌}
use mathlib.Core.List.{List, ◌++◌}
use Prim.Native.Nat.{ℕ, ◌+◌, ◌-◌, ◌<◌}
use native.Mathlib.Omega.{arith}
use native.Mathlib.Decide.{dec_lt}
use lib.ListN.{length, get_or, get_or-append, length-append}
use lib.Seq.{get_or-append-add}

-- the words from place `at` on are those of the list
abbrev pub At : (ℕ → ℕ) → ℕ → List ℕ → Type 0
At w at xs = (j : ℕ) → j < length xs → w (at + j) ≡ get_or xs j 0

pub at_word : (w : ℕ → ℕ) (at : ℕ) (xs : List ℕ) → At w at xs → (j i : ℕ) → j < length xs → i ≡ at + j → w i ≡ get_or xs j 0
at_word w at xs h j i lt e = ap w e ∙ h j lt

pub at_left : (w : ℕ → ℕ) (at : ℕ) (xs ys : List ℕ) → At w at (xs ++ ys) → At w at xs
at_left w at xs ys h j lt = h j (let e = length-append xs ys in omega arith) ∙ get_or-append xs ys 0 j lt

pub at_right : (w : ℕ → ℕ) (at : ℕ) (xs ys : List ℕ) → At w at (xs ++ ys) → (i : ℕ) → i ≡ at + length xs → At w i ys
at_right w at xs ys h i e j lt =
    at_word w at (xs ++ ys) h (length xs + j) (i + j) (let l = length-append xs ys in omega arith) (omega arith) ∙ get_or-append-add xs ys j 0

pub at_append : (w : ℕ → ℕ) (at : ℕ) (xs ys : List ℕ) → At w at xs → (i : ℕ) → i ≡ at + length xs → At w i ys → At w at (xs ++ ys)
at_append w at xs ys a i e b j lt = go (dec_lt j (length xs))
  where
    past : (m : ℕ) → j ≡ length xs + m → w (at + j) ≡ get_or (xs ++ ys) j 0
    past m x =
        let l = length-append xs ys in
        at_word w i ys b m (at + j) (omega arith) (omega arith) ∙ sym (ap (λ (k : ℕ). get_or (xs ++ ys) k 0) x ∙ get_or-append-add xs ys m 0)

    go : Dec (j < length xs) → w (at + j) ≡ get_or (xs ++ ys) j 0
    go (yes l) = a j l ∙ sym (get_or-append xs ys 0 j l)
    go (no l) = past (j - length xs) (omega arith)
