-- The value of digits, and the first comma of a line.
use mathlib.Core.Path.{◌≡◌, refl, ◌∙◌, sym, ap}
use mathlib.Core.Bool.{Bool, true, false, cond, not}
use mathlib.Core.List.{List, [], ◌∷◌, ◌++◌, append-nil, append_assoc}
use Prim.Native.Nat.{ℕ, suc, ◌+◌, ◌-◌, ◌^◌, ◌≤◌, ◌<◌}
use native.Mathlib.Omega.{arith}
use lib.Dec.{ltb, eqb}
use lib.ListN.{length, take, drop, length-drop}
use lib.Seq.{take_all}
use borrow.Author.Tests.{lt-ltb, le-ltb, ltb-true, ltb-false}
use Rattle.rules.specs.Text.{digits, value_from, fields_from}
use Rattle.std.specs.Prelude.{Option, Some, None, position}
use Rattle.std.specs.List.{position_or_len}
use Rattle.basics.proofs.Booleans.{picks, skips}

-- ---- numbers

-- the first i bytes of s are digits, of the value v: the bytes left decide whether all are, and the value of all
abbrev pub Valued : List ℕ → ℕ → ℕ → Type 0
Valued s v i = (i ≤ length s) × (digits s ≡ digits (drop i s)) × (value_from 0 s ≡ value_from v (drop i s)) × (v < 10 ^ i)

-- ---- fields

abbrev comma : ℕ → Bool
comma b = eqb b 44

ltb_suc : (k n : ℕ) (b : Bool) → ltb k n ≡ b → ltb (suc k) (suc n) ≡ b
ltb_suc k n true h = lt-ltb (suc k) (suc n) (omega (arith, ltb-true k n h))
ltb_suc k n false h = le-ltb (suc k) (suc n) (omega (arith, ltb-false k n h))

-- the fields of a line, where the bytes h of the first one are read already, by the place of the first comma
fields_by : (h s : List ℕ)
    → fields_from h s
    ≡ cond (ltb (position_or_len comma s) (length s))
    ((h ++ take (position_or_len comma s) s) ∷ fields_from [] (drop (position_or_len comma s + 1) s))
    ((h ++ s) ∷ [])
fields_by h [] = ap (λ (l : List ℕ). l ∷ []) (sym (append-nil h))
fields_by h (b ∷ s) = either (eqb b 44) (fields_by (h ++ (b ∷ [])) s)
  where
    either : (a : Bool)
        → fields_from (h ++ (b ∷ [])) s
        ≡ cond (ltb (position_or_len comma s) (length s))
        (((h ++ (b ∷ [])) ++ take (position_or_len comma s) s) ∷ fields_from [] (drop (position_or_len comma s + 1) s))
        (((h ++ (b ∷ [])) ++ s) ∷ [])
        → cond a (h ∷ fields_from [] s) (fields_from (h ++ (b ∷ [])) s)
        ≡ cond (ltb (cond (not a) (1 + position_or_len comma s) 0) (suc (length s)))
        ((h ++ take (cond (not a) (1 + position_or_len comma s) 0) (b ∷ s)) ∷ fields_from [] (drop (cond (not a) (1 + position_or_len comma s) 0 + 1) (b ∷ s)))
        ((h ++ (b ∷ s)) ∷ [])
    either true e = rw (lt-ltb 0 (suc (length s)) (omega arith)) (ap (λ (l : List ℕ). l ∷ fields_from [] s) (sym (append-nil h)))
    either false e =
        let m : 1 + position_or_len comma s ≡ suc (position_or_len comma s) = omega arith in
        let n : suc (position_or_len comma s) + 1 ≡ suc (position_or_len comma s + 1) = omega arith in
        rw (m, n, ltb_suc (position_or_len comma s) (length s) _ refl) (simp append_assoc at e)

-- what `position` says of the first comma
pub cut_none : (s : List ℕ) {r : Option ℕ} → r ≡ position comma s → r ≡ None → fields_from [] s ≡ s ∷ []
cut_none s e n = either (ltb (position_or_len comma s) (length s)) refl
  where
    either : (b : Bool) → ltb (position_or_len comma s) (length s) ≡ b → fields_from [] s ≡ s ∷ []
    either true h = let w : Some (position_or_len comma s) ≡ None = sym (picks _ _ h) ∙ sym e ∙ n in cc
    either false h = fields_by [] s ∙ skips _ _ h

pub cut_some : (s : List ℕ) (i : ℕ) {r : Option ℕ} → r ≡ position comma s → r ≡ Some i
    → fields_from [] s ≡ take i s ∷ fields_from [] (take (length s - (i + 1)) (drop (i + 1) s))
cut_some s i e n = either (ltb (position_or_len comma s) (length s)) refl
  where
    either : (b : Bool) → ltb (position_or_len comma s) (length s) ≡ b → fields_from [] s ≡ take i s ∷ fields_from [] (take (length s - (i + 1)) (drop (i + 1) s))
    either true h =
        let w : Some (position_or_len comma s) ≡ Some i = sym (picks _ _ h) ∙ sym e ∙ n in
        let at : position_or_len comma s ≡ i = cc in
        fields_by [] s
        ∙ picks _ _ h
        ∙ ap (λ (j : ℕ). take j s ∷ fields_from [] (drop (j + 1) s)) at
        ∙ ap (λ (l : List ℕ). take i s ∷ fields_from [] l) (sym (take_all (length s - (i + 1)) (drop (i + 1) s) (omega (arith, length-drop (i + 1) s))))
    either false h = let w : None ≡ Some i = sym (skips _ _ h) ∙ sym e ∙ n in cc
