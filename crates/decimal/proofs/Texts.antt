-- Text that is written one piece after the other.
use mathlib.Core.Path.{◌≡◌, refl, ◌∙◌, sym, ap}
use mathlib.Core.List.{List, [], ◌∷◌, ◌++◌, append_assoc}
use mathlib.Core.Bool.{Bool, true, false, cond}
use Prim.Native.Nat.{ℕ, zero, suc, ◌+◌, ◌≤◌, ◌<◌, ◌/◌, ◌%◌}
use native.Mathlib.Nat.{not-suc-le-zero}
use lib.Dec.{ltb}
use borrow.Author.Tests.{ltb-true, ltb-false}
use Rattle.rules.specs.Text.{decimal, last_digits}
use native.Mathlib.Omega.{arith}
use lib.ListN.{length, drop, length-append}
use lib.Seq.{drop-drop}
use Rattle.decimal.specs.Output.{Page, Writes}

-- one text after another
pub writes_both : {out out₁ out₂ : Page} {s t : List ℕ} {m n k : ℕ} → m + n ≤ k → Writes out s m out₁ → Writes out₁ t n out₂ → Writes out (s ++ t) k out₂
writes_both {out} {out₁} {out₂} {s} {t} {m} {n} {k} le g h =
    record {
      room = h.room ∙ g.room;
      text = h.text ∙ ap (λ (l : List ℕ). l ++ t) g.text ∙ append_assoc out.written s t;
      rest =
          h.rest
          ∙ ap (drop (length t)) g.rest
          ∙ drop-drop (length t) (length s) out.rest
          ∙ ap (λ (j : ℕ). drop j out.rest) (sym (length-append s t));
      most = omega (arith, g.most, h.most, length-append s t);
    }

-- ---- a loop that writes a text piece by piece

-- the text s is written, but for its end `left`; what is written has m bytes at most
abbrev pub Writing : Page → List ℕ → ℕ → Page → List ℕ → Type 0
Writing before s m out left = (p : List ℕ) × (p ++ left ≡ s) × Writes before p m out

-- the next piece, t
pub writing_on : {before out out₁ : Page} {s t left : List ℕ} {m n k : ℕ} → m + n ≤ k → Writing before s m out (t ++ left) → Writes out t n out₁
    → Writing before s k out₁ left
writing_on {t = t} {left = left} le h w = (h.0 ++ t, append_assoc h.0 t left ∙ h.1, writes_both le h.2 w)

-- ---- a number

-- v has k + 1 digits at most
abbrev Short : ℕ → ℕ → Type 0
Short zero v = v < 10
Short (suc k) v = Short k (v / 10)

tested : (v : ℕ) (m n : List ℕ) → v < 10 → cond (ltb v 10) [] m ≡ cond (ltb v 10) [] n
tested v m n lt = either (ltb v 10) refl
  where
    either : (b : Bool) → ltb v 10 ≡ b → cond b [] m ≡ cond b [] n
    either true e = refl
    either false e = absurd (not-suc-le-zero {n = 0} (omega (arith, ltb-false v 10 e, lt)))

-- room for one digit more makes no difference
room_over : (k v : ℕ) → Short k v → last_digits (suc (suc k)) v ≡ last_digits (suc k) v
room_over zero v short = ap (λ (l : List ℕ). l ++ ((48 + v % 10) ∷ [])) (tested v (last_digits 1 (v / 10)) [] short)
room_over (suc k) v short = ap (λ (l : List ℕ). cond (ltb v 10) [] l ++ ((48 + v % 10) ∷ [])) (room_over k (v / 10) short)

digits_most : (k v : ℕ) → length (last_digits k v) ≤ k
digits_most zero v = omega arith
digits_most (suc k) v =
    omega (arith, length-append (cond (ltb v 10) [] (last_digits k (v / 10))) ((48 + v % 10) ∷ []), either (ltb v 10) (digits_most k (v / 10)))
  where
    either : (b : Bool) → length (last_digits k (v / 10)) ≤ k → length (cond b [] (last_digits k (v / 10))) ≤ k
    either true h = omega arith
    either false h = h

split : (v : ℕ) → v < 4294967296 → 10 ≤ v → decimal v ≡ decimal (v / 10) ++ ((48 + v % 10) ∷ [])
split v small large = either (ltb v 10) refl ∙ ap (λ (l : List ℕ). l ++ ((48 + v % 10) ∷ [])) (sym (room_over 8 (v / 10) (omega (arith, small))))
  where
    either : (b : Bool) → ltb v 10 ≡ b → decimal v ≡ last_digits 9 (v / 10) ++ ((48 + v % 10) ∷ [])
    either true e = absurd (not-suc-le-zero {n = 0} (omega (arith, ltb-true v 10 e, large)))
    either false e = ap (λ (b : Bool). cond b [] (last_digits 9 (v / 10)) ++ ((48 + v % 10) ∷ [])) e

alone : (v : ℕ) → v < 10 → decimal v ≡ (48 + v % 10) ∷ []
alone v lt = ap (λ (l : List ℕ). l ++ ((48 + v % 10) ∷ [])) (tested v (last_digits 9 (v / 10)) [] lt ∙ either (ltb v 10))
  where
    either : (b : Bool) → cond {A = List ℕ} b [] [] ≡ []
    either true = refl
    either false = refl

respelled : {a c : Page} {s t : List ℕ} {n : ℕ} → s ≡ t → length t ≤ 10 → Writes a s n c → Writes a t 10 c
respelled {a} e most w =
    record {
      room = w.room;
      text = w.text ∙ ap (λ (l : List ℕ). a.written ++ l) e;
      rest = w.rest ∙ ap (λ (l : List ℕ). drop (length l) a.rest) e;
      most = most;
    }

-- the last digit behind what stands before it
pub digit_behind : (a b c : Page) (v : ℕ) → v < 4294967296 → 10 ≤ v → Writes a (decimal (v / 10)) 10 b → Writes b ((48 + v % 10) ∷ []) 1 c
    → Writes a (decimal v) 10 c
digit_behind a b c v small large h g = respelled (sym (split v small large)) (digits_most 10 v) (writes_both {k = 11} (omega arith) h g)

pub digit_alone : (a c : Page) (v : ℕ) → v < 10 → Writes a ((48 + v % 10) ∷ []) 1 c → Writes a (decimal v) 10 c
digit_alone a c v small g = respelled (sym (alone v small)) (digits_most 10 v) g
