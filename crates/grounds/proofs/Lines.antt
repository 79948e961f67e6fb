-- The grounds of all processes, those of the failure line, and the outcome from them.
use mathlib.Core.Path.{◌≡◌, refl, sym, ap, ap₂, ◌∙◌}
use mathlib.Core.List.{List, [], ◌∷◌, ◌++◌}
use Prim.Native.Nat.{ℕ, zero, suc, ◌+◌, ◌*◌, ◌≤◌, ◌<◌}
use native.Mathlib.Nat.{le_refl}
use native.Mathlib.Numerals.{add-one}
use native.Mathlib.Omega.{arith}
use lib.ListN.{length, get_or}
use Rattle.xdr.specs.Words.{word, put_words}
use Rattle.xdr.proofs.Puts.{put_append, all_length}
use Rattle.rules.specs.Records.{History, State, history}
use Rattle.rules.specs.Table.{decoded}
use Rattle.rules.specs.Lines.{orphan}
use Rattle.rules.specs.FailureLine.{failure_line}
use Rattle.rules.specs.Calls.{outcome, first, table_rows}
use Rattle.rules.specs.Grounds.{first_after, ground, grounds_below, grounds, grounds_rows, grounds_on}
use Rattle.records.proofs.Rows.{judged_done}
use Rattle.records.proofs.FailureLines.{same_orphan}
use Rattle.records.proofs.Grounds.{below_length}
use Rattle.std.specs.Prelude.{Result}
use Rattle.std.specs.Result.{IsErrAnd}
use Rattle.refusals.specs.Refusals.{number_of, returned}
use Rattle.refusals.specs.declared.Refusal.{Refusal}
use Rattle.layout.proofs.Refused.{refused_outcome}
use Rattle.layout.specs.declared.Table.{Table}
use Rattle.layout.specs.Tables.{state_of}
use Rattle.layout.proofs.Sections.{processes}
use Rattle.failure.specs.Asked.{mask_rows}

-- ---- one process more

pub below_next : (mask : ℕ) (s : State) (P a : List ℕ) (p : ℕ) {b c g : List ℕ} → b ≡ put_words a 0 (grounds_below mask s P p) → length b ≡ length a
    → g ≡ ground mask s P p → c ≡ put_words b (2 * p) g
    → (c ≡ put_words a 0 (grounds_below mask s P (p + 1))) × (length c ≡ length a)
below_next mask s P a p {b} {c} {g} e l x y =
    let n = below_length mask s P p in
    let at : 2 * p ≡ 0 + length (grounds_below mask s P p) = omega arith in (
      y ∙ ap₂ (λ (u v : List ℕ). put_words u (2 * p) v) e x ∙ put_append a 0 (grounds_below mask s P p) (ground mask s P p) at
          ∙ ap (λ (m : ℕ). put_words a 0 (grounds_below mask s P m)) (sym (add-one p)),
      ap length y ∙ all_length b (2 * p) g ∙ l,
    )

-- ---- two cuts with the same positions have the same grounds

module _ (s : State) (P Q : List ℕ) (same : (p : ℕ) → p < length s → get_or P p 0 ≡ get_or Q p 0) where
  after_same : (p t : ℕ) (h : History) → first_after (orphan s P p) t h ≡ first_after (orphan s Q p) t h
  after_same p t [] = refl
  after_same p t (e ∷ h) = rw (after_same p t h, same_orphan s P Q same p e)

  ground_same : (mask p : ℕ) → p < length s → ground mask s P p ≡ ground mask s Q p
  ground_same mask p lt = rw (same p lt, after_same p (get_or Q p 0) (history s p))

  below_same : (mask n : ℕ) → n ≤ length s → grounds_below mask s P n ≡ grounds_below mask s Q n
  below_same mask zero le = refl
  below_same mask (suc n) le = ap₂ (λ (u v : List ℕ). u ++ v) (below_same mask n (omega arith)) (ground_same mask n (omega arith))

-- ---- the outcome

abbrev row_met : List ℕ → List ℕ → ℕ → ℕ
row_met t a mask = first (table_rows t ++ mask_rows (word t 0) mask (length a) (8 * word t 0 + 0))

none_more : (t a : List ℕ) (mask : ℕ) → row_met t a mask ≡ first (table_rows t ++ grounds_rows (word t 0) mask (length a))
none_more t a mask = rw (let e : 8 * word t 0 + 0 ≡ 8 * word t 0 = omega arith in e)

pub grounds_refused : {A : Type 0} (r : Result A Refusal) (e : Refusal) → IsErrAnd r (λ y. y ≡ e) → (t a : List ℕ) (mask : ℕ)
    → number_of e ≡ row_met t a mask → outcome (returned r) t a ≡ grounds_on t a mask
unfolding grounds_on
grounds_refused r e h t a mask g = refused_outcome r e h t a [] t (grounds mask (decoded t)) [] (g ∙ none_more t a mask)

pub grounds_done : (t : Table) (a : List ℕ) (mask : ℕ) → 0 ≡ row_met t.bytes.now a mask → (P : List ℕ)
    → ((p : ℕ) → p < t.n → get_or P p 0 ≡ get_or (failure_line mask (state_of t)) p 0) → {b : List ℕ}
    → b ≡ put_words a 0 (grounds_below mask (state_of t) P t.n) → outcome 0 t.bytes.now b ≡ grounds_on t.bytes.now a mask
unfolding grounds_on grounds
grounds_done t a mask z P at {b} e =
    let s = state_of t in
    let m = processes t in
    let same = below_same s P (failure_line mask s) (λ p lt. at p (omega arith)) mask (length s) (le_refl (length s)) in
    judged_done t.bytes.now a t.bytes.now (grounds mask s) (sym (z ∙ none_more t.bytes.now a mask)) refl
    (e ∙ ap (λ (n : ℕ). put_words a 0 (grounds_below mask s P n)) (sym m) ∙ ap (put_words a 0) same)
