-- The positions of a failure line, the mask of the processes that go back, and the outcome from its parts.
use mathlib.Core.Path.{◌≡◌, refl, sym, ap, ◌∙◌}
use mathlib.Core.Bool.{Bool, true, false}
use mathlib.Core.List.{List, [], ◌∷◌, ◌++◌}
use Prim.Native.Nat.{ℕ, zero, suc, ◌+◌, ◌*◌, ◌%◌, ◌^◌, ◌<◌}
use native.Mathlib.Nat.{pow-le-pow_right, mod-eq_of_lt}
use native.Mathlib.Numerals.{add-one}
use native.Mathlib.Omega.{arith}
use lib.ListN.{length, get_or, length-append, get_or-append}
use lib.Seq.{get_or-append-add}
use lib.Count.{ones}
use Rattle.xdr.specs.Words.{word, put_word, put_each, put_words}
use Rattle.xdr.proofs.Puts.{each_same, each_put}
use Rattle.rules.specs.Records.{State, history}
use Rattle.rules.specs.Table.{decoded}
use Rattle.rules.specs.Lines.{goes_back_at, mask_below, back_mask}
use Rattle.rules.specs.FailureLine.{failure_line}
use Rattle.rules.specs.Calls.{outcome, first, table_rows, failure_rows, failure_answer, failed_on}
use Rattle.records.proofs.Rows.{judged_done}
use Rattle.records.proofs.FailureLines.{failure_line_lem}
use Rattle.records.proofs.Masks.{mask_lt}
use Rattle.tables.proofs.Laid.{Legal}
use Rattle.std.specs.Prelude.{Result}
use Rattle.std.specs.Result.{IsErrAnd}
use Rattle.refusals.specs.Refusals.{number_of, returned}
use Rattle.refusals.specs.declared.Refusal.{Refusal}
use Rattle.layout.proofs.Refused.{refused_outcome}
use Rattle.layout.specs.declared.Table.{Table}
use Rattle.layout.specs.Tables.{state_of}
use Rattle.layout.proofs.Sections.{processes, lawful}
use Rattle.tops.specs.Tops.{Counted, Over}
use Rattle.lowering.specs.Lowering.{Lowered, NoneAstray, NoneLate}
use Rattle.lowering.proofs.Cuts.{astray_lowered, none_clean, over_line}

-- ---- positions

pub line_positions : (t : Table) (mask : ℕ) {P Q R S : List ℕ} → Over mask (state_of t) P
    → Lowered (state_of t) P Q → NoneAstray (state_of t) Q 0 t.n t.n → Counted (state_of t) R S → Lowered (state_of t) Q R → NoneLate (state_of t) R S t.n
    → (p : ℕ) → p < t.n → get_or R p 0 ≡ get_or (failure_line mask (state_of t)) p 0
line_positions t mask {P} {Q} {R} {S} O a astray-none C d late-none p lt =
    let s = state_of t in
    let m = processes t in
    let few = t.laid.3 in
    let legal : (q : ℕ) → Legal (length s) t.e q (history s q) = (λ q. rw m (lawful t q)) in
    let clean = none_clean s R S C (omega arith) t.e legal (astray_lowered s Q R 0 (length s) d (rw m astray-none)) (rw m late-none) in
    over_line mask s R (d.over mask (a.over mask O)) clean p (omega arith)

-- ---- the mask

module _ (f : ℕ → Bool) (p : ℕ) (lt : p < 16) where
  bit_is : 1 * 2 ^ p % 4294967296 ≡ 2 ^ p
  bit_is =
      let m = pow-le-pow_right {n = 2} (omega arith) {i = p} {j = 16} (omega arith) in
      mod-eq_of_lt {n = 1 * 2 ^ p} {m = 4294967296} (omega arith) ∙ (let e : 1 * 2 ^ p ≡ 2 ^ p = omega arith in e)

  module _ {back : ℕ} (is : back ≡ mask_below f p) where
    pub mask_fits : back + 1 * 2 ^ p % 4294967296 < 4294967296
    mask_fits =
        let m = pow-le-pow_right {n = 2} (omega arith) {i = p} {j = 16} (omega arith) in
        let l = mask_lt f p in
        let b = bit_is in
        omega arith

    pub mask_with : f p ≡ true → back + 1 * 2 ^ p % 4294967296 ≡ mask_below f (p + 1)
    mask_with t = rw (add-one p, t, bit_is, is)

    pub mask_without : f p ≡ false → back ≡ mask_below f (p + 1)
    mask_without t = rw (add-one p, t) (is ∙ (let e : mask_below f p ≡ mask_below f p + 0 = omega arith in e))

-- ---- the answer

goes_same : (mask : ℕ) (s : State) (P Q : List ℕ) (n : ℕ) → ((p : ℕ) → p < n → get_or P p 0 ≡ get_or Q p 0)
    → mask_below (goes_back_at mask s P) n ≡ mask_below (goes_back_at mask s Q) n
goes_same mask s P Q zero e = refl
goes_same mask s P Q (suc n) e = rw (goes_same mask s P Q n (λ p lt. e p (omega arith)), e n (omega arith))

abbrev row_met : List ℕ → List ℕ → ℕ → ℕ
row_met t a mask = first (table_rows t ++ failure_rows (word t 0) mask (length a))

pub failed_refused : {A : Type 0} (r : Result A Refusal) (e : Refusal) → IsErrAnd r (λ y. y ≡ e) → (t a : List ℕ) (mask : ℕ)
    → number_of e ≡ row_met t a mask → outcome (returned r) t a ≡ failed_on t a mask
unfolding failed_on
failed_refused r e h t a mask g = refused_outcome r e h t a [] t (failure_answer mask (decoded t)) [] g

module _ (t : Table) (a : List ℕ) (mask : ℕ) (z : 0 ≡ row_met t.bytes.now a mask)
    (P : List ℕ) (at : (p : ℕ) → p < t.n → get_or P p 0 ≡ get_or (failure_line mask (state_of t)) p 0) {m : ℕ} (is : m ≡ back_mask mask (state_of t) P) where
  abbrev n : ℕ
  n = t.n

  abbrev s : State
  s = state_of t

  abbrev cut : List ℕ
  cut = failure_line mask s

  many : length s ≡ n
  many = processes t

  size : length cut ≡ n
  size = (failure_line_lem mask s).permit.size ∙ many

  back : m ≡ back_mask mask s cut
  back = is ∙ goes_same mask s P cut (length s) (λ p lt. at p (let m = many in omega arith))

  abbrev ws : List ℕ
  ws = cut ++ (m ∷ ones m ∷ [])

  words_at_lem : (k : ℕ) → k < n → get_or P k 0 ≡ get_or ws k 0
  words_at_lem k lt = at k lt ∙ sym (get_or-append cut (m ∷ ones m ∷ []) 0 k (let l = size in omega arith))

  -- the word after the positions, and the one after it
  after : (k : ℕ) → get_or ws (n + k) 0 ≡ get_or (m ∷ ones m ∷ []) k 0
  after k = ap (λ (x : ℕ). get_or ws (x + k) 0) (sym size) ∙ get_or-append-add cut (m ∷ ones m ∷ []) k 0

  pub failed_done : {b : List ℕ} → b ≡ put_word (put_word (put_each a (λ p. get_or P p 0) n) n m) (n + 1) (ones m)
      → outcome 0 t.bytes.now b ≡ failed_on t.bytes.now a mask
  unfolding failed_on failure_answer put_each
  failed_done {b} w =
      let two : n + 1 ≡ suc n = add-one n in
      let x : m ≡ get_or ws n 0 = sym (ap (λ (k : ℕ). get_or ws k 0) (let y : n ≡ n + 0 = omega arith in y) ∙ after 0) in
      let y : ones m ≡ get_or ws (suc n) 0 = sym (ap (λ (k : ℕ). get_or ws k 0) (sym two) ∙ after 1) in
      let g : ℕ → ℕ = (λ k. get_or ws k 0) in
      let all : b ≡ put_each a g (suc (suc n)) =
      w ∙ ap (λ (u : List ℕ). put_word (put_word u n m) (n + 1) (ones m)) (each_same a (λ p. get_or P p 0) g n words_at_lem)
      ∙ ap (λ (v : ℕ). put_word (put_word (put_each a g n) n v) (n + 1) (ones m)) x
      ∙ ap (λ (v : ℕ). put_word (put_word (put_each a g n) n (g n)) (n + 1) v) y
      ∙ ap (λ (k : ℕ). put_word (put_word (put_each a g n) n (g n)) k (g (suc n))) two
      in
      judged_done t.bytes.now a t.bytes.now (failure_answer mask s) (sym z) refl
      (all ∙ each_put a ws g (suc (suc n)) (let l = length-append cut (m ∷ ones m ∷ []) in let y = size in omega arith) (λ k lt. refl)
      ∙ ap (λ (x : ℕ). put_words a 0 (cut ++ (x ∷ ones x ∷ []))) back)
