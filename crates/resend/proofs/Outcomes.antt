-- The rows behind those of the table, and the outcome.
use mathlib.Core.Path.{◌≡◌, refl, sym, ap, ◌∙◌}
use mathlib.Core.Bool.{Bool, true, false}
use mathlib.Core.List.{List, [], ◌∷◌, ◌++◌}
use Prim.Native.Nat.{ℕ, ◌+◌, ◌*◌}
use native.Mathlib.Omega.{arith}
use lib.Dec.{leb, ltb}
use lib.ListN.{length}
use borrow.Author.Tests.{eq-eqb, lt-ltb, le-ltb, leb-false, leb-true}
use Rattle.xdr.specs.Words.{word, put_word, put_words}
use Rattle.xdr.proofs.Puts.{put_first}
use Rattle.rules.specs.Calls.{outcome_with, first, table_rows, row}
use Rattle.rules.specs.Resend.{messages_words, resend_words, resend_rows, resend_on}
use Rattle.records.proofs.Transit.{none_above}
use Rattle.records.proofs.Rows.{judged_stop_with, going, judged_done_with}
use Rattle.std.specs.Prelude.{Result}
use Rattle.std.specs.Result.{IsErrAnd}
use Rattle.rules.specs.Table.{decoded}
use Rattle.layout.proofs.Refused.{refused, refused_outcome}
use Rattle.refusals.specs.declared.Refusal.{Refusal}
use Rattle.refusals.specs.Refusals.{number_of, returned}
use Rattle.layout.specs.declared.Table.{Table}
use Rattle.layout.specs.Tables.{state_of}
use Rattle.notes.specs.declared.cut.Cut.{Cut}
use Rattle.notes.specs.Cuts.{cut_rows}
use Rattle.notes.specs.Noted.{state_at, places}
use Rattle.notes.proofs.Places.{cut_at}
use Rattle.transit.specs.Transit.{transit_at}

-- the first row met
abbrev pub row_met : List ℕ → List ℕ → List ℕ → ℕ
row_met t positions a = first (table_rows t ++ resend_rows (word t 0) (decoded t) positions (length a))

pub resend_refused : {A : Type 0} (r : Result A Refusal) (e : Refusal) → IsErrAnd r (λ y. y ≡ e) → (t positions a : List ℕ)
    → number_of e ≡ row_met t positions a → outcome_with (returned r) t a positions ≡ resend_on t positions a
unfolding resend_on
resend_refused r e h t positions a g = refused_outcome r e h t a positions t _ positions g

-- by the table's rows
pub table_refuses : (t positions a : List ℕ) (e : Refusal) → number_of e ≡ first (table_rows t) → number_of e ≡ row_met t positions a
table_refuses t positions a e g = refused (table_rows t) (resend_rows (word t 0) (decoded t) positions (length a)) tt e g

-- behind them
behind : (t : Table) (positions a : List ℕ) {r : ℕ} → r ≡ first (resend_rows t.n (state_of t) positions (length a)) → r ≡ row_met t.bytes.now positions a
behind t positions a e =
    e ∙ ap (λ (m : ℕ). first (resend_rows m (state_of t) positions (length a))) t.laid.1
    ∙ sym (going (table_rows t.bytes.now) (resend_rows (word t.bytes.now 0) (state_of t) positions (length a)) tt refl t.laid.0)

-- by the row of the cut
pub cut_refuses : (t : Table) {s : List ℕ} → t.bytes.now ≡ s → (positions a : List ℕ) (e : Refusal)
    → number_of e ≡ first (cut_rows t.n (state_of t) positions) → number_of e ≡ row_met s positions a
cut_refuses t same positions a e g =
    behind t positions a (refused (cut_rows t.n (state_of t) positions) _ tt e g) ∙ ap (λ (s : List ℕ). row_met s positions a) same

module _ (c : Cut) (a : List ℕ) where
  no_cut_row : first (cut_rows c.table.n (state_at c) c.positions.now) ≡ 0
  no_cut_row =
      let none = none_above (state_at c) (places c) c.table.n
      (λ p lt. let w = c.within p lt in let z = cut_at c.table.n c.positions.now c.whole p lt in omega arith) in
      rw (eq-eqb (length c.positions.now) (4 * c.table.n) c.whole, none) refl

  -- the rows behind the cut's
  last : {r : ℕ} → r ≡ first (row 13 (ltb (length a) (4 + 12 * length (transit_at c))) ∷ []) → r ≡ row_met c.table.bytes.now c.positions.now a
  last e = behind c.table c.positions.now a (e ∙ sym (going (cut_rows c.table.n (state_at c) c.positions.now) (row 13 _ ∷ []) tt refl no_cut_row))

  module _ {fits : Bool} (fit : fits ≡ leb (4 + 12 * length (transit_at c)) (length a)) where
    pub resend_short : fits ≡ false → outcome_with 13 c.table.bytes.now a c.positions.now ≡ resend_on c.table.bytes.now c.positions.now a
    unfolding resend_on
    resend_short f =
        judged_stop_with c.table.bytes.now a c.positions.now c.table.bytes.now _ c.positions.now
        (last (rw (lt-ltb (length a) (4 + 12 * length (transit_at c)) (leb-false (4 + 12 * length (transit_at c)) (length a) (sym fit ∙ f))) refl))
        (omega arith)

    pub resend_done : fits ≡ true → {u v : List ℕ} {count : ℕ} → count ≡ length (transit_at c)
        → u ≡ put_words a 1 (messages_words (transit_at c)) → v ≡ put_word u 0 count
        → outcome_with 0 c.table.bytes.now v c.positions.now ≡ resend_on c.table.bytes.now c.positions.now a
    unfolding resend_on
    resend_done y x f g =
        let ms = transit_at c in
        let room = leb-true (4 + 12 * length ms) (length a) (sym fit ∙ y) in
        judged_done_with c.table.bytes.now a c.positions.now c.table.bytes.now (resend_words ms) c.positions.now
        (sym (last (rw (le-ltb (length a) (4 + 12 * length ms) room) refl)))
        refl (rw (g, f, x) (put_first a (length ms) (messages_words ms) (omega arith))) refl
