-- The rows behind those of the table, and the outcome.
use mathlib.Core.Path.{◌≡◌, refl, sym, ◌∙◌}
use mathlib.Core.Logic.{◌≢◌}
use mathlib.Core.Bool.{Bool, true, false, cond}
use mir.Val.{bool_byte}
use mathlib.Core.List.{List, [], ◌∷◌, ◌++◌}
use Prim.Native.Nat.{ℕ}
use native.Mathlib.Omega.{arith}
use lib.ListN.{length}
use borrow.Author.Tests.{eq-eqb, ne_eqb}
use Rattle.xdr.specs.Words.{put_word}
use Rattle.xdr.proofs.Puts.{one_put}
use Rattle.rules.specs.Calls.{outcome_with, first, table_rows}
use Rattle.rules.specs.Audit.{audited, audit_rows, audit_on}
use Rattle.records.proofs.Rows.{judged_stop_with, going, judged_done_with}
use Rattle.std.specs.Prelude.{Result}
use Rattle.std.specs.Result.{IsErrAnd}
use Rattle.layout.proofs.Refused.{refused, refused_outcome}
use Rattle.refusals.specs.declared.Refusal.{Refusal}
use Rattle.refusals.specs.Refusals.{number_of, returned}

-- a truth as a word
pub byte_word : {b m : Bool} {v : ℕ} → b ≡ m → v ≡ bool_byte b → v ≡ cond m 1 0
byte_word {m = true} e f = rw e at f
byte_word {m = false} e f = rw e at f

module _ (t a scratch : List ℕ) where
  abbrev rows_met : ℕ
  rows_met = first (table_rows t ++ audit_rows (length t) (length a) (length scratch))

  -- by the table's rows
  pub table_refuses : {A : Type 0} (r : Result A Refusal) (e : Refusal) → IsErrAnd r (λ y. y ≡ e) → number_of e ≡ first (table_rows t)
      → outcome_with (returned r) t a scratch ≡ audit_on t a scratch scratch
  unfolding audit_on
  table_refuses r e h g =
      refused_outcome r e h t a scratch t _ scratch (refused (table_rows t) (audit_rows (length t) (length a) (length scratch)) tt e g)

  module _ (none : first (table_rows t) ≡ 0) where
    behind : rows_met ≡ first (audit_rows (length t) (length a) (length scratch))
    behind = going (table_rows t) (audit_rows (length t) (length a) (length scratch)) tt refl none

    pub area_refuses : length a ≢ 4 → outcome_with 4 t a scratch ≡ audit_on t a scratch scratch
    unfolding audit_on
    area_refuses ne = judged_stop_with t a scratch t _ scratch (sym (behind ∙ rw (ne_eqb (length a) 4 ne))) (omega arith)

    module _ (four : length a ≡ 4) where
      pub scratch_refuses : length scratch ≢ length t → outcome_with 14 t a scratch ≡ audit_on t a scratch scratch
      unfolding audit_on
      scratch_refuses ne =
          judged_stop_with t a scratch t _ scratch (sym (behind ∙ rw (eq-eqb (length a) 4 four, ne_eqb (length scratch) (length t) ne))) (omega arith)

      pub answered : length scratch ≡ length t → {v : ℕ} {b left : List ℕ} → v ≡ cond (audited t) 1 0 → b ≡ put_word a 0 v
          → outcome_with 0 t b left ≡ audit_on t a scratch left
      unfolding audit_on
      answered long {v} e f =
          judged_done_with t a scratch t (cond (audited t) 1 0 ∷ []) _
          (behind ∙ rw (eq-eqb (length a) 4 four, eq-eqb (length scratch) (length t) long))
          refl (rw (← e) (one_put a v f)) refl
