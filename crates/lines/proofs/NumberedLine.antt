-- The positions of a numbered line, and the outcome of the call.
use mathlib.Core.Path.{◌≡◌, refl, sym, ap, subst, ◌∙◌}
use mathlib.Core.Logic.{◌≢◌}
use mathlib.Core.Bool.{true}
use mathlib.Core.List.{List, [], ◌++◌}
use mathlib.Core.Option.{none, some}
use native.Mathlib.Omega.{arith}
use native.Mathlib.Decide.{ℕ_discrete}
use borrow.Author.Tests.{eq-eqb, ne_eqb}
use Prim.Native.Nat.{ℕ, ◌+◌, ◌*◌, ◌<◌}
use lib.ListN.{length, get_or, set, length-map, length-set}
use lib.Seq.{get_or-set_same, get_or-set_other}
use Rattle.std.specs.Prelude.{Result}
use Rattle.std.specs.Result.{IsErrAnd}
use Rattle.xdr.specs.Words.{word, put_each}
use Rattle.xdr.proofs.Puts.{each_put}
use Rattle.rules.specs.Records.{History, State, history}
use Rattle.rules.specs.Table.{decoded}
use Rattle.rules.specs.Lines.{numbered, lacking, numbered_line}
use Rattle.rules.specs.Calls.{outcome, first, table_rows, line_rows, line_on}
use Rattle.refusals.specs.Refusals.{number_of, returned}
use Rattle.refusals.specs.declared.Refusal.{Refusal}
use Rattle.layout.specs.declared.Table.{Table}
use Rattle.layout.specs.Tables.{state_of}
use Rattle.layout.proofs.Refused.{refused, refused_outcome}
use Rattle.layout.proofs.Sections.{processes}
use Rattle.records.proofs.Rows.{judged_done, judged_stop, first_append, none_met}
use Rattle.records.proofs.NumberedLines.{position, lacked, none_lacks}

-- ---- positions

module _ (t : Table) (N : ℕ) where
  pub line_lacked : (p : ℕ) → p < t.n → {h : History} → numbered N h ≡ none → h ≡ history (state_of t) p → lacking N (state_of t) ≡ true
  line_lacked p lt x e = lacked N (state_of t) p (let a = processes t in omega arith) (ap (numbered N) (sym e) ∙ x)

  pub line_next : (line : List ℕ) (p : ℕ) → length line ≡ 16 → p < t.n
      → ((q : ℕ) → q < p → numbered N (history (state_of t) q) ≡ some (get_or line q 0)) → {h : History} {v : ℕ}
      → numbered N h ≡ some v → h ≡ history (state_of t) p
      → (length (set line p v) ≡ 16) × ((q : ℕ) → q < p + 1 → numbered N (history (state_of t) q) ≡ some (get_or (set line p v) q 0))
  line_next line p l lt before {h} {v} x e = (length-set line p v ∙ l, λ q m. go q m (ℕ_discrete q p))
    where
      go : (q : ℕ) → q < p + 1 → Dec (q ≡ p) → numbered N (history (state_of t) q) ≡ some (get_or (set line p v) q 0)
      go q m (yes y) = let few = t.laid.3 in rw (y, get_or-set_same line p v 0 (omega arith), ← e) x
      go q m (no y) = rw (get_or-set_other line p q v 0 y) (before q (omega arith))

-- ---- the outcome

abbrev row_met : List ℕ → List ℕ → ℕ → ℕ
row_met t a N = first (table_rows t ++ line_rows (word t 0) N (decoded t) (length a))

-- where the table's own rows stop it
pub line_unread : {A : Type 0} (r : Result A Refusal) (e : Refusal) → IsErrAnd r (λ y. y ≡ e) → (t a : List ℕ) (N : ℕ)
    → number_of e ≡ first (table_rows t) → outcome (returned r) t a ≡ line_on t a N
unfolding line_on
line_unread r e h t a N g =
    refused_outcome r e h t a [] t (numbered_line N (decoded t)) [] (refused (table_rows t) (line_rows (word t 0) N (decoded t) (length a)) tt e g)

module _ (lines : Table) {t : List ℕ} (same : lines.bytes.now ≡ t) (a : List ℕ) (N : ℕ) where
  abbrev s : State
  s = state_of lines

  met : row_met lines.bytes.now a N ≡ first (line_rows lines.n N s (length a))
  met =
      first_append (table_rows lines.bytes.now) (line_rows (word lines.bytes.now 0) N s (length a)) (none_met (table_rows lines.bytes.now) tt lines.laid.0)
      ∙ sym (ap (λ n. first (line_rows n N s (length a))) lines.laid.1)

  stop : {r : ℕ} → r ≡ row_met lines.bytes.now a N → r ≢ 0 → outcome r t a ≡ line_on t a N
  unfolding line_on
  stop {r} e ne = subst (λ u. outcome r u a ≡ line_on u a N) same (judged_stop lines.bytes.now a lines.bytes.now (numbered_line N s) e ne)

  -- where the area's length does
  pub line_stopped : length a ≢ 4 * lines.n → outcome 4 t a ≡ line_on t a N
  line_stopped ne = stop (sym (met ∙ rw (ne_eqb (length a) (4 * lines.n) ne) refl)) (omega arith)

  module _ (exact : length a ≡ 4 * lines.n) where
    -- where a process lacks such a checkpoint
    pub line_unsaved : lacking N s ≡ true → outcome 15 t a ≡ line_on t a N
    line_unsaved x = stop (sym (met ∙ rw (eq-eqb (length a) (4 * lines.n) exact, x) refl)) (omega arith)

    pub line_done : {b : List ℕ} (line : List ℕ) → ((p : ℕ) → p < lines.n → numbered N (history s p) ≡ some (get_or line p 0))
        → b ≡ put_each a (λ p. get_or line p 0) lines.n → outcome 0 t b ≡ line_on t a N
    unfolding line_on
    line_done {b} line each w = subst (λ u. outcome 0 u b ≡ line_on u a N) same done
      where
        many : length s ≡ lines.n
        many = processes lines

        at : (p : ℕ) → p < length s → numbered N (history s p) ≡ some (get_or line p 0)
        at p lt = each p (let a = many in omega arith)

        done : outcome 0 lines.bytes.now b ≡ line_on lines.bytes.now a N
        done =
            judged_done lines.bytes.now a lines.bytes.now (numbered_line N s)
            (met ∙ rw (eq-eqb (length a) (4 * lines.n) exact, none_lacks N s (λ p. get_or line p 0) at) refl) refl
            (w ∙ each_put a (numbered_line N s) (λ p. get_or line p 0) lines.n (sym many ∙ sym (length-map s _))
            (λ p lt. sym (position (λ h. 0) refl N s p ∙ rw (each p lt))))
