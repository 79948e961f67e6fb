-- No answer of the text program is cut short: the theorem stated in specs/Fields.antt.
use mathlib.Core.Path.{◌≡◌, refl, sym, ap, ◌∙◌, subst}
use mathlib.Core.Bool.{true, cond, ◌&&◌, and-eq-true_iff}
use mathlib.Core.List.{List, [], ◌∷◌, ◌++◌}
use Prim.Native.Nat.{ℕ, ◌+◌, ◌*◌, ◌≤◌, zero-le}
use native.Mathlib.Omega.{arith}
use lib.Dec.{leb, eqb}
use lib.ListN.{length, replicate, length-replicate}
use lib.Seq.{take_all}
use borrow.Author.Tests.{eqb-true, leb-true, eq-eqb}
use Rattle.xdr.specs.Words.{word, words, put_words}
use Rattle.xdr.proofs.Words.{word_bytes, words_length}
use Rattle.xdr.proofs.Puts.{all_length}
use Rattle.rules.specs.Records.{State}
use Rattle.rules.specs.Table.{in_range, size, sections_words, layout, fresh as fresh_state, decoded}
use Rattle.rules.specs.Steps.{Call, checkpoint, send, receipt, stepped}
use Rattle.rules.specs.Lines.{numbered_line}
use Rattle.rules.specs.Calls.{area_length, answer, failure_answer, answer_words, first, table_rows, step_rows, line_rows, failure_rows, judged, fresh_on, step_on, line_on, failed_on}
use Rattle.rules.specs.Text.{Reading, call, fresh, step, line, failed, unreadable, read_line, alone_line, Stage, waiting, running, ended, in_program_range, fresh_outcome, ran, reply, fresh_reply, opened, replied}
use Rattle.theorems.specs.Fields.{after, Fields}
use Rattle.basics.proofs.Booleans.{Test, passes, fails, test}
use Rattle.records.proofs.Rows.{first_none, split_zero}
use Rattle.records.proofs.Steps.{accepted_met}
use Rattle.tables.proofs.Outcomes.{sixteen}

-- the words of an answer into an area of k words, where it is accepted only if these fit
judged_words : (r : ℕ) (t a t' ws : List ℕ) (k m : ℕ) → length a ≡ 4 * k → (r ≡ 0 → k ≤ m) → length (answer_words (judged r t a t' ws)) ≤ m
judged_words r t a t' ws k m l fit = go (test (eqb r 0))
  where
    go : Test (eqb r 0) → length (answer_words (judged r t a t' ws)) ≤ m
    go (passes e) =
        let b = put_words a 0 ws in
        let whole : length b ≡ 4 * k = all_length a 0 ws ∙ l in
        let many : length (words b) ≡ k = ap (λ (s : List ℕ). length (words s)) (sym (take_all (4 * k) b (omega arith))) ∙ words_length k b (omega arith) in
        let le = fit (eqb-true r 0 e) in
        rw e (omega arith)
    go (fails e) = rw (e, e) zero-le

-- a receipt is accepted only by one of two processes
step_fits : (n : ℕ) (t : List ℕ) (p : ℕ) (c : Call) → word t 0 ≡ n → (k : ℕ) → area_length c ≡ 4 * k
    → first (table_rows t ++ step_rows (word t 0) (word t 1) (decoded t) p c (area_length c)) ≡ 0 → k ≤ n + 2
step_fits n t p checkpoint w k l z = omega arith
step_fits n t p (send q) w k l z = omega arith
step_fits n t p (receipt q j) w k l z =
    let m = split_zero (table_rows t) (step_rows (word t 0) (word t 1) (decoded t) p (receipt q j) 16) tt z in
    let A = accepted_met (word t 0) (word t 1) (decoded t) p (receipt q j) 16 m.1 in
    let a = A.within in
    let b = A.message.0 in
    let d = A.message.1 in
    omega arith

module _ (n : ℕ) (t : List ℕ) (w : word t 0 ≡ n) where
  step_words : (p : ℕ) (c : Call) (k : ℕ) → area_length c ≡ 4 * k → length (answer_words (step_on t (replicate (area_length c) 0) p c)) ≤ n + 2
  unfolding step_on
  step_words p c k l =
      let a = replicate {A = ℕ} (area_length c) 0 in
      let m : length a ≡ area_length c = length-replicate {A = ℕ} (area_length c) 0 in
      judged_words (first (table_rows t ++ step_rows (word t 0) (word t 1) (decoded t) p c (length a))) t a
      (layout (word t 0) (word t 1) (stepped (decoded t) p c)) (answer (decoded t) p c) k (n + 2) (m ∙ l)
      (λ z. step_fits n t p c w k l (subst (λ (x : ℕ). first (table_rows t ++ step_rows (word t 0) (word t 1) (decoded t) p c x) ≡ 0) m z))

  fields : (r : Reading) → length (answer_words (ran n t r)) ≤ n + 2
  unfolding line_on failed_on
  fields (call (fresh m E)) = zero-le
  fields (call (step p checkpoint)) = step_words p checkpoint 1 refl
  fields (call (step p (send q))) = step_words p (send q) 2 refl
  fields (call (step p (receipt q k))) = step_words p (receipt q k) 4 refl
  fields (call (line N)) =
      let a = replicate {A = ℕ} (4 * n) 0 in
      judged_words (first (table_rows t ++ line_rows (word t 0) N (decoded t) (length a))) t a t (numbered_line N (decoded t)) n (n + 2)
      (length-replicate {A = ℕ} (4 * n) 0) (λ z. omega arith)
  fields (call (failed mask)) =
      let a = replicate {A = ℕ} (4 * n + 8) 0 in
      judged_words (first (table_rows t ++ failure_rows (word t 0) mask (length a))) t a t (failure_answer mask (decoded t)) (n + 2) (n + 2)
      (length-replicate {A = ℕ} (4 * n + 8) 0 ∙ (omega arith)) (λ z. omega arith)
  fields unreadable = zero-le

-- ---- the program's table has its n as word 0

layout_first : (n E : ℕ) (s : State) → n ≤ 16 → word (layout n E s) 0 ≡ n
unfolding layout
layout_first n E s le = word_bytes (n ∷ E ∷ sections_words E s) 0 (omega arith) (omega arith)

-- what holds of the table before and, where no row is met, of the new one
judged_table : (P : List ℕ → Type 0) (r : ℕ) (t a t' ws : List ℕ) → P t → (r ≡ 0 → P t') → P (judged r t a t' ws).table
judged_table P r t a t' ws p f = go (test (eqb r 0))
  where
    go : Test (eqb r 0) → P (judged r t a t' ws).table
    go (passes e) = rw e (f (eqb-true r 0 e))
    go (fails e) = rw e p

ran_first : (n : ℕ) (t : List ℕ) (r : Reading) → word t 0 ≡ n → word (ran n t r).table 0 ≡ n
unfolding step_on line_on failed_on
ran_first n t (call (fresh m E)) w = w
ran_first n t (call (step p c)) w =
    let a = replicate {A = ℕ} (area_length c) 0 in
    let rows = step_rows (word t 0) (word t 1) (decoded t) p c (length a) in
    let s = stepped (decoded t) p c in
    judged_table (λ (x : List ℕ). word x 0 ≡ n) (first (table_rows t ++ rows)) t a (layout (word t 0) (word t 1) s) (answer (decoded t) p c) w
    (λ z. layout_first (word t 0) (word t 1) s (sixteen t refl (first_none (table_rows t) (split_zero (table_rows t) rows tt z).0)) ∙ w)
ran_first n t (call (line N)) w =
    let a = replicate {A = ℕ} (4 * n) 0 in
    judged_table (λ (x : List ℕ). word x 0 ≡ n) (first (table_rows t ++ line_rows (word t 0) N (decoded t) (length a))) t a t (numbered_line N (decoded t)) w (λ z. w)
ran_first n t (call (failed mask)) w =
    let a = replicate {A = ℕ} (4 * n + 8) 0 in
    judged_table (λ (x : List ℕ). word x 0 ≡ n) (first (table_rows t ++ failure_rows (word t 0) mask (length a))) t a t (failure_answer mask (decoded t)) w (λ z. w)
ran_first n t unreadable w = w

abbrev Sized : Stage → Type 0
Sized waiting = Unit {0}
Sized (running n t) = word t 0 ≡ n
Sized ended = Unit {0}

fresh_first : (n E : ℕ) → in_program_range n E ≡ true → word (fresh_outcome n E).table 0 ≡ n
unfolding fresh_on
fresh_first n E e =
    let small = ((and-eq-true_iff (in_range n E && leb n 8) (leb E 256)).0 e).0 in
    let range = (and-eq-true_iff (in_range n E) (leb n 8)).0 small in
    let le = leb-true n 8 range.1 in
    let l = length-replicate {A = ℕ} (size n E) 0 in
    rw (range.0, eq-eqb (length (replicate {A = ℕ} (size n E) 0)) (size n E) l) (layout_first n E (fresh_state n) (omega arith))

sized_opened : (r : Reading) → Sized (opened r).stage
sized_opened (call (fresh n E)) = go (test (in_program_range n E))
  where
    go : Test (in_program_range n E) → Sized (cond (in_program_range n E) (fresh_reply n E) (reply (alone_line 1) ended)).stage
    go (passes e) = rw e (fresh_first n E e)
    go (fails e) = rw e tt
sized_opened (call (step p c)) = tt
sized_opened (call (line N)) = tt
sized_opened (call (failed mask)) = tt
sized_opened unreadable = tt

sized_replied : (g : Stage) (r : Reading) → Sized g → Sized (replied g r).stage
sized_replied waiting r s = sized_opened r
sized_replied (running n t) r s = ran_first n t r s
sized_replied ended r s = tt

sized_after : (ls : List (List ℕ)) (g : Stage) → Sized g → Sized (after g ls)
sized_after [] g s = s
sized_after (l ∷ ls) g s = sized_after ls (replied g (read_line l)).stage (sized_replied g (read_line l) s)

pub fields_hold : Fields
fields_hold ls n t r e = fields n t (subst Sized e (sized_after ls waiting tt)) r
