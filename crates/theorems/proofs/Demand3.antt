-- Demand 3: the theorem stated in specs/TwoLists.antt.
use mathlib.Core.Path.{◌≡◌, refl, sym, ap, ap₂, ◌∙◌}
use mathlib.Core.Bool.{Bool, true, false, not, cond}
use mathlib.Core.List.{List, [], ◌∷◌}
use Prim.Native.Nat.{ℕ, ◌*◌, ◌≤◌, ◌<◌}
use native.Mathlib.Omega.{arith}
use lib.Dec.{eqb}
use lib.ListN.{length, length-map, get_or}
use borrow.Author.Tests.{le-leb, le-ltb, eq-eqb, not-false}
use Rattle.xdr.specs.Words.{word, words, bytes, put_words}
use Rattle.xdr.proofs.Puts.{whole_put}
use Rattle.xdr.proofs.Words.{all_small, words_bytes}
use Rattle.rules.specs.Records.{State, history}
use Rattle.rules.specs.Table.{in_range, size, layout, fresh, decoded, well_laid}
use Rattle.rules.specs.Steps.{stepped}
use Rattle.rules.specs.Lines.{numbered, lacking, position_or, numbered_line}
use Rattle.rules.specs.Calls.{Outcome, outcome, row, first, table_rows, line_rows, step_rows, answer, judged, fresh_on, step_on, line_on}
use Rattle.rules.specs.Lists.{Entry, entry, entry_on, outcomes_on, table_after, MadeByCalls, check, accepts, after, run, said, said_all}
use Rattle.theorems.specs.TwoLists.{Lined, AfterList, Both, TwoLists}
use Rattle.records.proofs.Rows.{NoneMet, none_met, first_append, first_none, judged_returned}
use Rattle.records.proofs.Made.{Sound, made, made_after, made_fresh, never_ten}
use Rattle.records.proofs.Cuts.{saved_le}
use Rattle.records.proofs.NumberedLines.{in_line_saved, all_in_line, line_clean}
use Rattle.tables.proofs.Laid.{layout_n, layout_e, layout_length, layout_ok, layout_decoded}
use Rattle.tables.proofs.Ranges.{InRange, in_range_lem}
use Rattle.basics.proofs.Booleans.{Test, passes, fails, test}
use Rattle.runs.proofs.Ways.{MadeState}
use Rattle.theorems.proofs.SameCalls.{same_state}

-- ---- calls on the table of a made state

module _ (n E : ℕ) (d : InRange n E) where
  module _ (s : State) (M : Sound n E s) where
    pub unmet_rows : NoneMet (table_rows (layout n E s))
    unfolding well_laid
    unmet_rows =
        let t = layout n E s in
        let l = layout_length n E d s M in
        let a = d.some_process in
        let c = d.some_record in
        rw (layout_n n E d s M, layout_e n E d s M) (
          le-ltb (length t) 8 (omega arith),
          (
            (rw (le-leb 1 n a, le-leb n 16 d.processes, le-leb 1 E c, le-leb E 1024 d.records)),
            (
              (rw (eq-eqb (length t) (size n E) l)),
              ((rw (layout_ok n E d s M)), tt),
            ),
          ),
        )

    pub entry_said : (e : Entry) → entry_on (layout n E s) e ≡ said n E s e
    unfolding step_on said check
    entry_said (entry p call area) =
        let t = layout n E s in
        let rows = step_rows (word t 0) (word t 1) (decoded t) p call (length area) in
        ap (λ (r : ℕ). judged r t area (layout (word t 0) (word t 1) (stepped (decoded t) p call)) (answer (decoded t) p call))
        (first_append (table_rows t) rows unmet_rows)
        ∙ rw (layout_n n E d s M, layout_e n E d s M, layout_decoded n E d s M)

    said_table : (e : Entry) → (said n E s e).table ≡ layout n E (after n E s e)
    unfolding said
    said_table (entry p call area) = go (accepts n E s (entry p call area))
      where
        go : (b : Bool)
            → (cond b (outcome 0 (layout n E (stepped s p call)) (put_words area 0 (answer s p call))) (outcome (check n E s (entry p call area)) (layout n E s) area)).table
            ≡ layout n E (cond b (stepped s p call) s)
        go true = refl
        go false = refl

    entry_table : (e : Entry) → (entry_on (layout n E s) e).table ≡ layout n E (after n E s e)
    entry_table e = ap (λ (o : Outcome). o.table) (entry_said e) ∙ said_table e

  outcomes_said : (l : List Entry) (s : State) → Sound n E s → outcomes_on (layout n E s) l ≡ said_all n E s l
  outcomes_said [] s M = refl
  outcomes_said (e ∷ l) s M =
      ap₂ (λ (o : Outcome) (os : List Outcome). o ∷ os) (entry_said s M e)
      (ap (λ (t : List ℕ). outcomes_on t l) (entry_table s M e) ∙ outcomes_said l (after n E s e) (made_after n E s e M))

  table_run : (l : List Entry) (s : State) → Sound n E s → table_after (layout n E s) l ≡ layout n E (run n E s l)
  table_run [] s M = refl
  table_run (e ∷ l) s M = ap (λ (t : List ℕ). table_after t l) (entry_table s M e) ∙ table_run l (after n E s e) (made_after n E s e M)

-- ---- numbered lines

-- on every well laid table
pub line_outcome : (t area : List ℕ) (N : ℕ) → NoneMet (table_rows t) → length area ≡ 4 * word t 0 → length (decoded t) ≡ word t 0
    → line_on t area N ≡ cond (lacking N (decoded t)) (outcome 15 t area) (outcome 0 t (bytes (numbered_line N (decoded t))))
unfolding line_on
line_outcome t area N unmet l many =
    ap (λ (r : ℕ). judged r t area t ws) (first_append (table_rows t) (line_rows (word t 0) N s (length area)) unmet)
    ∙ rw (eq-eqb (length area) (4 * word t 0) l) (go (lacking N s))
  where
    s : State
    s = decoded t

    ws : List ℕ
    ws = numbered_line N s

    go : (b : Bool) → judged (first (row 15 b ∷ [])) t area t ws ≡ cond b (outcome 15 t area) (outcome 0 t (bytes ws))
    go true = refl
    go false = ap (outcome 0 t) (whole_put area ws (l ∙ ap (λ (k : ℕ). 4 * k) (sym many ∙ sym (length-map s _))))

-- no position is above its process's count
pub line_within : (N : ℕ) (s : State) → lacking N s ≡ false → (p : ℕ) → p < length s → get_or (numbered_line N s) p 0 ≤ length (history s p)
line_within N s x p lt = saved_le (history s p) (get_or (numbered_line N s) p 0) (in_line_saved (all_in_line N s x p lt))

module _ (n E : ℕ) (d : InRange n E) (s : State) (M : Sound n E s) where
  abbrev t : List ℕ
  t = layout n E s

  line_said : (N : ℕ) (area : List ℕ) → length area ≡ 4 * n → line_on t area N ≡ cond (lacking N s) (outcome 15 t area) (outcome 0 t (bytes (numbered_line N s)))
  line_said N area l =
      let is = layout_decoded n E d s M in
      let first_is = layout_n n E d s M in
      let x = line_outcome t area N (unmet_rows n E d s M) (rw first_is l) (rw (is, first_is) M.size) in
      rw is at x

  -- what an answered line leaves
  pub record LineAnswered (N : ℕ) (area : List ℕ) : Type 0 where
    pub passed : lacking N s ≡ false
    pub left : line_on t area N ≡ outcome 0 t (bytes (numbered_line N s))
    pub positions : words (line_on t area N).area ≡ numbered_line N s

  pub line_answered : (N : ℕ) (area : List ℕ) → length area ≡ 4 * n → (line_on t area N).returned ≡ 0 → LineAnswered N area
  line_answered N area l z = go (test (lacking N s))
    where
      go : Test (lacking N s) → LineAnswered N area
      go (passes x) = let e = ap (λ (o : Outcome). o.returned) (line_said N area l) in absurd (let y : ◌≡◌ {A = ℕ} 0 15 = (sym z ∙ rw x at e) in omega arith)
      go (fails x) =
          let few = d.records in
          let left : line_on t area N ≡ outcome 0 t (bytes (numbered_line N s)) = (line_said N area l ∙ rw x) in
          record {
            passed = x;
            left = left;
            positions =
                rw left (words_bytes (numbered_line N s) (all_small (numbered_line N s) (λ p lt.
                let a = line_within N s x p (let m = length-map s (λ h. position_or 0 (numbered N h)) in omega arith) in
                let b = M.short p in omega arith)));
          }

  pub lined : Lined n t s
  lined = record {
    answered = line_said;
    clean = λ N area l z. let A = line_answered N area l z in rw A.positions (line_clean n E s M N A.passed);
    all_saved = λ N area l z p lt.
        let A = line_answered N area l z in
        rw A.positions (in_line_saved (all_in_line N s A.passed p (let m = M.size in omega arith)));
  }

-- ---- one list, and two

after_list : (n E : ℕ) → InRange n E → (l : List Entry) → AfterList n E (layout n E (fresh n)) l (run n E (fresh n) l)
after_list n E d l =
    let s = run n E (fresh n) l in
    let M = made n E l in
    let left : table_after (layout n E (fresh n)) l ≡ layout n E s = table_run n E d l (fresh n) (made_fresh n E) in
    record {
      answered = outcomes_said n E d l (fresh n) (made_fresh n E);
      left = left;
      lined = rw left (lined n E d s M);
      laid = rw left (first_none (table_rows (layout n E s)) (unmet_rows n E d s M));
      unmet = λ e. never_ten n E s e M;
    }

both : (n E : ℕ) → InRange n E → (l₁ l₂ : List Entry) → Both n E (layout n E (fresh n)) (layout n E (fresh n)) l₁ l₂
both n E d l₁ l₂ =
    let a = after_list n E d l₁ in
    let b = after_list n E d l₂ in
    let s₁ = run n E (fresh n) l₁ in
    let s₂ = run n E (fresh n) l₂ in
    record {
      same =
          rw (a.answered, b.answered) (
            λ e. (same_state n E l₁ l₂).0
                (sym (layout_decoded n E d s₁ (made n E l₁)) ∙ ap decoded (sym a.left ∙ e ∙ b.left) ∙ layout_decoded n E d s₂ (made n E l₂)),
            λ h. a.left ∙ ap (layout n E) ((same_state n E l₁ l₂).1 h) ∙ sym b.left,
          );
      one = a;
      two = b;
    }

-- an accepted fresh call
fresh_accepted : (lent : List ℕ) (n E : ℕ) → (fresh_on lent n E).returned ≡ 0 → InRange n E × ((fresh_on lent n E).table ≡ layout n E (fresh n))
unfolding fresh_on
fresh_accepted lent n E r =
    let rows = row 1 (not (in_range n E)) ∷ row 2 (not (eqb (length lent) (size n E))) ∷ [] in
    let z : first rows ≡ 0 = sym (judged_returned (first rows) lent [] (layout n E (fresh n)) []) ∙ r in
    let m = none_met rows tt z in
    (in_range_lem n E (not-false (in_range n E) m.0), rw (eq-eqb (first rows) 0 z))

-- a table made by accepted calls holds a state that a list of calls makes
pub record Holds (n E : ℕ) (t : List ℕ) : Type 0 where
  pub range : InRange n E
  pub made : MadeState n E (decoded t)
  pub is : t ≡ layout n E (decoded t)

pub made_holds : (n E : ℕ) (t : List ℕ) → MadeByCalls n E t → Holds n E t
made_holds n E t M =
    let a = fresh_accepted M.lent n E M.accepted in
    let s = run n E (fresh n) M.list in
    let S = made n E M.list in
    let e : t ≡ layout n E s = sym M.leaves ∙ ap (λ (x : List ℕ). table_after x M.list) a.1 ∙ (after_list n E a.0 M.list).left in
    let d : decoded t ≡ s = ap decoded e ∙ layout_decoded n E a.0 s S in
    record { range = a.0; made = record { list = M.list; leaves = sym d }; is = rw d e }

pub two_lists : TwoLists
two_lists n E lent₁ lent₂ l₁ l₂ r₁ r₂ =
    let a = fresh_accepted lent₁ n E r₁ in
    let b = fresh_accepted lent₂ n E r₂ in
    rw (a.1, b.1) (both n E a.0 l₁ l₂)
