-- Slip 7: what the call leaves for a process, and why.
use mathlib.Core.Path.{◌≡◌, refl, ap, ◌∙◌}
use mathlib.Core.Bool.{Bool, true, false, not}
use mathlib.Core.List.{List, ◌++◌}
use mathlib.Core.Option.{Option, none, some}
use Prim.Native.Nat.{ℕ, ◌+◌, ◌*◌, ◌^◌, ◌≤◌, ◌<◌}
use native.Mathlib.Omega.{arith}
use native.Mathlib.Decide.{dec_lt, ℕ_discrete}
use lib.Dec.{eqb}
use lib.ListN.{length, get_or}
use borrow.Author.Tests.{eq-eqb, eqb-true, lt-leb, not-true}
use Rattle.xdr.specs.Words.{word}
use Rattle.xdr.proofs.Puts.{whole_put}
use Rattle.rules.specs.Records.{Event, basic, forced, sent, received, History, State, history, record_at, has_send}
use Rattle.rules.specs.Table.{decoded}
use Rattle.rules.specs.Lines.{part, orphan, failed, IsFailureLine}
use Rattle.rules.specs.FailureLine.{last_saved, top, failure_line}
use Rattle.rules.specs.Calls.{outcome, first, table_rows}
use Rattle.rules.specs.Grounds.{first_after, at_count, at_last_checkpoint, ground, grounds_below, grounds, grounds_rows, grounds_on}
use Rattle.basics.proofs.Booleans.{Test, passes, fails, test, clash, and_left, and_right}
use Rattle.records.proofs.Rows.{none_met, first_append}
use Rattle.records.proofs.Cuts.{last_saved_lem, last_latest, top_permitted, top_latest, permitted_le}
use Rattle.records.proofs.FailureLines.{failure_line_lem}
use Rattle.records.proofs.Grounds.{FirstAt, after_some, moved_there, moved_at_most, below_length, below_at}
use Rattle.tables.proofs.WellLaid.{decoded_count}
use Rattle.theorems.specs.Grounds.{OrphanAt, FirstOrphan, Lost, AtCount, AtLastCheckpoint, Ground, WhichRule, OneGround}

module _ (mask : ℕ) (s : State) (cut : List ℕ) (p : ℕ) where
  abbrev h : History
  h = history s p

  abbrev t : ℕ
  t = get_or cut p 0

  abbrev down : Bool
  down = failed mask p

  -- ---- the tests of the definition, and what they say

  at_count_says : at_count down h t ≡ true → AtCount mask s cut p
  at_count_says e = (not-true down (and_left (not down) (eqb t (length h)) e), eqb-true t (length h) (and_right (not down) (eqb t (length h)) e))

  says_at_count : AtCount mask s cut p → at_count down h t ≡ true
  says_at_count (a, b) = rw (a, eq-eqb t (length h) b)

  at_last_says : at_last_checkpoint down h t ≡ true → AtLastCheckpoint mask s cut p
  at_last_says e =
      let a = eqb-true t (last_saved h) (and_right down (eqb t (last_saved h)) e) in
      (and_left down (eqb t (last_saved h)) e, rw a (last_saved_lem h), λ u ok. rw a (last_latest h u ok))

  says_at_last : AtLastCheckpoint mask s cut p → at_last_checkpoint down h t ≡ true
  says_at_last (a, b, c) =
      let l = c (last_saved h) (last_saved_lem h) in
      let m = last_latest h t b in
      rw (a, eq-eqb t (last_saved h) (omega arith))

  -- ---- an orphan is a receipt whose send is outside the cut

  orphan_at : (i : ℕ) (e : Event) → record_at i h ≡ some e → orphan s cut p e ≡ true → OrphanAt s cut p i
  orphan_at i (basic m) a o = clash false o refl
  orphan_at i (forced m) a o = clash false o refl
  orphan_at i (sent q) a o = clash false o refl
  orphan_at i (received q k c) a o = record { sender = q; k = k; carried = c; receipt = a; outside = not-true (has_send (part s cut q) p k) o }

  first_orphan : (i : ℕ) → FirstAt (orphan s cut p) t h i → FirstOrphan s cut p i
  first_orphan i F = record {
    after = F.after;
    there = orphan_at i F.event F.there F.holds;
    before = λ j lt O. F.before j (received O.sender O.k O.carried) lt O.receipt (rw O.outside);
  }

  -- ---- the three cases

  running : at_count down h t ≡ true → Ground mask s cut p 0 0
  running e =
      let A = at_count_says e in
      record {
        running = (λ z. A, λ z. refl);
        reloaded = (λ z. absurd (omega arith), λ L. clash down L.0 A.0);
        moved = (λ z. absurd (omega arith), λ n. absurd (n.0 A));
        all = omega arith;
        none = λ l. refl;
        kept = λ l u ok. let m = permitted_le h down u ok in let z = A.1 in omega arith;
        receipt = λ z. absurd (omega arith);
        lost = λ z. absurd (omega arith);
        next = λ z. absurd (omega arith);
      }

  reloaded : at_last_checkpoint down h t ≡ true → Ground mask s cut p 1 0
  reloaded e =
      let L = at_last_says e in
      let a = eqb-true t (last_saved h) (and_right down (eqb t (last_saved h)) e) in
      record {
        running = (λ z. absurd (omega arith), λ A. clash down L.0 A.0);
        reloaded = (λ z. L, λ z. refl);
        moved = (λ z. absurd (omega arith), λ n. absurd (n.1 L));
        all = omega arith;
        none = λ l. refl;
        kept = λ l u ok. rw a (top_latest true h u (rw L.0 at ok));
        receipt = λ z. absurd (omega arith);
        lost = λ z. absurd (omega arith);
        next = λ z. absurd (omega arith);
      }

  module _ (F : IsFailureLine mask s cut) (lt : p < length s) (a : at_count down h t ≡ false) (b : at_last_checkpoint down h t ≡ false) where
    lost : Lost mask s cut p
    lost = record { t = top down h; might = top_permitted down h; later = go down refl (top_latest down h t (F.permit.each p lt)) }
      where
        less : (x : ℕ) → t ≤ x → (t ≡ x → ⊥) → t < x
        less x le ne = go (ℕ_discrete t x)
          where
            go : Dec (t ≡ x) → t < x
            go (yes z) = absurd (ne z)
            go (no z) = omega arith

        go : (d : Bool) → down ≡ d → t ≤ top d h → t < top d h
        go true z le = less (last_saved h) le (λ e. clash (at_last_checkpoint down h t) (rw (z, eq-eqb t (last_saved h) e)) b)
        go false z le = less (length h) le (λ e. clash (at_count down h t) (rw (z, eq-eqb t (length h) e)) a)

    moved : (i : ℕ) → first_after (orphan s cut p) t h ≡ some i → Ground mask s cut p 2 i
    moved i e =
        let not_count : AtCount mask s cut p → ⊥ = λ A. clash (at_count down h t) (says_at_count A) a in
        let not_last : AtLastCheckpoint mask s cut p → ⊥ = λ L. clash (at_last_checkpoint down h t) (says_at_last L) b in
        record {
          running = (λ z. absurd (omega arith), λ A. absurd (not_count A));
          reloaded = (λ z. absurd (omega arith), λ L. absurd (not_last L));
          moved = (λ z. (not_count, not_last), λ n. refl);
          all = omega arith;
          none = λ l. absurd (omega arith);
          kept = λ l. absurd (omega arith);
          receipt = λ z. first_orphan i (after_some (orphan s cut p) t h i e);
          lost = λ z. lost;
          next = λ z u ok later. moved_at_most mask s cut F p lt u ok later i e;
        }

  -- the words of the definition are one of the three
  pub ground_lem : IsFailureLine mask s cut → p < length s → Ground mask s cut p (get_or (ground mask s cut p) 0 0) (get_or (ground mask s cut p) 1 0)
  ground_lem F lt = go (test (at_count down h t)) (test (at_last_checkpoint down h t)) (first_after (orphan s cut p) t h) refl
    where
      go : Test (at_count down h t) → Test (at_last_checkpoint down h t) → (f : Option ℕ) → first_after (orphan s cut p) t h ≡ f
          → Ground mask s cut p (get_or (ground mask s cut p) 0 0) (get_or (ground mask s cut p) 1 0)
      go (passes a) b f e = rw a (running a)
      go (fails a) (passes b) f e = rw (a, b) (reloaded b)
      go (fails a) (fails b) (some i) e = rw (a, b, e) (moved F lt a b i e)
      go (fails a) (fails b) none e = let L = lost F lt a b in absurd (moved_there mask s cut F p lt L.t L.might L.later e)

pub which_rule : WhichRule
unfolding grounds_on grounds
which_rule t a mask laid area within =
    let s = decoded t in
    let n = word t 0 in
    let cut = failure_line mask s in
    let m = decoded_count t in
    let two = below_length mask s cut (length s) in
    let rows : first (table_rows t ++ grounds_rows n mask (length a)) ≡ 0 =
    first_append (table_rows t) (grounds_rows n mask (length a)) (none_met (table_rows t) tt laid)
    ∙ (rw (eq-eqb (length a) (8 * n) area, lt-leb (2 ^ n) mask within))
    in
    record {
      cut = cut;
      words = grounds_below mask s cut (length s);
      left = rw rows (ap (outcome 0 t) (whole_put a (grounds_below mask s cut (length s)) (omega arith)));
      two = two ∙ ap (λ (x : ℕ). 2 * x) m;
      line = failure_line_lem mask s;
      each = λ p lt.
          let l : p < length s = omega arith in
          let z : 2 * p ≡ 2 * p + 0 = omega arith in
          let first = ap (λ (x : ℕ). get_or (grounds_below mask s cut (length s)) x 0) z ∙ below_at mask s cut (length s) p 0 l (omega arith) in
          rw (first, below_at mask s cut (length s) p 1 l (omega arith))
          (ground_lem mask s cut p (failure_line_lem mask s) l);
    }

-- ---- one answer

pub one_ground : OneGround
one_ground mask s cut p g place h other A B =
    let same : g ≡ h = go (dec_lt g 1) (dec_lt g 2) in
    (same, at (dec_lt g 2) same)
  where
    go : Dec (g < 1) → Dec (g < 2) → g ≡ h
    go (yes l) x = let z : g ≡ 0 = omega arith in let w = B.running.1 (A.running.0 z) in omega arith
    go (no l) (yes x) = let z : g ≡ 1 = omega arith in let w = B.reloaded.1 (A.reloaded.0 z) in omega arith
    go (no l) (no x) = let y = A.all in let z : g ≡ 2 = omega arith in let w = B.moved.1 (A.moved.0 z) in omega arith

    at : Dec (g < 2) → g ≡ h → place ≡ other
    at (yes l) e = let a = A.none (omega arith) in let b = B.none (omega arith) in omega arith
    at (no l) e =
        let y = A.all in
        let F = A.receipt (omega arith) in
        let G = B.receipt (omega arith) in
        let a = F.before other G.after G.there in
        let b = G.before place F.after F.there in
        omega arith
