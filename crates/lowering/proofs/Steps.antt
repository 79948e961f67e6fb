-- One turn of the loops that lower a cut: the cut after a process is taken back.
use mathlib.Core.Path.{◌≡◌, refl, sym, ap, ◌∙◌, subst}
use mathlib.Core.Logic.{◌≢◌, ◌⊎◌, inl, inr, ⊎_elim}
use mathlib.Core.Bool.{Bool, true, false, not, cond, ◌&&◌, and-false}
use mathlib.Core.List.{List}
use Prim.Native.Nat.{ℕ, ◌+◌, ◌-◌, ◌*◌, ◌≤◌, ◌<◌, zero-le}
use native.Mathlib.Nat.{le_refl}
use native.Mathlib.Omega.{arith}
use native.Mathlib.Decide.{dec_lt, ℕ_discrete}
use lib.Dec.{ltb, leb}
use lib.ListN.{length, get_or, set}
use lib.Seq.{set-get_or}
use borrow.Author.Tests.{ltb-true, ltb-false, lt-ltb, le-ltb, le-leb, leb-false}
use Rattle.rules.specs.Records.{Event, basic, forced, sent, received, History, State, history, sends, has_send}
use Rattle.rules.specs.Lines.{upto, part}
use Rattle.rules.specs.FailureLine.{any, lowered}
use Rattle.basics.proofs.Booleans.{Test, passes, fails, test}
use Rattle.records.proofs.Cuts.{lowered_le, lowered_none, any_none, none_any}
use Rattle.events.specs.declared.Records.{Records}
use Rattle.events.specs.Events.{held}
use Rattle.layout.specs.declared.Table.{Table}
use Rattle.layout.specs.Tables.{state_of}
use Rattle.layout.proofs.Sections.{processes}
use Rattle.cuts.specs.declared.Part.{Part}
use Rattle.cuts.specs.Parts.{positions, counts, part_at}
use Rattle.cuts.specs.Tests.{late}
use Rattle.cuts.proofs.Parts.{position_at, sends_at, positions_set, counts_set}
use Rattle.tops.specs.Tops.{Counted}
use Rattle.lowering.specs.Lowering.{Lowered, astray, NoneAstray, Pruned}
use Rattle.lowering.proofs.Cuts.{total, lowered_trans, astray_lowered, part_same, part_other, set_counted, set_total, Fair, lower_fair, late_fair}
use Rattle.cuts.proofs.Scanned.{held_length}

-- ---- one process taken back

-- from the positions P with counts S to P' with S', at process p for the test o; `moves` where p is taken back
pub record Step (s : State) (P S P' S' : List ℕ) (n p : ℕ) (o : Event → Bool) (moves : Bool) : Type 0 where
  pub counted : Counted s P' S'
  pub lowers : Lowered s P P'
  pub none : any o (part s P' p) ≡ false
  pub others : (q : ℕ) → q ≢ p → part s P' q ≡ part s P q
  pub falls : total P' n + cond moves 1 0 ≤ total P n
  pub stays : moves ≡ false → (P ≡ P') × (S ≡ S')

module _ (s : State) (P S : List ℕ) (C : Counted s P S) (few : length s ≤ 16) (p : ℕ) (lt : p < length s) (o : Event → Bool) (fair : Fair s P p o)
    {y k : ℕ} (a : y ≡ lowered o (history s p) (get_or P p 0)) (b : k ≡ sends (upto y (history s p))) where
  abbrev from : ℕ
  from = get_or P p 0

  abbrev h : History
  h = history s p

  wide : (p < length P) × (p < length S)
  wide = let d = C.positions in let e = C.sixteen in (omega arith, omega arith)

  le : y ≤ from
  le = subst (λ (z : ℕ). z ≤ from) (sym a) (lowered_le o h from)

  -- a process that stays is written as it was, which changes nothing
  same : ltb y from ≡ false → y ≡ from
  same z = let l = ltb-false y from z in let m = le in omega arith

  step : Step s P S (set P p y) (set S p k) (length s) p o (ltb y from)
  step =
      record {
        counted = set_counted s P p wide.0 y S C le b wide.1 lt;
        lowers = subst (λ (z : ℕ). Lowered s P (set P p z)) (sym a) (lower_fair s P p wide.0 o fair);
        none = rw (part_same s P p wide.0 y, a) (lowered_none o h from);
        others = part_other s P p wide.0 y;
        falls = falls (test (ltb y from)) (set_total s P p wide.0 y (length s) lt);
        stays = λ z. (
          sym (ap (set P p) (same z) ∙ set-get_or P p 0),
          sym (ap (set S p) (b ∙ ap (λ (v : ℕ). sends (upto v h)) (same z) ∙ sym (C.counted p lt)) ∙ set-get_or S p 0),
        );
      }
    where
      falls : Test (ltb y from) → total (set P p y) (length s) + from ≡ total P (length s) + y
          → total (set P p y) (length s) + cond (ltb y from) 1 0 ≤ total P (length s)
      falls (passes z) e = let l = ltb-true y from z in rw z (omega arith)
      falls (fails z) e = let l = same z in rw z (omega arith)

-- ---- in a table

module _ (t : Table) (cut : List Part) (C : Counted (state_of t) (positions cut) (counts cut)) (p : ℕ) (lt : p < t.n) where
  few : length (state_of t) ≤ 16
  few = let e = processes t in let m = t.laid.3 in omega arith

  inside : p < length (state_of t)
  inside = let e = processes t in omega arith

  -- a part of its records
  pub part_held : (r : Records) → held r ≡ history (state_of t) p
      → ((part_at cut p).position ≤ r.count) × ((part_at cut p).sends ≡ sends (upto (part_at cut p).position (held r)))
  part_held r is =
      let h = history (state_of t) p in
      let n : r.count ≡ length h = sym (held_length r) ∙ ap length is in
      let a = position_at cut p in
      let l = C.within p inside in
      (omega arith, sym (sends_at cut p) ∙ C.counted p inside ∙ (rw (a, is)))

  -- what p's part is lowered to makes a step
  pub lowered_step : (r : Records) → held r ≡ history (state_of t) p → (o : Event → Bool) → Fair (state_of t) (positions cut) p o
      → (x : Part) → (x.position ≡ lowered o (held r) (part_at cut p).position) × (x.sends ≡ sends (upto x.position (held r)))
      → Step (state_of t) (positions cut) (counts cut) (positions (set cut p x)) (counts (set cut p x)) t.n p o (ltb x.position (part_at cut p).position)
  lowered_step r is o fair x (a, b) =
      let q = position_at cut p in
      rw (positions_set cut p x, counts_set cut p x, ← processes t, ← q)
      (step (state_of t) (positions cut) (counts cut) C few p inside o fair (rw (← is, q) a) (rw (← is) b))

-- ---- late receipts

-- lowered from P₀ by turns that go round the n processes. p has the next one. The processes that had the last `stayed` turns, those below p
-- and then those from n down, have no late receipt: none was moved since
pub record Quiet (s : State) (P₀ P S : List ℕ) (n p stayed : ℕ) : Type 0 where
  pub counted : Counted s P S
  pub lowers : Lowered s P₀ P
  pub turn : 0 < n → p < n
  pub none : (q : ℕ) → q < n → (q < p → p ≤ q + stayed) → (p ≤ q → p + n ≤ q + stayed) → any (late S) (part s P q) ≡ false

module _ {s : State} {P₀ P S : List ℕ} {n p stayed : ℕ} (Q : Quiet s P₀ P S n p stayed) where
  module _ (lt : stayed < n) {P' S' : List ℕ} {moves : Bool} (u : Step s P S P' S' n p (late S) moves) {k : ℕ}
      (e : k ≡ cond moves 0 (stayed + 1)) where
    pub quiet_next : {j : ℕ} → j ≡ cond (ltb (p + 1) n) (p + 1) 0 → Quiet s P₀ P' S' n j k
    quiet_next {j} i =
        record {
          counted = u.counted;
          lowers = lowered_trans s P₀ P P' Q.lowers u.lowers;
          turn = λ l. ⊎_elim (λ x. omega arith) (λ x. omega arith) next;
          none = none (test moves);
        }
      where
        -- the turn after p's
        next : ((j ≡ p + 1) × (p + 1 < n)) ⊎ ((j ≡ 0) × (n ≡ p + 1))
        next = go (test (ltb (p + 1) n))
          where
            go : Test (ltb (p + 1) n) → ((j ≡ p + 1) × (p + 1 < n)) ⊎ ((j ≡ 0) × (n ≡ p + 1))
            go (passes x) = inl (rw x at i, ltb-true (p + 1) n x)
            go (fails x) = inr (rw x at i, let l = Q.turn (omega arith) in let m = ltb-false (p + 1) n x in omega arith)

        none : Test moves → (q : ℕ) → q < n → (q < j → j ≤ q + k) → (j ≤ q → j + n ≤ q + k) → any (late S') (part s P' q) ≡ false
        none (passes m) q lq a b = absurd (go (dec_lt q j))
          where
            z : k ≡ 0
            z = rw m at e

            go : Dec (q < j) → ⊥
            go (yes l) = let x = a l in let y = z in omega arith
            go (no l) = let x = b (omega arith) in let y = z in omega arith
        none (fails m) q lq a b = rw (← (u.stays m).1) (at (ℕ_discrete q p))
          where
            one : k ≡ stayed + 1
            one = rw m at e

            at : Dec (q ≡ p) → any (late S) (part s P' q) ≡ false
            at (yes x) = rw x u.none
            at (no ne) =
                let o = one in
                ap (any (late S)) (u.others q ne) ∙ Q.none q lq
                (λ l. ⊎_elim (λ x. let y = a (omega arith) in omega arith) (λ x. let y = b (omega arith) in omega arith) next)
                (λ l. ⊎_elim (λ x. let y = b (omega arith) in omega arith) (λ x. absurd (omega arith)) next)

    -- a turn leaves less to do: the positions fall, or one more has stayed
    pub quiet_less : n ≤ 16 → total P' n * 17 + (16 - k) < total P n * 17 + (16 - stayed)
    quiet_less le = go moves e u.falls
      where
        go : (b : Bool) → k ≡ cond b 0 (stayed + 1) → total P' n + cond b 1 0 ≤ total P n
            → total P' n * 17 + (16 - k) < total P n * 17 + (16 - stayed)
        go true x y = omega arith
        go false x y = omega arith

pub late_step : (t : Table) {P₀ : List ℕ} (cut : List Part) {p stayed : ℕ} → Quiet (state_of t) P₀ (positions cut) (counts cut) t.n p stayed
    → stayed < t.n → (r : Records) → held r ≡ history (state_of t) p
    → (x : Part) → (x.position ≡ lowered (late (counts cut)) (held r) (part_at cut p).position) × (x.sends ≡ sends (upto x.position (held r)))
    → Step (state_of t) (positions cut) (counts cut) (positions (set cut p x)) (counts (set cut p x)) t.n p (late (counts cut)) (ltb x.position (part_at cut p).position)
late_step t cut {p} Q lt r is x e =
    let C = Q.counted in
    let m = processes t in
    let f = t.laid.3 in
    lowered_step t cut C p (Q.turn (omega arith)) r is (late (counts cut)) (late_fair (state_of t) (positions cut) (counts cut) C (omega arith) p) x e

-- ---- pruning

pub pruned_next : (s : State) (P₀ P S P' S' : List ℕ) (a b p : ℕ) {n : ℕ} {moves : Bool} → Pruned s P₀ P S a b p
    → Step s P S P' S' n p (astray s a b p) moves → Pruned s P₀ P' S' a b (p + 1)
pruned_next s P₀ P S P' S' a b p (C, l, none) u =
    (u.counted, lowered_trans s P₀ P P' l u.lowers, λ q lt. at q lt (ℕ_discrete q p))
  where
    at : (q : ℕ) → q < p + 1 → Dec (q ≡ p) → any (astray s a b q) (part s P' q) ≡ false
    at q lt (yes i) = rw i u.none
    at q lt (no ne) = ap (any (astray s a b q)) (u.others q ne) ∙ none q (omega arith)

-- of nobody's receipts yet
pub pruned_start : (s : State) (P S : List ℕ) (n : ℕ) → Counted s P S → Pruned s P P S 0 0 n
pruned_start s P S n C = (
  C,
  record { down = λ p lt. le_refl (get_or P p 0); over = λ mask O. O },
  λ p lt. none_any (astray s 0 0 p) (part s P p) (λ e m. none p e),
)
  where
    none : (p : ℕ) (e : Event) → astray s 0 0 p e ≡ false
    none p (basic m) = refl
    none p (forced m) = refl
    none p (sent q) = refl
    none p (received q k c) = rw (le-ltb q 0 zero-le, and-false (leb 0 q))

-- of those from the senders before a, and then from the others before b
module _ (s : State) (P₀ P S P' S' : List ℕ) (a b : ℕ) where
  one : (p : ℕ) (e : Event) → astray s 0 a p e ≡ false → astray s a b p e ≡ false → astray s 0 b p e ≡ false
  one p (basic m) x y = refl
  one p (forced m) x y = refl
  one p (sent q) x y = refl
  one p (received q k c) x y = go (test (leb a q))
    where
      at : Bool
      at = leb k (sends (history s q)) && not (has_send (history s q) p k)

      go : Test (leb a q) → (leb 0 q && ltb q b && at) ≡ false
      go (passes z) = rw (le-leb 0 q zero-le) (rw z at y)
      go (fails z) =
          let w : at ≡ false = rw (le-leb 0 q zero-le, lt-ltb q a (leb-false a q z)) at x in
          rw (w, and-false (leb 0 q && ltb q b))

  pub pruned_more : (n : ℕ) → n ≡ length s → Pruned s P₀ P S 0 a n → Pruned s P P' S' a b n → Pruned s P₀ P' S' 0 b n
  pruned_more n e (C, l, none) (C', l', none') = (C', lowered_trans s P₀ P P' l l', both)
    where
      before : NoneAstray s P' 0 a n
      before = rw e (astray_lowered s P P' 0 a l' (rw e at none))

      both : NoneAstray s P' 0 b n
      both p lt = none_any (astray s 0 b p) (part s P' p)
          (λ x m. one p x (any_none (astray s 0 a p) (part s P' p) (before p lt) x m) (any_none (astray s a b p) (part s P' p) (none' p lt) x m))
