-- Senders that are noted one behind the other, and what is struck from their notes.
use mathlib.Core.Path.{◌≡◌, sym, ap, ◌∙◌, subst}
use mathlib.Core.Logic.{◌≢◌, inl}
use mathlib.Core.Bool.{Bool, true, false, cond, ◌&&◌}
use mathlib.Core.List.{List}
use Prim.Native.Nat.{ℕ, zero, suc, ◌+◌, ◌-◌, ◌≤◌, ◌<◌, zero-le}
use native.Mathlib.Nat.{le_refl}
use native.Mathlib.Numerals.{add-one}
use native.Mathlib.Omega.{arith}
use native.Mathlib.Decide.{dec_lt, ℕ_discrete}
use lib.Dec.{ltb, eqb}
use lib.ListN.{length, get_or, length-set}
use lib.Seq.{get_or-set_other, get_or-set_same}
use borrow.Author.Tests.{ne_eqb, lt-ltb, le-ltb, eq-eqb, true-ltb, false-ltb}
use Rattle.rules.specs.Records.{History, State, history, sends, destination, has_receipt}
use Rattle.rules.specs.Lines.{part}
use Rattle.tables.proofs.Laid.{Legal, sends_length}
use Rattle.basics.proofs.Older.{older_length}
use Rattle.records.proofs.Cuts.{upto_is_older}
use Rattle.events.specs.declared.Records.{Records}
use Rattle.events.specs.Events.{held}
use Rattle.cuts.proofs.Scanned.{held_length}
use Rattle.cuts.specs.Notes.{span_of, Inside, noted, struck_by_place}
use Rattle.cuts.proofs.Notes.{by_place_at, by_place_length, noted_sent, noted_other, noted_length}
use Rattle.notes.specs.declared.cut.Cut.{Cut}
use Rattle.notes.specs.declared.Senders.{Senders}
use Rattle.layout.specs.declared.Table.{Table}
use Rattle.layout.specs.Tables.{state_of}
use Rattle.notes.specs.Noted.{state_at, places, sent_below, grown, Group, left, Left, NotedAt, Noted}
use Rattle.notes.proofs.Places.{short, part_legal, legal_part}

module _ (s : State) (cut : List ℕ) where
  sent_mono : (q x : ℕ) → sent_below s cut q ≤ sent_below s cut (q + x)
  sent_mono q zero = let e : q + 0 ≡ q = omega arith in rw e (le_refl (sent_below s cut q))
  sent_mono q (suc x) = let e : q + suc x ≡ suc (q + x) = omega arith in let r = sent_mono q x in rw e (omega arith)

  -- the sends of a process come before those of the next ones
  sent_past : (q r : ℕ) → q < r → sent_below s cut q + sends (part s cut q) ≤ sent_below s cut r
  sent_past q r lt =
      let e : suc q + (r - suc q) ≡ r = omega arith in
      let m = sent_mono (suc q) (r - suc q) in
      let f = ap (sent_below s cut) e in
      omega arith

  one_place : (q k r j : ℕ) → 0 < k → k ≤ sends (part s cut q) → 0 < j → j ≤ sends (part s cut r)
      → sent_below s cut q + k ≡ sent_below s cut r + j → (q ≡ r) × (k ≡ j)
  one_place q k r j a b c d e = go (dec_lt q r) (dec_lt r q)
    where
      go : Dec (q < r) → Dec (r < q) → (q ≡ r) × (k ≡ j)
      go (yes l) x = let m = sent_past q r l in absurd (omega arith)
      go (no l) (yes x) = let m = sent_past r q x in absurd (omega arith)
      go (no l) (no x) = let z : q ≡ r = omega arith in let y = ap (sent_below s cut) z in (z, omega arith)

  -- ---- the group

  module _ (g : Senders) (G : Group s cut g) where
    -- a process of which something is noted is in the group
    in_group : (q : ℕ) → 0 < (span_of g.spans q).count → (g.from ≤ q) × (q < g.next)
    in_group q pos = go (dec_lt q g.from) (dec_lt q g.next)
      where
        go : Dec (q < g.from) → Dec (q < g.next) → (g.from ≤ q) × (q < g.next)
        go (yes l) x = let z = (G.before q l).1 in absurd (omega arith)
        go (no l) (yes x) = (omega arith, x)
        go (no l) (no x) = let z = (G.behind q (omega arith)).1 in absurd (omega arith)

    group_only : (q k : ℕ) → g.from ≤ q → q < g.next → 0 < k → k ≤ sends (part s cut q) → (r j : ℕ) → 0 < j → j ≤ (span_of g.spans r).count
        → (span_of g.spans r).start + j ≡ (span_of g.spans q).start + k → (r ≡ q) × (j ≡ k)
    group_only q k a b c d r j x y e =
        let i = in_group r (omega arith) in
        let z = G.count r i.0 i.1 in
        let u = G.start r i.0 i.1 in
        let v = G.start q a b in
        one_place r j q k x (omega arith) c d (omega arith)

    -- its notes are among all
    pub group_past : (q : ℕ) → g.from ≤ q → q < g.next → (span_of g.spans q).start + sends (part s cut q) ≤ g.many
    group_past q a b = let m = sent_past q g.next b in let u = G.start q a b in let v = G.all in omega arith

    pub group_inside : {len : ℕ} → g.many < len → Inside g.spans len
    group_inside {len} lt q = at (dec_lt q g.from) (dec_lt q g.next)
      where
        at : Dec (q < g.from) → Dec (q < g.next) → (span_of g.spans q).start + (span_of g.spans q).count < len
        at (yes l) x = let z = G.before q l in let u = z.0 in let v = z.1 in omega arith
        at (no l) (no x) = let z = G.behind q (omega arith) in let u = z.0 in let v = z.1 in omega arith
        at (no l) (yes x) =
            let z = G.count q (omega arith) x in
            let m = group_past q (omega arith) x in
            omega arith

    -- one sender more
    other : (k q : ℕ) → q ≢ g.next → span_of (grown g k).spans q ≡ span_of g.spans q
    other k q ne = get_or-set_other g.spans g.next q (record { start = g.many; count = k }) (record { start = 0; count = 0 }) ne

    same : (k q : ℕ) → g.next < 16 → q ≡ g.next → span_of (grown g k).spans q ≡ record { start = g.many; count = k }
    same k q few e = let l = G.size in rw e (get_or-set_same g.spans g.next (record { start = g.many; count = k }) (record { start = 0; count = 0 }) (omega arith))

    group_next : g.from ≤ g.next → g.next < 16 → {k : ℕ} → k ≡ sends (part s cut g.next) → Group s cut (grown g k)
    group_next le few {k} e = record {
      size = length-set g.spans g.next (record { start = g.many; count = k }) ∙ G.size;
      start = λ q a b. start_at q a b (ℕ_discrete q g.next);
      count = λ q a b. count_at q a b (ℕ_discrete q g.next);
      before = λ q a. let z = other k q (omega arith) in rw z (G.before q a);
      behind = λ q a. let z = other k q (omega arith) in rw z (G.behind q (omega arith));
      all = let m = G.all in rw (add-one g.next) (omega arith);
    }
      where
        start_at : (q : ℕ) → g.from ≤ q → q < g.next + 1 → Dec (q ≡ g.next)
            → (span_of (grown g k).spans q).start + sent_below s cut g.from ≡ sent_below s cut q
        start_at q a b (yes z) = rw (same k q few z, z) G.all
        start_at q a b (no z) = rw (other k q z) (G.start q a (omega arith))

        count_at : (q : ℕ) → g.from ≤ q → q < g.next + 1 → Dec (q ≡ g.next) → (span_of (grown g k).spans q).count ≡ sends (part s cut q)
        count_at q a b (yes z) = rw (same k q few z, z) e
        count_at q a b (no z) = rw (other k q z) (G.count q a (omega arith))

    -- its sends are noted behind the others, and nothing is struck yet
    notes_next : (n E : ℕ) → n ≤ 16 → g.from ≤ g.next → g.next < n → Legal n E g.next (part s cut g.next) → (to : List ℕ)
        → g.many + length (part s cut g.next) < length to → Left s cut 0 g to → (j : ℕ) → Left s cut 0 (grown g j) (noted g.many (part s cut g.next) to)
    notes_next n E few le lt legal to room L j q k a b c d = go (ℕ_discrete q g.next)
      where
        u : List ℕ
        u = noted g.many (part s cut g.next) to

        none : (x : ℕ) → x ≡ cond (ltb x 0 && has_receipt (part s cut x) q k) 16 x
        none x = rw (le-ltb x 0 zero-le)

        go : Dec (q ≡ g.next) → get_or u ((span_of (grown g j).spans q).start + k) 0 ≡ left s cut 0 q k
        go (yes z) =
            let m : k ≤ sends (part s cut g.next) = subst (λ (x : ℕ). k ≤ sends (part s cut x)) z d in
            rw (same j q (omega arith) z) (noted_sent g.many to n E g.next few (part s cut g.next) legal room k c m
            ∙ ap (λ (x : ℕ). destination (part s cut x) k) (sym z) ∙ none (destination (part s cut q) k))
        go (no z) =
            let past = group_past q a (omega arith) in
            rw (other j q z) (noted_other g.many to (part s cut g.next) ((span_of g.spans q).start + k) (inl (omega arith))
            ∙ L q k a (omega arith) c d)

    -- ---- receipts

    -- one receiver more
    left_next : (p q k : ℕ) → p < 16
        → cond (eqb (left s cut p q k) p && has_receipt (part s cut p) q k) 16 (left s cut p q k) ≡ left s cut (p + 1) q k
    left_next p q k few = go (dec_lt d p) (ℕ_discrete d p)
      where
        d : ℕ
        d = destination (part s cut q) k

        got : Bool
        got = has_receipt (part s cut d) q k

        -- it was struck or left before
        kept : (b : Bool) → d < p → cond (eqb (cond b 16 d) p && has_receipt (part s cut p) q k) 16 (cond b 16 d) ≡ cond b 16 d
        kept true l = rw (ne_eqb 16 p (omega arith))
        kept false l = rw (ne_eqb d p (omega arith))

        go : Dec (d < p) → Dec (d ≡ p)
            → cond (eqb (cond (ltb d p && got) 16 d) p && has_receipt (part s cut p) q k) 16 (cond (ltb d p && got) 16 d)
            ≡ cond (ltb d (p + 1) && got) 16 d
        go (yes l) e = rw (lt-ltb d p l, lt-ltb d (p + 1) (omega arith)) (kept got l)
        go (no l) (yes e) =
            let h : has_receipt (part s cut p) q k ≡ got = ap (λ (x : ℕ). has_receipt (part s cut x) q k) (sym e) in
            rw (le-ltb d p (omega arith), lt-ltb d (p + 1) (omega arith), h, eq-eqb d p e)
        go (no l) (no e) = rw (le-ltb d p (omega arith), le-ltb d (p + 1) (omega arith), ne_eqb d p e)

    strike_next : (n E p : ℕ) → n ≤ 16 → p < n → g.next ≤ n → Legal n E p (part s cut p) → (to : List ℕ) → g.many < length to
        → Left s cut p g to → Left s cut (p + 1) g (struck_by_place g.spans p (part s cut p) to)
    strike_next n E p few lt less legal to room L q k a b c d =
        let past = group_past q a b in
        let count = G.count q a b in
        by_place_at g.spans p to n E p q k few (omega arith) (omega arith) (omega arith) c (omega arith)
        (λ r j l x y z. group_only q k a b c d r j x y z) (part s cut p) legal
        ∙ ap (λ (x : ℕ). cond (eqb x p && has_receipt (part s cut p) q k) 16 x) (L q k a b c d) ∙ left_next p q k (omega arith)

-- ---- at a cut of a table

module _ (t : Table) (cut : List ℕ) (g : Senders) (to : List ℕ) (N : NotedAt t cut 0 g to) {p : ℕ} (at : g.next ≡ p) (lt : p < t.n)
    (r : Records) (is : held r ≡ part (state_of t) cut p) where
  here : held r ≡ part (state_of t) cut g.next
  here = is ∙ ap (part (state_of t) cut) (sym at)

  -- one sender more is noted
  pub note_turn : true ≡ ltb (g.many + r.count) (length to) → {w : Senders} → w ≡ grown g (sends (held r)) → {u : List ℕ} → u ≡ noted g.many (held r) to
      → NotedAt t cut 0 w u × (length u ≡ length to) × (w.from ≡ g.from) × (w.next ≡ p + 1)
  note_turn fits {w} x {u} y =
      let few = t.laid.3 in
      let room = true-ltb (g.many + r.count) (length to) fits in
      let many = ap length here in
      let count = held_length r in
      let l = sends_length (held r) in
      let len = ap length y ∙ noted_length g.many to (held r) in
      let e : u ≡ noted g.many (part (state_of t) cut g.next) to = y ∙ ap (λ (z : History). noted g.many z to) here in
      let most = N.most in (
        subst (λ (z : Senders). NotedAt t cut 0 z u) (sym x) (record {
          group = group_next (state_of t) cut g N.group N.order (omega arith) (ap sends here);
          notes = subst (Left (state_of t) cut 0 (grown g (sends (held r)))) (sym e)
              (notes_next (state_of t) cut g N.group t.n t.e few N.order (omega arith) (legal_part t cut g.next) to (omega arith) N.notes (sends (held r)));
          order = let o = N.order in omega arith;
          most = omega arith;
          room = omega arith;
        }),
        len,
        ap (λ (z : Senders). z.from) x,
        ap (λ (z : Senders). z.next) x ∙ ap (λ (i : ℕ). i + 1) at,
      )

  -- there is no room for it: it isn't the first one
  pub note_stop : false ≡ ltb (g.many + r.count) (length to) → t.e < length to → {q : ℕ} → g.from ≡ q → {w : Senders} → w ≡ g → {u : List ℕ} → u ≡ to
      → NotedAt t cut 0 w u × (w.from ≡ q) × (q < w.next)
  note_stop full room {q} a {w} x {u} y = rw (x, y) (N, a, subst (λ (i : ℕ). i < g.next) a (go (dec_lt g.from g.next)))
    where
      go : Dec (g.from < g.next) → g.from < g.next
      go (yes l) = l
      go (no l) =
          let less = false-ltb (g.many + r.count) (length to) full in
          let o = N.order in
          let z : g.next ≡ g.from = omega arith in
          let all = N.group.all in
          let none = ap (sent_below (state_of t) cut) z in
          let count = held_length r in
          let many = ap length is in
          let part_short = older_length (upto_is_older (get_or cut p 0) (history (state_of t) p)) in
          let s = short t p in
          absurd (omega arith)

-- one receiver more
module _ (c : Cut) (g : Senders) (to : List ℕ) where
  pub strike_turn : {p : ℕ} → Noted c p g to → p < c.table.n → {h : History} → h ≡ part (state_at c) (places c) p → {u : List ℕ}
      → u ≡ struck_by_place g.spans p h to → Noted c (p + 1) g u × (length u ≡ length to)
  strike_turn {p} N lt i {u} x =
      let e : u ≡ struck_by_place g.spans p (part (state_at c) (places c) p) to = x ∙ ap (λ (y : History). struck_by_place g.spans p y to) i in
      let len = ap length e ∙ by_place_length g.spans p to (part (state_at c) (places c) p) in
      let room = N.room in (
        record {
          group = N.group;
          notes = subst (Left (state_at c) (places c) (p + 1) g) (sym e)
              (strike_next (state_at c) (places c) g N.group c.table.n c.table.e p c.table.laid.3 lt N.most (part_legal c p) to N.room N.notes);
          order = N.order;
          most = N.most;
          room = omega arith;
        },
        len,
      )
