-- The search for the first orphan behind a position, record by record.
use mathlib.Core.Path.{◌≡◌, refl, sym, ap, ◌∙◌, subst}
use mathlib.Core.Bool.{Bool, true, false, cond, ◌&&◌, ◌||◌, and-false, or-false}
use mathlib.Core.List.{List, [], ◌∷◌}
use mathlib.Core.Option.{none, some}
use Prim.Native.Nat.{ℕ, suc, ◌+◌, ◌-◌, ◌*◌, ◌%◌, ◌≤◌, ◌<◌}
use native.Mathlib.Nat.{le_refl, mod-eq_of_lt}
use native.Mathlib.Numerals.{add-one}
use native.Mathlib.Omega.{arith}
use lib.Dec.{ltb, leb, eqb}
use lib.ListN.{length, get_or}
use borrow.Author.Tests.{lt-ltb, le-leb, lt-leb, leb-true, leb-false, eqb-true, eqb-false, eq-eqb, ne_eqb}
use Rattle.xdr.specs.Words.{word}
use Rattle.rules.specs.Records.{Event, basic, forced, sent, received, History, State, history, sends, destination, has_send}
use Rattle.rules.specs.Table.{width}
use Rattle.rules.specs.Lines.{part, orphan}
use Rattle.rules.specs.Grounds.{first_after, moved_by}
use Rattle.basics.proofs.Older.{Older}
use Rattle.basics.proofs.Booleans.{Test, passes, fails, test, clash}
use Rattle.records.proofs.Histories.{each_older, holds_older}
use Rattle.records.proofs.Grounds.{after_older}
use Rattle.tables.specs.Sections.{SendsLaid}
use Rattle.tables.proofs.Laid.{Law, sends_length}
use Rattle.tables.proofs.WellLaid.{records_length}
use Rattle.tables.proofs.Scans.{first_older, records_upto}
use Rattle.events.specs.declared.Event.{Event as Read}
use Rattle.events.specs.declared.Event.TheVariants as event
use Rattle.events.specs.declared.Records.{Records}
use Rattle.events.specs.Events.{meant, record_of, first_of, held, Spells}
use Rattle.layout.specs.declared.Table.{Table}
use Rattle.layout.specs.Tables.{state_of}
use Rattle.layout.proofs.Sections.{lawful, processes}
use Rattle.scans.proofs.Found.{numbered_as}
use Rattle.cuts.specs.declared.Part.{Part}
use Rattle.cuts.specs.Parts.{positions, counts, part_at}
use Rattle.cuts.proofs.Parts.{position_at, sends_at}
use Rattle.tops.specs.Tops.{Counted}
use Rattle.lowering.proofs.Steps.{part_held}
use Rattle.grounds.specs.Sends.{is_send}

-- ---- the first record behind a position

-- there is none among as many records
none_within : (o : Event → Bool) (t : ℕ) (h : History) → length h ≤ t → first_after o t h ≡ none
none_within o t [] le = refl
none_within o t (e ∷ h) le = rw (none_within o t h (omega arith), lt-leb t (length h) (omega arith))

-- ---- send k to p, among one record more

-- the record is it, behind those of h
abbrev is_it : ℕ → ℕ → Event → History → Bool
is_it p k (basic m) h = false
is_it p k (forced m) h = false
is_it p k (sent q) h = eqb (suc (sends h)) k && eqb q p
is_it p k (received q j c) h = false

few_sends : (h : History) (p k : ℕ) → sends h < k → has_send h p k ≡ false
few_sends h p k lt = rw (lt-leb k (sends h) lt, and-false (ltb 0 k))

send_more : (p k : ℕ) (e : Event) (h : History) → has_send (e ∷ h) p k ≡ (is_it p k e h || has_send h p k)
send_more p k (basic m) h = refl
send_more p k (forced m) h = refl
send_more p k (received q j c) h = refl
send_more p k (sent q) h = go (test (eqb (suc (sends h)) k)) (test (leb k (sends h)))
  where
    d : ℕ
    d = destination h k

    go : Test (eqb (suc (sends h)) k) → Test (leb k (sends h))
        → (ltb 0 k && leb k (suc (sends h)) && eqb (cond (eqb k (suc (sends h))) q d) p)
        ≡ ((eqb (suc (sends h)) k && eqb q p) || (ltb 0 k && leb k (sends h) && eqb d p))
    go (passes x) y =
        let z = eqb-true (suc (sends h)) k x in
        rw (x, lt-ltb 0 k (omega arith), le-leb k (suc (sends h)) (omega arith), eq-eqb k (suc (sends h)) (sym z), lt-leb k (sends h) (omega arith), or-false (eqb q p))
    go (fails x) (passes y) =
        let z = eqb-false (suc (sends h)) k x in
        let l = leb-true k (sends h) y in
        rw (x, y, le-leb k (suc (sends h)) (omega arith), ne_eqb k (suc (sends h)) (omega arith))
    go (fails x) (fails y) =
        let z = eqb-false (suc (sends h)) k x in
        let l = leb-false k (sends h) y in
        rw (x, y, lt-leb k (suc (sends h)) (omega arith), and-false (ltb 0 k))

-- what a record's words say
module _ (g : Records) (laid : SendsLaid (word g.bytes.now) g.at g.count) (j : ℕ) (lt : j < g.count) where
  words_say : (p k : ℕ) (e : Read) → meant e ≡ record_of g j → Spells (word g.bytes.now) (g.at + width * j) e
      → is_send p k e ≡ is_it p k (record_of g j) (first_of g j)
  words_say p k (event.Basic m) x s = rw (← x)
  words_say p k (event.Forced m) x s = rw (← x)
  words_say p k (event.Received q b c) x s = rw (← x)
  words_say p k (event.Sent q b m) x s =
      let h = first_of g j in
      let r = numbered_as (word g.bytes.now) g.at j (suc (sends h)) lt (le_refl (suc (sends h))) laid {q = q} {b = b} {m = m} x s in
      rw (← x, r.0)

  -- one record more
  pub sender_next : (p k : ℕ) (e : Read) → meant e ≡ record_of g j → Spells (word g.bytes.now) (g.at + width * j) e
      → has_send (first_of g (j + 1)) p k ≡ (is_send p k e || has_send (first_of g j) p k)
  sender_next p k e x s =
      rw (add-one j) (send_more p k (record_of g j) (first_of g j) ∙ ap (λ (b : Bool). b || has_send (first_of g j) p k) (sym (words_say p k e x s)))

-- before record k - 1 there are less than k sends
pub sender_start : (g : Records) (p k : ℕ) → 0 < k → has_send (first_of g (k - 1)) p k ≡ false
sender_start g p k pos =
    let a = sends_length (first_of g (k - 1)) in
    let b = records_length (word g.bytes.now) g.at (k - 1) in
    few_sends (first_of g (k - 1)) p k (omega arith)

-- ---- in a table

module _ (t : Table) (cut : List Part) (C : Counted (state_of t) (positions cut) (counts cut)) (p : ℕ) where
  abbrev s : State
  s = state_of t

  abbrev P : List ℕ
  P = positions cut

  abbrev o : Event → Bool
  o = orphan s P p

  abbrev from : ℕ
  from = get_or P p 0

  -- ---- the sender

  module _ (q : ℕ) (lq : q < t.n) where
    abbrev there : Part
    there = part_at cut (q % 16)

    pub sender_part : there ≡ part_at cut q
    sender_part = let m = t.laid.3 in ap (part_at cut) (mod-eq_of_lt (omega arith))

    -- where the cut has less than k sends of it
    pub sender_few : (k : ℕ) → there.sends < k → has_send (part s P q) p k ≡ false
    sender_few k lt =
        let m = processes t in
        let a = C.counted q (omega arith) in
        let b = sends_at cut q in
        let z = ap (λ (x : Part). x.sends) sender_part in
        few_sends (part s P q) p k (omega arith)

    module _ (g : Records) (is : held g ≡ history s q) where
      part_is : part s P q ≡ first_of g there.position
      part_is =
          let le = (part_held t cut C q lq g is).0 in
          rw (sender_part, position_at cut q, ← is) (records_upto (word g.bytes.now) g.at (part_at cut q).position g.count le)

      -- send k to p is among as many records as are in the cut, or isn't among at least as many
      pub sender_has : (j k : ℕ) → j ≤ there.position → has_send (first_of g j) p k ≡ true → has_send (part s P q) p k ≡ true
      sender_has j k le e = rw part_is (holds_older (first_older (word g.bytes.now) g.at j there.position le) p k e)

      pub sender_has_not : (j k : ℕ) → there.position ≤ j → has_send (first_of g j) p k ≡ false → has_send (part s P q) p k ≡ false
      sender_has_not j k le e = go (test (has_send (part s P q) p k))
        where
          go : Test (has_send (part s P q) p k) → has_send (part s P q) p k ≡ false
          go (fails x) = x
          go (passes x) =
              let y = holds_older (first_older (word g.bytes.now) g.at there.position j le) p k (rw part_is at x) in
              clash (has_send (first_of g j) p k) y e

  -- ---- the receiver

  module _ (r : Records) (is : held r ≡ history s p) where
    pub search_start : p < t.n → {i : ℕ} → i ≡ (part_at cut p).position → first_after o from (first_of r i) ≡ none
    search_start lt {i} e =
        let a = position_at cut p in
        let b = records_length (word r.bytes.now) r.at i in
        none_within o from (first_of r i) (omega arith)

    module _ (i : ℕ) (lt : i < r.count) {q k c : ℕ} (e : received q k c ≡ record_of r i) where
      older : Older (received q k c ∷ first_of r i) (history s p)
      older = subst (λ (x : Event). Older (x ∷ first_of r i) (history s p)) (sym e)
          (subst (λ (x : History). Older (record_of r i ∷ first_of r i) x) is (first_older (word r.bytes.now) r.at (suc i) r.count lt))

      pub receipt_law : Law t.n t.e p (received q k c) (first_of r i)
      receipt_law = (each_older (Law t.n t.e p) older (lawful t p)).0

      -- its send is in the cut, so that the search goes on
      pub search_on : has_send (part s P q) p k ≡ true → first_after o from (first_of r i) ≡ none → first_after o from (first_of r (i + 1)) ≡ none
      search_on x z = rw (add-one i, ← e, z, x, and-false (leb from (length (first_of r i))))

      -- it isn't, so that this is the first such receipt
      pub search_ends : (part_at cut p).position ≤ i → has_send (part s P q) p k ≡ false → first_after o from (first_of r i) ≡ none
          → 2 ∷ (i + 1) ∷ [] ≡ moved_by (first_after o from (history s p))
      search_ends le x z =
          let n = records_length (word r.bytes.now) r.at i in
          let a = position_at cut p in
          let here : first_after o from (received q k c ∷ first_of r i) ≡ some (suc (length (first_of r i))) = rw (z, x, le-leb from (length (first_of r i)) (omega arith)) in
          rw (after_older o from older here) (ap (λ (m : ℕ). 2 ∷ m ∷ []) (let v : i + 1 ≡ suc (length (first_of r i)) = omega arith in v))

    -- all are gone through
    pub search_none : (i : ℕ) → i ≡ r.count → first_after o from (first_of r i) ≡ none → 2 ∷ 0 ∷ [] ≡ moved_by (first_after o from (history s p))
    search_none i e z = rw (← is, ← e, z)
