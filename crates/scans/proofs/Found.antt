-- What is found among a process's records.
use mathlib.Core.Path.{◌≡◌, refl, sym, ap, subst, ◌∙◌}
use mathlib.Core.Logic.{◌≢◌}
use mathlib.Core.Bool.{Bool, true, false, cond, ◌&&◌, ◌||◌, false≢true}
use mathlib.Core.List.{[], ◌∷◌}
use Prim.Native.Nat.{ℕ, suc, ◌+◌, ◌*◌, ◌≤◌, ◌<◌}
use native.Mathlib.Numerals.{add-one}
use native.Mathlib.Omega.{arith}
use lib.Dec.{eqb, leb, ltb}
use lib.ListN.{length}
use borrow.Author.Tests.{lt-ltb, le-leb, lt-leb, eqb-true}
use mathlib.Core.Option.{none, some}
use Rattle.std.specs.Prelude.{Some, None}
use Rattle.rules.specs.Records.{Event, basic, forced, sent, received, History, number, sends, has_receipt}
use Rattle.rules.specs.Table.{width, event_at, records_at}
use Rattle.rules.specs.Lines.{at_least, or_else, numbered}
use Rattle.rules.specs.FailureLine.{any, before}
use Rattle.events.specs.declared.Event.TheVariants as event
use Rattle.events.specs.Events.{Spells, first_index}
use Rattle.tables.specs.Sections.{SendsLaid}
use Rattle.scans.specs.Receipts.{is_receipt}
use Rattle.scans.specs.Sends.{there, Answers}
use Rattle.basics.proofs.Older.{Older}
use Rattle.basics.proofs.Booleans.{Test, passes, fails, test, false_right}
use Rattle.records.proofs.Cuts.{before_all}
use Rattle.records.proofs.Histories.{sends_older, of_send_at, carried_at}
use Rattle.tables.proofs.WellLaid.{records_length}
use Rattle.tables.proofs.Scans.{event as of_event, first_older, sends_at_most}

-- ---- the position of the first checkpoint with number N or more

module _ (N : ℕ) (pos : N ≢ 0) where
  numbered_any : (h : History) → numbered N h ≡ cond (any (at_least N) h) (some (suc (length (before (at_least N) h)))) none
  numbered_any [] = rw (lt-leb N 0 (omega arith))
  numbered_any (e ∷ h) = rw (numbered_any h) (go (at_least N e) (test (any (at_least N) h)))
    where
      o : Event → Bool
      o = at_least N

      go : (x : Bool) → Test (any o h)
          → or_else (cond (any o h) (some (suc (length (before o h)))) none) (cond x (some (suc (length h))) none)
          ≡ cond (x || any o h) (some (suc (length (cond (x || any o h) (before o h) (e ∷ h))))) none
      go true (passes y) = rw y
      go false (passes y) = rw y
      go true (fails y) = rw (y, before_all o h y)
      go false (fails y) = rw y

  -- what the search for it says
  module _ (h : History) where
    pub position_found : {i : ℕ} → Some i ≡ first_index (at_least N) h → numbered N h ≡ some (i + 1)
    position_found {i} e = go (test (any (at_least N) h))
      where
        go : Test (any (at_least N) h) → numbered N h ≡ some (i + 1)
        go (passes t) =
            let f = rw t at e in
            numbered_any h ∙ rw t (ap some (let z : length (before (at_least N) h) ≡ i = cc in ap suc z ∙ sym (add-one i)))
        go (fails t) = let f = rw t at e in absurd (let z : ⊥ = cc in z)

    pub position_none : None ≡ first_index (at_least N) h → numbered N h ≡ none
    position_none e = go (test (any (at_least N) h))
      where
        go : Test (any (at_least N) h) → numbered N h ≡ none
        go (passes t) = let f = rw t at e in absurd (let z : ⊥ = cc in z)
        go (fails t) = numbered_any h ∙ rw t

-- ---- a receipt of (q, k)

pub any_receipt : (q k : ℕ) (h : History) → any (is_receipt q k) h ≡ has_receipt h q k
any_receipt q k [] = refl
any_receipt q k (basic m ∷ h) = any_receipt q k h
any_receipt q k (forced m ∷ h) = any_receipt q k h
any_receipt q k (sent d ∷ h) = any_receipt q k h
any_receipt q k (received r j c ∷ h) = ap (λ (b : Bool). (eqb r q && eqb j k) || b) (any_receipt q k h)

-- ---- send k

-- there is none
pub send_none : (h : History) (k : ℕ) → sends h < k → there k h ≡ false
send_none h k l = false_right (ltb 0 k) (leb k (sends h)) (lt-leb k (sends h) l)

-- the first i records have at most i sends
pub send_later : (w : ℕ → ℕ) (at i k : ℕ) → i < k → sends (records_at w at i) < k
send_later w at i k l = let m = sends_at_most w at i in omega arith

-- nor are there more among fewer
pub send_fewer : (w : ℕ → ℕ) (at : ℕ) {i c k : ℕ} → c ≤ i → sends (records_at w at i) < k → sends (records_at w at c) < k
send_fewer w at {i} {c} l few = let m = sends_older (first_older w at c i l) in omega arith

abbrev is_sent : Event → Bool
is_sent (basic m) = false
is_sent (forced m) = false
is_sent (sent q) = true
is_sent (received q k c) = false

-- a send's kind
sent_kind : (w : ℕ → ℕ) (i : ℕ) {q : ℕ} → sent q ≡ event_at w i → w i ≡ 3
sent_kind w i e = go (test (eqb (w i) 4)) (test (eqb (w i) 3)) (ap is_sent e ∙ of_event is_sent w i refl)
  where
    go : Test (eqb (w i) 4) → Test (eqb (w i) 3) → true ≡ cond (eqb (w i) 4) false (cond (eqb (w i) 3) true false) → w i ≡ 3
    go (passes x) y z = absurd (false≢true (sym (rw x at z)))
    go (fails x) (passes y) z = eqb-true (w i) 3 y
    go (fails x) (fails y) z = absurd (false≢true (sym (rw (x, y) at z)))

-- record i, before which there are less than k sends
module _ (w : ℕ → ℕ) (at i k : ℕ) {c : ℕ} (l : i < c) (few : sends (records_at w at i) < k) (laid : SendsLaid w at c) where
  abbrev h : History
  h = records_at w at i

  abbrev here : ℕ
  here = at + width * i

  -- a send's number and what it carries, by its words
  pub numbered_as : {q b m : ℕ} → sent q ≡ event_at w here → Spells w here (event.Sent q b m) → (b ≡ suc (sends h)) × (m ≡ number h)
  numbered_as e r = let L = laid i l (sent_kind w here e) in (r.0 ∙ L.0, r.1 ∙ L.1)

  pub send_found : {q b m : ℕ} → sent q ≡ event_at w here → Spells w here (event.Sent q b m) → b ≡ k
      → Answers k (records_at w at c) (Some (record { carried = m; to = q; place = i + 1 }))
  send_found {q} {b} {m} e s z =
      let r = numbered_as {q = q} {b = b} {m = m} e s in
      let rank : k ≡ suc (sends h) = sym z ∙ r.0 in
      let o = subst (λ (x : Event). Older (x ∷ h) (records_at w at c)) (sym e) (first_older w at (suc i) c (omega arith)) in
      let few : suc (sends h) ≤ sends (records_at w at c) = sends_older o in (
        rw (lt-ltb 0 k (omega arith), le-leb k (sends (records_at w at c)) (omega arith)),
        r.1 ∙ sym (carried_at o rank),
        sym (of_send_at (λ g q. q) o rank),
        add-one i ∙ sym (of_send_at (λ g q. suc (length g)) o rank ∙ ap suc (records_length w at i)),
      )
