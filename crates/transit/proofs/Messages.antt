-- The messages in transit, sender by sender.
use mathlib.Core.Path.{◌≡◌, refl, sym, ap, ◌∙◌}
use mathlib.Core.Bool.{Bool, true, false, cond}
use mathlib.Core.List.{List, [], ◌∷◌, ◌++◌, append-nil}
use Prim.Native.Nat.{ℕ, suc, ◌+◌, ◌-◌, ◌≤◌, ◌<◌}
use native.Mathlib.Numerals.{add-one}
use native.Mathlib.Omega.{arith}
use lib.ListN.{length, length-append, get_or, take, drop}
use borrow.Author.Tests.{lt-ltb, le-ltb}
use Rattle.std.proofs.lemmas.List.{take-append-drop}
use Rattle.std.proofs.lemmas.List.Sums.{sum_by-cons}
use Rattle.std.specs.List.{count_by}
use Rattle.rules.specs.Records.{State, history, sends}
use Rattle.rules.specs.Resend.{Message, message, transit_below, in_transit}
use Rattle.records.proofs.Histories.{sends_older}
use Rattle.records.proofs.Cuts.{upto_is_older}
use Rattle.tables.proofs.Ranges.{product}
use Rattle.layout.specs.declared.Table.{Table}
use Rattle.layout.specs.Tables.{state_of}
use Rattle.layout.proofs.Sections.{processes}
use Rattle.notes.specs.declared.cut.Cut.{Cut}
use Rattle.notes.specs.Noted.{state_at, places, is_left, left_one, left_in, sent_by, messages_of}
use Rattle.notes.proofs.Places.{sends_short}
use Rattle.notes.proofs.Messages.{left_in_append, left_in_next}
use Rattle.basics.proofs.Sums.{sum_most}
use Rattle.transit.specs.Transit.{transit_at, sends_below}
use Rattle.transit.proofs.Numbers.{transit_sends, below_mono}

-- ---- the notes of one sender

pub left_count : (q k : ℕ) (to : List ℕ) → count_by is_left to ≡ length (left_in q k to)
left_count q k [] = refl
left_count q k (d ∷ to) =
    let r = left_count q (suc k) to in
    let s = sum_by-cons (λ (x : ℕ). cond (is_left x) 1 0) d to in
    let l = length-append (left_one q (suc k) d) (left_in q (suc k) to) in
    let o = one (is_left d) in
    omega arith
  where
    one : (b : Bool) → length (cond b (message q (suc k) d ∷ []) []) ≡ cond b 1 0
    one true = refl
    one false = refl

module _ (q : ℕ) (to : List ℕ) (k : ℕ) (lt : k < length to) where
  next : left_in q 0 (take (k + 1) to) ≡ left_in q 0 (take k to) ++ left_one q (k + 1) (get_or to k 0)
  next = let e = add-one k in rw e (left_in_next q to k lt)

  -- a note that is left is a message more, for which there is room
  pub one_left : {d : ℕ} → d ≡ get_or to k 0 → get_or to k 0 < 16 → (left_in q 0 (take (k + 1) to) ≡ left_in q 0 (take k to) ++ (message q (k + 1) d ∷ []))
      × (length (left_in q 0 (take (k + 1) to)) ≡ length (left_in q 0 (take k to)) + 1)
      × (length (left_in q 0 (take k to)) + 1 ≤ length (left_in q 0 to))
  one_left {d} x l =
      let n : left_in q 0 (take (k + 1) to) ≡ left_in q 0 (take k to) ++ (message q (k + 1) d ∷ []) =
      next ∙ rw (lt-ltb (get_or to k 0) 16 l, x) refl in
      let a = ap length n ∙ length-append (left_in q 0 (take k to)) (message q (k + 1) d ∷ []) in
      let b = ap (λ (x : List ℕ). length (left_in q 0 x)) (take-append-drop (k + 1) to) in
      let c = ap length (left_in_append q 0 (take (k + 1) to) (drop (k + 1) to)) in
      let e = length-append (left_in q 0 (take (k + 1) to)) (left_in q (0 + length (take (k + 1) to)) (drop (k + 1) to)) in
      (n, omega arith, omega arith)

  pub one_struck : 16 ≤ get_or to k 0 → left_in q 0 (take (k + 1) to) ≡ left_in q 0 (take k to)
  one_struck l = next ∙ rw (le-ltb (get_or to k 0) 16 l) (append-nil (left_in q 0 (take k to)))

-- ---- all senders

pub few_sends : (t : Table) → sends_below (state_of t) t.n ≤ 16384
few_sends t =
    let m = sum_most (λ q. sends (history (state_of t) q)) t.e t.n (λ q lt. sends_short t q) in
    let k = product t.n t.e t.laid.3 t.laid.4 in
    omega arith

module _ (c : Cut) where
  abbrev s : State
  s = state_at c

  abbrev cut : List ℕ
  cut = places c

  all_below : transit_below s cut c.table.n ≡ transit_at c
  unfolding in_transit
  all_below = ap (transit_below s cut) (sym (processes c.table))

  pub below_all : {q n : ℕ} → n ≤ q → q ≤ n → {d : Cut} → d ≡ c → n ≡ d.table.n → transit_below s cut q ≡ transit_at c
  below_all {q} {n} a b x y = let e : q ≡ c.table.n = (let z = ap (λ (d : Cut). d.table.n) x in omega arith) in ap (transit_below s cut) e ∙ all_below

  pub all_sends : length (transit_at c) ≤ sends_below s c.table.n
  all_sends = let a = ap length all_below in let m = transit_sends s cut c.table.n in omega arith

  pub few_sent : (q : ℕ) → sent_by c q ≤ 1024
  few_sent q =
      let a = sends_older (upto_is_older (get_or cut q 0) (history s q)) in
      let b = sends_short c.table q in
      let f = c.table.laid.4 in
      omega arith

  -- with the next sender's
  pub below_next : {q n : ℕ} → q < n → {d : Cut} → d ≡ c → n ≡ d.table.n → {e : Cut} → e ≡ c → {ms : List Message} → ms ≡ messages_of e q
      → (transit_below s cut (q + 1) ≡ transit_below s cut q ++ ms)
      × (length (transit_below s cut (q + 1)) ≡ length (transit_below s cut q) + length ms)
      × (length (transit_below s cut q) + length ms ≤ length (transit_at c))
  below_next {q} {n} less x y z w =
      let lt : q < c.table.n = (let b = ap (λ (d : Cut). d.table.n) x in omega arith) in
      let v = w ∙ ap (λ (d : Cut). messages_of d q) z in
      let i : suc q + (c.table.n - suc q) ≡ c.table.n = omega arith in
      let m = below_mono s cut (suc q) (c.table.n - suc q) in
      let f = ap (λ (x : ℕ). length (transit_below s cut x)) i in
      let a = ap length all_below in
      let l = length-append (transit_below s cut q) (messages_of c q) in
      let j = ap length v in
      let e = ap (λ (x : ℕ). length (transit_below s cut x)) (add-one q) in
      (ap (transit_below s cut) (add-one q) ∙ ap (λ (ms : List Message). transit_below s cut q ++ ms) (sym v), omega arith, omega arith)
