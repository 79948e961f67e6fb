-- What is left of the notes are the messages in transit, in their order.
use mathlib.Core.Path.{◌≡◌, refl, sym, ap, ◌∙◌}
use mathlib.Core.Bool.{Bool, true, false, cond}
use mathlib.Core.List.{List, [], ◌∷◌, ◌++◌, append-nil, append_assoc}
use Prim.Native.Nat.{ℕ, zero, suc, ◌+◌, ◌-◌, ◌≤◌, ◌<◌}
use native.Mathlib.Nat.{le_refl}
use native.Mathlib.Omega.{arith}
use lib.ListN.{length, get_or, take, drop}
use lib.Seq.{take_all}
use Rattle.std.proofs.Math.Seq.{take-suc}
use Rattle.std.proofs.lemmas.List.{get_or-take, get_or-drop, length-take-le, length-drop}
use borrow.Author.Tests.{lt-ltb}
use Rattle.rules.specs.Records.{History, State, sends, destination}
use Rattle.rules.specs.Lines.{part}
use Rattle.rules.specs.Resend.{Message, message, got, unless_got, transit_of}
use Rattle.records.proofs.Histories.{each_older, send_of}
use Rattle.tables.proofs.Laid.{Legal, Law}
use Rattle.cuts.specs.declared.Span.{Span}
use Rattle.cuts.specs.Notes.{span_of}
use Rattle.notes.specs.declared.cut.Cut.{Cut}
use Rattle.notes.specs.declared.Senders.{Senders}
use Rattle.notes.specs.Noted.{state_at, places, Noted, left_one, left_in, messages_of, Noting, Has}
use Rattle.notes.proofs.Places.{part_legal}
use Rattle.notes.proofs.Groups.{group_past}

pub left_in_append : (q k : ℕ) (to more : List ℕ) → left_in q k (to ++ more) ≡ left_in q k to ++ left_in q (k + length to) more
left_in_append q k [] more = ap (λ (i : ℕ). left_in q i more) (let e : k ≡ k + 0 = omega arith in e)
left_in_append q k (d ∷ to) more =
    let e : suc k + length to ≡ k + suc (length to) = omega arith in
    ap (λ (ms : List Message). left_one q (suc k) d ++ ms) (left_in_append q (suc k) to more ∙ ap (λ (i : ℕ). left_in q (suc k) to ++ left_in q i more) e)
    ∙ sym (append_assoc (left_one q (suc k) d) (left_in q (suc k) to) (left_in q (k + suc (length to)) more))

-- one note more
pub left_in_next : (q : ℕ) (to : List ℕ) (k : ℕ) → k < length to → left_in q 0 (take (suc k) to) ≡ left_in q 0 (take k to) ++ left_one q (suc k) (get_or to k 0)
left_in_next q to k lt =
    let l : 0 + length (take k to) ≡ k = (let x = length-take-le k to (omega arith) in omega arith) in
    ap (left_in q 0) (take-suc to k 0 lt) ∙ left_in_append q 0 (take k to) (get_or to k 0 ∷ [])
    ∙ rw l (ap (λ (ms : List Message). left_in q 0 (take k to) ++ ms) (append-nil (left_one q (suc k) (get_or to k 0))))

-- a send of a lawful history goes to a process below n
destination_below : (n E p : ℕ) (h : History) → Legal n E p h → (k : ℕ) → 0 < k → k ≤ sends h → destination h k < n
destination_below n E p h legal k pos le = (each_older (Law n E p) (send_of h k pos le).there legal).0.0

module _ (c : Cut) (g : Senders) (to : List ℕ) (N : Noted c c.table.n g to) {v : Noting} (is : record { cut = c; from = g.from; next = g.next } ≡ v)
    (q : ℕ) (has : Has v q) where
  from : g.from ≤ q
  from = let e = ap (λ (x : Noting). x.from) is in let h = has.0 in omega arith

  lt : q < g.next
  lt = let e = ap (λ (x : Noting). x.next) is in let h = has.1 in omega arith

  abbrev s : State
  s = state_at c

  abbrev cut : List ℕ
  cut = places c

  abbrev span : Span
  span = span_of g.spans q

  count : span.count ≡ sends (part s cut q)
  count = N.group.count q from lt

  pub in_room : (span.start + span.count < length to) × (q < 16)
  in_room =
      let past = group_past s cut g N.group q from lt in
      let room = N.room in
      let most = N.most in
      let few = c.table.laid.3 in
      let b = lt in
      let e = count in
      (omega arith, omega arith)

  -- the note of its send k + 1 leaves that message, unless its receiver has got it
  one : (k : ℕ) → k < sends (part s cut q) → left_one q (suc k) (get_or to (span.start + suc k) 0) ≡ unless_got s cut q (suc k)
  one k le = rw note (go (got s cut q (suc k)))
    where
      d : ℕ
      d = destination (part s cut q) (suc k)

      below : d < c.table.n
      below = destination_below c.table.n c.table.e q (part s cut q) (part_legal c q) (suc k) (omega arith) le

      note : get_or to (span.start + suc k) 0 ≡ cond (got s cut q (suc k)) 16 d
      note = N.notes q (suc k) from lt (omega arith) le ∙ rw (lt-ltb d c.table.n below) refl

      go : (b : Bool) → left_one q (suc k) (cond b 16 d) ≡ cond b [] (message q (suc k) d ∷ [])
      go true = refl
      go false = let l = below in let few = c.table.laid.3 in rw (lt-ltb d 16 (omega arith)) refl

  -- its notes
  module _ (notes : List ℕ) (long : length notes ≡ span.count) (at : (k : ℕ) → k < span.count → get_or notes k 0 ≡ get_or to (span.start + suc k) 0) where
    left_first : (k : ℕ) → k ≤ span.count → left_in q 0 (take k notes) ≡ transit_of s cut q k
    left_first zero le = refl
    left_first (suc k) le =
        let x = count in
        left_in_next q notes k (omega arith)
        ∙ rw (left_first k (omega arith), at k (omega arith)) (ap (λ (ms : List Message). transit_of s cut q k ++ ms) (one k (omega arith)))

    left_all : left_in q 0 notes ≡ messages_of c q
    left_all = ap (left_in q 0) (sym (take_all span.count notes (omega arith))) ∙ left_first span.count (le_refl span.count) ∙ ap (transit_of s cut q) count

  pub notes_left : {a b : ℕ} → a ≡ span.start → b ≡ span.count → left_in q 0 (take (a + 1 + b - (a + 1)) (drop (a + 1) to)) ≡ messages_of v.cut q
  notes_left {a} {b} x y =
      let room = in_room.0 in
      let d = length-drop (a + 1) to in
      let n : a + 1 + b - (a + 1) ≡ span.count = omega arith in
      (left_all (take (a + 1 + b - (a + 1)) (drop (a + 1) to)) (length-take-le (a + 1 + b - (a + 1)) (drop (a + 1) to) (omega arith) ∙ n)
      (λ k l. get_or-take (a + 1 + b - (a + 1)) (drop (a + 1) to) k 0 (omega arith) ∙ get_or-drop (a + 1) to k 0
      ∙ ap (λ (i : ℕ). get_or to i 0) (let e : a + 1 + k ≡ span.start + suc k = omega arith in e)))
      ∙ ap (λ (x : Noting). messages_of x.cut q) is
