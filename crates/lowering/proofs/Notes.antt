-- The test by what is noted finds the receipts that went astray.
use mathlib.Core.Path.{◌≡◌, refl, ap, ◌∙◌}
use mathlib.Core.Bool.{Bool, false, not, ◌&&◌}
use mathlib.Core.List.{List, [], ◌∷◌}
use Prim.Native.Nat.{ℕ, ◌+◌, ◌≤◌, ◌<◌, ◌%◌, zero-le}
use native.Mathlib.Nat.{mod-eq_of_lt}
use native.Mathlib.Omega.{arith}
use native.Mathlib.Decide.{dec_lt}
use lib.Dec.{ltb, leb}
use lib.ListN.{length, get_or, set}
use borrow.Author.Tests.{lt-ltb, le-ltb, le-leb, lt-leb, leb-true}
use Rattle.std.proofs.Math.ListN.{get_or-map}
use Rattle.rules.specs.Records.{Event, basic, forced, sent, received, History, State, history, sends, destination, has_send}
use Rattle.rules.specs.Lines.{upto, part}
use Rattle.rules.specs.FailureLine.{any, before, lowered}
use Rattle.basics.proofs.Booleans.{Test, passes, fails, test}
use Rattle.basics.proofs.Older.{same}
use Rattle.records.proofs.Histories.{Each, each_older}
use Rattle.records.proofs.Cuts.{upto_older, upto_is_older}
use Rattle.tables.proofs.Laid.{Law}
use Rattle.events.specs.declared.Records.{Records}
use Rattle.events.specs.Events.{held}
use Rattle.layout.specs.declared.Table.{Table}
use Rattle.layout.specs.Tables.{state_of}
use Rattle.layout.proofs.Sections.{lawful}
use Rattle.cuts.specs.declared.Part.{Part}
use Rattle.cuts.specs.declared.Span.{Span}
use Rattle.cuts.specs.Parts.{positions, counts, part_at}
use Rattle.cuts.specs.Notes.{span_of, place_in}
use Rattle.cuts.specs.Tests.{other_noted, noted_astray}
use Rattle.notes.specs.declared.Senders.{Senders}
use Rattle.notes.specs.Noted.{NotedAt}
use Rattle.tops.specs.Tops.{Counted}
use Rattle.lowering.specs.Lowering.{ends, astray}
use Rattle.lowering.proofs.Cuts.{astray_fair}
use Rattle.lowering.proofs.Steps.{Step, lowered_step}

before_same : (o o' : Event → Bool) (P : Event → History → Type 0) → ((e : Event) (h : History) → P e h → o e ≡ o' e) → (h : History)
    → Each P h → (any o h ≡ any o' h) × (before o h ≡ before o' h)
before_same o o' P f [] r = (refl, refl)
before_same o o' P f (e ∷ h) r =
    let b = before_same o o' P f h r.1 in
    let a = f e h r.0 in
    (rw (a, b.0), rw (a, b.0, b.1))

-- where all records have happened, a process's part is all it has
pub part_all : (t : Table) (q : ℕ) → part (state_of t) (ends t) q ≡ history (state_of t) q
part_all t q = let s = state_of t in
    ap (λ (i : ℕ). upto i (history s q)) (get_or-map length s q []) ∙ upto_older same

module _ (t : Table) (g : Senders) (to : List ℕ) (N : NotedAt t (ends t) 0 g to) (p : ℕ) where
  abbrev s : State
  s = state_of t

  module _ (q k : ℕ) (pos : 0 < k) where
    abbrev h : History
    h = history s q

    abbrev span : Span
    span = span_of g.spans q

    -- its sends are noted, or none
    of_noted : g.from ≤ q → q < g.next → other_noted p to (place_in span k) ≡ (leb k (sends h) && not (has_send h p k))
    of_noted a b = go (test (leb k (sends h)))
      where
        count : span.count ≡ sends h
        count = N.group.count q a b ∙ ap sends (part_all t q)

        note : k ≤ sends h → get_or to (span.start + k) 0 ≡ destination h k
        note le =
            N.notes q k a b pos (rw (part_all t q) le) ∙ rw (le-ltb (destination (part s (ends t) q) k) 0 zero-le)
            (ap (λ (x : History). destination x k) (part_all t q))

        go : Test (leb k (sends h)) → other_noted p to (place_in span k) ≡ (leb k (sends h) && not (has_send h p k))
        go (fails x) = rw (count, x) refl
        go (passes x) = rw (count, x, note (leb-true k (sends h) x), lt-ltb 0 k pos) refl

    of_none : span.count ≡ 0 → other_noted p to (place_in span k) ≡ false
    of_none z = rw (z, lt-leb k 0 pos) refl

    of_any : other_noted p to (place_in span k) ≡ (leb g.from q && ltb q g.next && (leb k (sends h) && not (has_send h p k)))
    of_any = go (dec_lt q g.from) (dec_lt q g.next)
      where
        go : Dec (q < g.from) → Dec (q < g.next)
            → other_noted p to (place_in span k) ≡ (leb g.from q && ltb q g.next && (leb k (sends h) && not (has_send h p k)))
        go (yes l) x = rw (lt-leb g.from q l) (of_none (N.group.before q l).1)
        go (no l) (yes x) = rw (le-leb g.from q (omega arith), lt-ltb q g.next x) (of_noted (omega arith) x)
        go (no l) (no x) = rw (le-leb g.from q (omega arith), le-ltb q g.next (omega arith)) (of_none (N.group.behind q (omega arith)).1)

  test_same : (e : Event) (h : History) → Law t.n t.e p e h → noted_astray g.spans p to e ≡ astray s g.from g.next p e
  test_same (basic m) h law = refl
  test_same (forced m) h law = refl
  test_same (sent q) h law = refl
  test_same (received q k x) h law =
      let few = t.laid.3 in
      let l = law.0 in
      let small : q % 16 ≡ q = mod-eq_of_lt (omega arith) in
      rw small (of_any q k law.2)

  -- what the scan finds is the first receipt that went astray
  pub astray_step : (cut : List Part) → Counted s (positions cut) (counts cut) → p < t.n → (r : Records) → held r ≡ history s p → (x : Part)
      → (x.position ≡ lowered (noted_astray g.spans p to) (held r) (part_at cut p).position) × (x.sends ≡ sends (upto x.position (held r)))
      → Step s (positions cut) (counts cut) (positions (set cut p x)) (counts (set cut p x)) t.n p (astray s g.from g.next p)
      (ltb x.position (part_at cut p).position)
  astray_step cut C lt r is x (a, b) =
      let i = (part_at cut p).position in
      let legal = each_older (Law t.n t.e p) (upto_is_older i (history s p)) (lawful t p) in
      let B = before_same (noted_astray g.spans p to) (astray s g.from g.next p) (Law t.n t.e p) test_same (upto i (history s p)) legal in
      let found : lowered (noted_astray g.spans p to) (held r) i ≡ lowered (astray s g.from g.next p) (held r) i = rw is (rw (B.0, B.1) refl) in
      lowered_step t cut C p lt r is (astray s g.from g.next p) (astray_fair s (positions cut) g.from g.next p) x (a ∙ found, b)
