use Rattle.std.proofs.Common.{arith, refl, ap, ◌≡◌, ◌||◌, ◌+◌, ◌<◌}
use Rattle.rules.specs.Records.{has_send}
use Rattle.events.specs.Events.{first_of}
use Rattle.lowering.proofs.Steps.{part_held}
use Rattle.grounds.specs.Sends.{is_send}
use Rattle.grounds.proofs.Orphans.{sender_start, sender_next, sender_part, sender_few, sender_has, sender_has_not, search_start, receipt_law, search_on, search_ends, search_none}
use Rattle.grounds.proofs.first_orphan.Goals as goal
use Rattle.grounds.proofs.first_orphan.Goals.{In-Received, After-get-in-loop-j, then-k-from+else-loop-j-test, else-k-from}

pub search-init : goal.search-init
search-init c = let a = c.args in
    (refl, search_start a.table.now a.cut.now c.requires.1 a.p c.records-records.result c.records-records.ensures.held c.requires.0 c.from-i.ensures)

-- the receipt names a process of the table and a send from 1 on
names : (c : In-Received) → (c.in-Received.from < c.args.table.now.n) × (0 < c.in-Received.k)
names c = let a = c.args in
    let L = receipt_law a.table.now a.cut.now c.requires.1 a.p c.records-records.result c.records-records.ensures.held c.search.i c.search-test.true c.in-Received.ensures.event in
    (L.0, L.2)

pub records-sender-requires : goal.records-sender-requires
records-sender-requires c = (names (goal.at.records-sender-requires c).In-Received).0

pub overflow_step-j : goal.overflow_step-j
overflow_step-j c = (names (goal.at.overflow_step-j c).In-Received).1

pub loop-j-init : goal.loop-j-init
loop-j-init c = let a = c.args in
    let R = c.in-Received in
    let g = c.records-sender in
    let N = names (goal.at.loop-j-init c).In-Received in
    let w = (part_held a.table.now a.cut.now c.requires.1 R.from N.0 g.result g.ensures.held).0 in
    let e = sender_part a.table.now a.cut.now c.requires.1 a.p R.from N.0 in
    (omega (arith, c.from-j-end.ensures, ap (λ x. x.position) e), sender_start g.result a.p R.k N.1)

-- one more of the sender's records
next : (c : After-get-in-loop-j) → has_send (first_of c.records-sender.result (c.loop-j.j + 1)) c.args.p c.in-Received.k
    ≡ (is_send c.args.p c.in-Received.k c.get-in-loop-j.result || has_send (first_of c.records-sender.result c.loop-j.j) c.args.p c.in-Received.k)
next c = let g = c.records-sender in
    let e = c.get-in-loop-j in
    let l = c.loop-j-test.true in
    let m = c.loop-j.invariant.0 in
    sender_next g.result g.ensures.sends c.loop-j.j (omega arith) c.args.p c.in-Received.k e.result e.ensures.event e.ensures.sent

pub search-preserved : goal.search-preserved
search-preserved c = let a = c.args in
    let r = c.records-records in
    let R = c.in-Received in
    let g = c.records-sender in
    let T = a.table.now in
    let at = goal.at.search-preserved c in
    let l = c.loop-j-test.true in
    let has = sender_has T a.cut.now c.requires.1 a.p R.from (names at.In-Received).0 g.result g.ensures.held (c.loop-j.j + 1) R.k (omega (arith, c.from-j-end.ensures)) (rw (next at.After-get-in-loop-j, ← c.is_send.ensures, c.if-is_send.true)) in
    (c.search.invariant.0, search_on T a.cut.now c.requires.1 a.p r.result r.ensures.held c.search.i c.search-test.true R.ensures.event has c.search.invariant.1)

pub loop-j-preserved : goal.loop-j-preserved
loop-j-preserved c = let more = next (goal.at.loop-j-preserved c).After-get-in-loop-j in
    (c.loop-j.invariant.0, rw (more, ← c.is_send.ensures, c.if-is_send.false) c.loop-j.invariant.1)

pub returns-after-search : goal.returns-after-search
returns-after-search c = let a = c.args in
    let r = c.records-records in
    let l = (part_held a.table.now a.cut.now c.requires.1 a.p c.requires.0 r.result r.ensures.held).0 in
    rw c.search.invariant.0
    (search_none a.table.now a.cut.now c.requires.1 a.p r.result r.ensures.held c.search.i (omega (arith, c.from-i.ensures)) c.search.invariant.1)

pub returns-after-k-from : goal.returns-after-k-from
returns-after-k-from c = let a = c.args in
    let r = c.records-records in
    let R = c.in-Received in
    let T = a.table.now in
    let lt = (names (goal.at.returns-after-k-from c).In-Received).0 in
    let ends = search_ends T a.cut.now c.requires.1 a.p r.result r.ensures.held c.search.i c.search-test.true R.ensures.event (omega (arith, c.search.auto.i, c.from-i.ensures)) in
    elim c.if-k-from.branch [
      | then-k-from+else-loop-j-test w ↦
          let g = w.records-sender in
          ends (sender_has_not T a.cut.now c.requires.1 a.p R.from lt g.result g.ensures.held w.loop-j.j R.k (omega (arith, w.from-j-end.ensures, w.loop-j-test.false)) w.loop-j.invariant.1) c.search.invariant.1
      | else-k-from w ↦
          ends (sender_few T a.cut.now c.requires.1 a.p R.from lt R.k (omega (arith, w.if-k-from.false, c.from.ensures))) c.search.invariant.1
    ]
