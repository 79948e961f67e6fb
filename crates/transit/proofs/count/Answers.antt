use Rattle.std.proofs.Common.{arith, refl}
use mathlib.Core.Path.{ap, ◌∙◌}
use lib.ListN.{length}
use Rattle.transit.proofs.Messages.{left_count, below_all, all_sends, few_sends, below_next}
use Rattle.transit.proofs.count.Goals as goal

pub overflow_add-count : goal.overflow_add-count
overflow_add-count c = let C = c.args.notes.now.cut in
    let s = c.loop-q in
    let next = below_next C c.loop-q-test.true c.cut-q-end.ensures refl (c.note.ensures.0 ∙ s.invariant.0) c.of.ensures.left in
    omega (arith, next.2, s.invariant.1, c.left-count.ensures ∙ left_count s.q 0 c.of.result.now, all_sends C, few_sends C.table)

pub loop-q-preserved : goal.loop-q-preserved
loop-q-preserved c = let s = c.loop-q in
    let next = below_next c.args.notes.now.cut c.loop-q-test.true c.cut-q-end.ensures refl (c.note.ensures.0 ∙ s.invariant.0) c.of.ensures.left in
    let left = c.left-count.ensures ∙ left_count s.q 0 c.of.result.now in
    (c.note.ensures.0 ∙ s.invariant.0, omega (arith, next.1, s.invariant.1, left))

pub returns : goal.returns
returns c = let C = c.args.notes.now.cut in
    let s = c.loop-q in
    let all = below_all C c.loop-q-test.false s.auto.q-end c.cut-q-end.ensures refl in
    let few = all_sends C in
    let sends = few_sends C.table in
    (s.invariant.1 ∙ ap length all, omega (arith, ap length all, s.invariant.1), s.invariant.0)
