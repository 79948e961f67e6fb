use Rattle.std.proofs.Common.{arith, refl}
use mathlib.Core.Path.{sym, ap, ◌∙◌}
use lib.ListN.{length}
use Rattle.xdr.specs.Words.{put_words}
use Rattle.xdr.proofs.Puts.{all_length}
use Rattle.rules.specs.Resend.{transit_below, messages_words}
use Rattle.notes.specs.Noted.{state_at, places, messages_of}
use Rattle.transit.proofs.Numbers.{put_more}
use Rattle.transit.proofs.Messages.{below_all, all_sends, few_sends, below_next}
use Rattle.transit.proofs.list.Goals as goal

pub loop-q-init : goal.loop-q-init
unfolding put_words
loop-q-init c = (refl, refl, refl, refl)

pub list_process-count-requires : goal.list_process-count-requires
list_process-count-requires c = let C = c.args.notes.now.cut in
    let s = c.loop-q in
    let same = s.invariant.0 in
    let next = below_next C c.loop-q-test.true c.cut-q-end.ensures refl same refl in (
      omega (arith, ap (λ d. d.table.n) same, ap (λ d. d.table.n) c.cut-q-end.ensures, c.loop-q-test.true),
      omega (arith, next.2, s.invariant.1, s.invariant.3, c.requires),
    )

pub loop-q-preserved : goal.loop-q-preserved
loop-q-preserved c = let a = c.args in
    let C = a.notes.now.cut in
    let s = c.loop-q in
    let E = c.list_process-count.ensures in
    let next = below_next C c.loop-q-test.true c.cut-q-end.ensures refl s.invariant.0 refl in
    let more = put_more a.area.now 1 (transit_below (state_at C) (places C) s.q) (messages_of s.notes.cut s.q) (omega (arith, s.invariant.1)) s.invariant.2 E.text in (
      E.cut ∙ s.invariant.0,
      omega (arith, next.1, s.invariant.1, E.count),
      more ∙ ap (λ ms. put_words a.area.now 1 (messages_words ms)) (sym next.0),
      ap length E.text ∙ all_length s.area _ _ ∙ s.invariant.3,
    )

pub returns : goal.returns
returns c = let C = c.args.notes.now.cut in
    let s = c.loop-q in
    let all = below_all C c.loop-q-test.false s.auto.q-end c.cut-q-end.ensures refl in
    (s.invariant.1 ∙ ap length all, omega (arith, ap length all, s.invariant.1, all_sends C, few_sends C.table), s.invariant.2 ∙ ap (λ ms. put_words c.args.area.now 1 (messages_words ms)) all)
