use Rattle.std.proofs.Common.{arith, refl, [], ◌∷◌}
use mathlib.Core.Path.{sym, ap, ◌∙◌}
use Prim.Native.Nat.{◌+◌, ◌*◌}
use lib.ListN.{length, take}
use Rattle.xdr.specs.Words.{put_words}
use Rattle.xdr.proofs.Puts.{all_length}
use Rattle.rules.specs.Resend.{message, messages_words}
use Rattle.notes.specs.Noted.{left_in}
use Rattle.transit.proofs.Numbers.{put_more}
use Rattle.transit.proofs.Messages.{one_left, one_struck}
use Rattle.transit.proofs.list_sender.Goals.{then-d-lt16, else-d-lt16}
use Rattle.transit.proofs.list_sender.Goals as goal

pub loop-i-init : goal.loop-i-init
unfolding put_words
loop-i-init c = (omega arith, refl, refl)

pub overflow_mul-count : goal.overflow_mul-count
overflow_mul-count c = let s = c.loop-i in
    let one = one_left c.args.q c.args.notes.now s.i c.loop-i-test.true refl c.if-d-lt16.true in
    omega (arith, one.2, s.invariant.0, c.requires.2)

pub overflow_add-count : goal.overflow_add-count
overflow_add-count c = let s = c.loop-i in
    let one = one_left c.args.q c.args.notes.now s.i c.loop-i-test.true refl c.if-d-lt16.true in
    omega (arith, one.2, s.invariant.0, c.requires.2)

pub put_all-requires : goal.put_all-requires
put_all-requires c = let s = c.loop-i in
    let one = one_left c.args.q c.args.notes.now s.i c.loop-i-test.true refl c.if-d-lt16.true in
    (omega arith, omega (arith, one.2, s.invariant.0, s.invariant.2, c.requires.2))

pub overflow_add-count-then-d-lt16 : goal.overflow_add-count-then-d-lt16
overflow_add-count-then-d-lt16 c = let s = c.loop-i in
    let one = one_left c.args.q c.args.notes.now s.i c.loop-i-test.true refl c.if-d-lt16.true in
    omega (arith, one.2, s.invariant.0, c.requires.2)

pub loop-i-preserved : goal.loop-i-preserved
loop-i-preserved c = let a = c.args in
    let s = c.loop-i in
    let first = 1 + 3 * a.others in elim c.if-d-lt16.branch [
      | then-d-lt16 w ↦
          let one = one_left a.q a.notes.now s.i c.loop-i-test.true w.from.ensures w.if-d-lt16.true in
          let z = s.invariant.0 in
          let more = put_more a.area.now first (left_in a.q 0 (take s.i a.notes.now)) (message a.q (s.i + 1) w.from.result ∷ []) (omega arith) s.invariant.1 w.put_all.ensures in (
            omega (arith, one.1, s.invariant.0, w.count-is),
            w.area-is ∙ more ∙ ap (λ ms. put_words a.area.now first (messages_words ms)) (sym one.0),
            ap length (w.area-is ∙ w.put_all.ensures) ∙ all_length s.area _ _ ∙ s.invariant.2,
          )
      | else-d-lt16 w ↦
          let none = sym (one_struck a.q a.notes.now s.i c.loop-i-test.true w.if-d-lt16.false) in (
            w.count-is ∙ s.invariant.0 ∙ ap (λ ms. a.others + length ms) none,
            w.area-is ∙ s.invariant.1 ∙ ap (λ ms. put_words a.area.now first (messages_words ms)) none,
            ap length w.area-is ∙ s.invariant.2,
          )
    ]
