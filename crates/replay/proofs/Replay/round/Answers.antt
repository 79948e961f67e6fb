use Rattle.std.proofs.Common.{arith, ap, ◌∙◌}
use Rattle.layout.specs.declared.Table.{Table}
use Rattle.replay.proofs.Rounds.{rests_next}
use Rattle.replay.proofs.Replay.round.Goals as goal

pub loop-p-preserved : goal.loop-p-preserved
loop-p-preserved c = let I = c.loop-p.invariant in
    let w = c.in_ok-advance.ensures.went in
    let a = I.2 in
    let b = w.2 in (
      c.advance.ensures.same ∙ I.0,
      w.0,
      omega arith,
      λ z.
          rests_next c.loop-p.self c.advance.new.self c.advance.ensures.same (w.3 (omega arith)) (I.3 (omega arith)) w.1,
    )

pub returns-clause-went : goal.returns-clause-went
returns-clause-went c = let I = c.loop-p.invariant in
    let e = ap (λ (t : Table). t.n) I.0 in
    let f = c.loop-p-test.false in
    (I.1, I.2, λ z p lt. I.3 z p (omega arith))
