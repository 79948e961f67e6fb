use Rattle.std.proofs.Common.{sym, subst, ◌∙◌}
use Rattle.replay.specs.Way.{Made}
use Rattle.replay.proofs.Rounds.{ended}
use Rattle.replay.proofs.Replay.run.Goals as goal

pub returns-then-self-left : goal.returns-then-self-left
returns-then-self-left c = let w = c.in_ok-round.ensures.went in
    let r = ended c.round.new.self.table w.0.0 (w.2 c.if-self-left.true) w.0.1 in
    let e = c.round.ensures.same ∙ c.loop.invariant.0 in
    (λ z. subst Made e (r.0 z), λ M. r.1 (subst Made (sym e) M))
