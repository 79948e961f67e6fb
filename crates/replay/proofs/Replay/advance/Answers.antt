use Rattle.replay.proofs.Rounds.{turn_fits, turned}
use Rattle.replay.proofs.Replay.advance.Goals as goal

pub overflow_sub-self-2 : goal.overflow_sub-self-2
overflow_sub-self-2 c = turn_fits c.args.self.now c.furthest.new.self c.furthest.ensures.same c.args.p c.in_ok-done.done c.requires.1 c.requires.0 c.in_ok-done.ensures.went.0

pub returns-clause-went : goal.returns-clause-went
returns-clause-went c = let w = c.in_ok-done.ensures.went in
    turned c.args.self.now c.furthest.new.self c.furthest.ensures.same c.args.p c.in_ok-done.done c.requires.1 c.requires.0 w.0 w.1
