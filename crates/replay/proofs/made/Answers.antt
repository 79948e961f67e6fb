use Rattle.std.proofs.Common.{sym, ◌∙◌}
use Rattle.replay.proofs.Rounds.{answers}
use Rattle.replay.proofs.made.Goals as goal

pub returns-then-is_ok : goal.returns-then-is_ok
returns-then-is_ok c = let A = answers c.args.table c.run.result c.run.new.self.left (rw c.new-replay.ensures.0 at c.run.ensures) in
    let e = sym c.if-is_ok.true ∙ c.is_ok.ensures.value in
    rw (← e) at A

pub returns-else-is_ok : goal.returns-else-is_ok
returns-else-is_ok c = let A = answers c.args.table c.run.result c.run.new.self.left (rw c.new-replay.ensures.0 at c.run.ensures) in
    let e = sym c.if-is_ok.false ∙ c.is_ok.ensures.value in
    c.if-is_ok.false ∙ (rw (← e) at A)
