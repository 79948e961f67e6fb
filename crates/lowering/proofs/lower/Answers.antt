use Rattle.std.proofs.Common.{sym, ap, ◌∙◌}
use Rattle.rules.specs.Lines.{upto}
use Rattle.events.specs.Events.{held}
use Rattle.lowering.proofs.Lowered.{lower_moves}
use Rattle.lowering.proofs.lower.Goals as goal

pub returns-in-Some : goal.returns-in-Some
returns-in-Some g c = let a = c.args in
    let r = a.records.now in
    let is = c.upto-records.ensures ∙ ap (λ m. upto m (held r)) c.from.ensures in
    lower_moves (g.T.Test.passes a.test.now) r c.upto-records.result a.part.position c.requires.0 is (sym c.in-Some.is ∙ c.first.ensures.first)
    c.back_to.ensures.0 c.back_to.ensures.1
