use Rattle.std.proofs.Common.{arith}
use mathlib.Core.Path.{◌∙◌}
use Rattle.layout.proofs.Sections.{section}
use Rattle.layout.proofs.Table.section.Goals as goal

pub invariant_of-result : goal.invariant_of-result
invariant_of-result c = let at = rw c.dims.ensures.1 at c.start-at.ensures.0 in
    let H = section c.args.self.now c.args.p c.requires at in
    record { near = H.near; few = omega (arith, c.get.ensures, H.short, H.most) }

pub returns : goal.returns
returns c = let at = rw c.dims.ensures.1 at c.start-at.ensures.0 in
    let H = section c.args.self.now c.args.p c.requires at in
    (at, c.get.ensures ∙ H.count, c.get-2.ensures ∙ H.current, c.get-3.ensures ∙ H.sent, omega (arith, c.get-2.ensures, H.low), omega (arith, c.get-3.ensures, H.few))
