use Rattle.std.proofs.Common.{arith}
use mathlib.Core.Path.{sym, ap, refl, ◌∙◌}
use borrow.Author.Tests.{le-leb}
use Rattle.layout.specs.Tables.{state_of}
use Rattle.transit.specs.Transit.{sends_below}
use Rattle.transit.proofs.Messages.{all_sends}
use Rattle.resend.proofs.fits.Goals as goal

pub returns-then-sends-len : goal.returns-then-sends-len
returns-then-sends-len c = let sends = c.sends.ensures.0 ∙ ap (λ d. sends_below (state_of d.table) d.table.n) c.cut-cut.ensures in
    let all = all_sends c.args.notes.now.cut in
    (le-leb _ c.args.len c.if-sends-len.true ∙ sym (le-leb _ c.args.len (omega (arith, sends, c.if-sends-len.true))), refl)
