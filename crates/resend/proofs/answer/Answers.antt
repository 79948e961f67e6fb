use mathlib.Core.Path.{ap, ◌∙◌}
use lib.ListN.{length}
use Rattle.xdr.specs.Words.{put_words}
use Rattle.rules.specs.Resend.{messages_words}
use Rattle.transit.specs.Transit.{transit_at}
use Rattle.resend.proofs.Outcomes.{resend_short, resend_done}
use Rattle.resend.proofs.answer.Goals as goal

pub returns-then-not-fits : goal.returns-then-not-fits
returns-then-not-fits c = resend_short c.args.notes.now.cut c.args.area.now c.fits.ensures.0 c.if-not-fits.true

pub returns : goal.returns
returns c = let L = c.list-count.ensures in
    let same = c.fits.ensures.1 in
    let a = c.args.area.now in
    resend_done c.args.notes.now.cut a c.fits.ensures.0 c.if-not-fits.false (L.0 ∙ ap (λ d. length (transit_at d)) same)
    (L.2 ∙ ap (λ d. put_words a 1 (messages_words (transit_at d))) same) c.put.ensures
