use Rattle.std.proofs.Common.{arith, rules, [], ◌∷◌, refl, ap, ◌∙◌}
use Rattle.xdr.specs.Words.{word}
use Rattle.rules.specs.Records.{sends}
use Rattle.cuts.proofs.Scanned.{back_next, sends_back}
use Rattle.cuts.proofs.back_to.Goals as goal

pub loop-i-preserved : goal.loop-i-preserved
loop-i-preserved c = let r = c.args.records.now in
    let w = word r.bytes.now in
    let s = c.loop-i in
    record {
      last = back_next w r.at r.count c.args.r s.i s.invariant.within c.saved.ensures.saved (search rules) c.loop-i-test.true s.invariant.last refl;
      counted = (sends_back w r.at (search rules) refl s.invariant.counted (c.sent-sends.ensures ∙ ap (λ e. sends (e ∷ [])) c.get.ensures.event)).1;
      within = omega arith;
    }
