use Rattle.std.proofs.Common.{arith}
use mathlib.Core.Path.{sym, subst, ap, ◌∙◌}
use Prim.Native.Nat.{ℕ, ◌+◌}
use Rattle.xdr.specs.Words.{word}
use Rattle.rules.specs.Table.{heading, records_at}
use Rattle.tables.specs.Sections.{SendsLaid}
use Rattle.layout.proofs.Sections.{section}
use Rattle.layout.proofs.Table.records.Goals as goal

pub invariant_of-result : goal.invariant_of-result
invariant_of-result c = let S = c.section-section.ensures in
    let H = section c.args.self.now c.args.p c.requires S.0 in
    record { few = c.section-section.result.few; within = omega (arith, S.1, H.count, H.short, H.inside) }

pub returns-clause-held : goal.returns-clause-held
returns-clause-held c = let t = c.args.self.now in
    let S = c.section-section.ensures in
    let H = section t c.args.p c.requires S.0 in
    ap (records_at (word t.bytes.now) (c.section-section.result.at + heading)) (S.1 ∙ sym H.count) ∙ H.events

pub returns-clause-sends : goal.returns-clause-sends
returns-clause-sends c = let t = c.args.self.now in
    let S = c.section-section.ensures in
    let H = section t c.args.p c.requires S.0 in
    subst (λ (n : ℕ). SendsLaid (word t.bytes.now) (c.section-section.result.at + heading) n) (H.count ∙ sym S.1) H.told
