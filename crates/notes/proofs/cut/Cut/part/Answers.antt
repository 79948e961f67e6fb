use Rattle.std.proofs.Common.{arith}
use mathlib.Core.Path.{sym, ap, ◌∙◌}
use lib.ListN.{length}
use Rattle.xdr.specs.Words.{word}
use Rattle.rules.specs.Lines.{upto}
use Rattle.rules.specs.Records.{history}
use Rattle.layout.specs.Tables.{state_of}
use Rattle.records.proofs.Cuts.{upto_exact}
use Rattle.tables.proofs.WellLaid.{records_length}
use Rattle.notes.proofs.Places.{cut_at}
use Rattle.notes.proofs.cut.Cut.part.Goals as goal

pub upto-requires : goal.upto-requires
upto-requires c = let r = c.records.result in
    omega (arith, records_length (word r.bytes.now) r.at r.count, ap length c.records.ensures.held, c.position.ensures.0, c.args.self.now.within c.args.p c.requires)

pub returns-clause-held : goal.returns-clause-held
returns-clause-held c = let s = c.args.self.now in
    let h = history (state_of s.table) c.args.p in
    c.upto.ensures ∙ ap (upto c.position.result) c.records.ensures.held
    ∙ ap (λ i. upto i h) (c.position.ensures.0 ∙ sym (cut_at s.table.n s.positions.now s.whole c.args.p c.requires))

pub returns-clause-count : goal.returns-clause-count
returns-clause-count c = let s = c.args.self.now in
    let h = history (state_of s.table) c.args.p in
    let u = c.upto.result in
    let n = ap (λ i. upto i h) c.position.ensures.0 in
    sym (records_length (word u.bytes.now) u.at u.count)
    ∙ ap length (c.upto.ensures ∙ ap (upto c.position.result) c.records.ensures.held ∙ n)
    ∙ upto_exact (word s.positions.now c.args.p) h (s.within c.args.p c.requires)
