use Rattle.std.proofs.Common.{ℕ, ◌≡◌, ◌<◌, ap, ◌∙◌, subst}
use Rattle.layout.specs.Tables.{state_of}
use Rattle.cuts.specs.Parts.{positions, counts}
use Rattle.lowering.specs.Lowering.{Pruned}
use Rattle.lowering.proofs.pruned_from.Goals as goal

pub returns : goal.returns
returns c = let t = c.args.table.now in
    let E = c.note_sends.ensures in
    let cut = c.pruned_of.result in
    let next = c.note_sends.new.senders.next in
    let q : c.none-senders.result.next ≡ c.args.q = ap (λ g. g.next) c.none-senders.ensures in (
      subst (λ (i : ℕ). Pruned (state_of t) (positions c.args.cut) (positions cut) (counts cut) i next t.n) (E.2 ∙ q) c.pruned_of.ensures,
      E.1,
      subst (λ (i : ℕ). i < next) q E.3,
      E.0.most,
    )
