use Rattle.std.proofs.Common.{rules, ◌≡◌, length, subst}
use Rattle.layout.specs.Tables.{state_of}
use Rattle.layout.proofs.Sections.{processes}
use Rattle.tops.proofs.Starts.{Started, started_next, started_done}
use Rattle.tops.proofs.tops.Goals as goal

pub loop-p-preserved : goal.loop-p-preserved
loop-p-preserved c = (
  search rules,
  started_next c.args.mask (state_of c.args.table.now) c.loop-p.cut c.loop-p.p c.loop-p.invariant.1 (search rules) c.top.result c.bit.ensures c.top.ensures,
)

pub returns : goal.returns
returns c = let t = c.args.table.now in
    let s = c.loop-p in
    let n = processes t in
    let e : s.p ≡ length (state_of t) = search rules in
    started_done c.args.mask (state_of t) s.cut s.invariant.0 (subst (Started c.args.mask (state_of t) s.cut) e s.invariant.1)
