use Rattle.lines.proofs.NumberedLine.{line_lacked, line_next}
use Rattle.lines.proofs.positions.Goals as goal

pub returns-in_err-line : goal.returns-in_err-line
returns-in_err-line c = let a = c.args in
    rw c.from_residual.ensures (line_lacked a.table.now a.m c.loop-p.p c.loop-p-test.true c.in_err-line.ensures.position c.records.ensures.held)

pub loop-p-preserved : goal.loop-p-preserved
loop-p-preserved c = let a = c.args in
    let b = c.loop-p in
    line_next a.table.now a.m b.line b.p b.invariant.0 c.loop-p-test.true b.invariant.1 c.in_ok-line.ensures.position c.records.ensures.held
