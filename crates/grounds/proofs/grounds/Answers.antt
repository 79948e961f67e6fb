use Rattle.grounds.proofs.Lines.{grounds_refused, grounds_done}
use Rattle.grounds.proofs.grounds.Goals as goal

pub returns-in_err-table : goal.returns-in_err-table
returns-in_err-table c = let a = c.args in
    grounds_refused c.from_residual.result _ c.from_residual.ensures.1 a.table.now a.area.now a.mask c.in_err-table.ensures.row

pub returns : goal.returns
returns c = let a = c.args in
    let b = c.in_ok-table in
    rw (← b.ensures.table) (grounds_done b.table a.area.now a.mask (rw (← b.ensures.table) at b.ensures.row) _ c.line.ensures.line c.fill.ensures)
