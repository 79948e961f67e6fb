use Rattle.lines.proofs.NumberedLine.{line_unread, line_stopped, line_unsaved, line_done}
use Rattle.lines.proofs.line.Goals as goal

pub returns-in_err-table : goal.returns-in_err-table
returns-in_err-table c = let a = c.args in
    line_unread c.from_residual.result _ c.from_residual.ensures.1 a.table.now a.area.now a.number c.in_err-table.ensures.row

pub returns-then-area-table : goal.returns-then-area-table
returns-then-area-table c = let a = c.args in
    let b = c.in_ok-table in
    line_stopped b.table b.ensures.table a.area.now a.number c.if-area-table.true

pub returns-in_default : goal.returns-in_default
returns-in_default c = let a = c.args in
    let b = c.in_ok-table in
    line_unsaved b.table b.ensures.table a.area.now a.number c.if-area-table.false c.in_default.ensures

pub returns : goal.returns
returns c = let a = c.args in
    let b = c.in_ok-table in
    line_done b.table b.ensures.table a.area.now a.number c.if-area-table.false c.in-Some.line c.in-Some.ensures c.fill.ensures
