use Rattle.resend.proofs.Outcomes.{resend_refused, table_refuses, cut_refuses}
use Rattle.resend.proofs.resend.Goals as goal

pub returns-in_err-read : goal.returns-in_err-read
returns-in_err-read c = let a = c.args in
    resend_refused c.from_residual.result _ c.from_residual.ensures.1 a.table.now a.positions.now a.area.now
    (table_refuses a.table.now a.positions.now a.area.now _ c.in_err-read.ensures.row)

pub returns-in_err-cut : goal.returns-in_err-cut
returns-in_err-cut c = let a = c.args in
    let t = c.in_ok-read in
    resend_refused c.from_residual-in_err-cut.result _ c.from_residual-in_err-cut.ensures.1 a.table.now a.positions.now a.area.now
    (cut_refuses t.field-0 t.ensures.table a.positions.now a.area.now _ c.in_err-cut.ensures.row)
