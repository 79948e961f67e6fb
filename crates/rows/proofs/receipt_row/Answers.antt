use Rattle.rules.specs.Calls.{table_rows}
use Rattle.layout.proofs.Refused.{handed_on}
use Rattle.rows.proofs.receipt_row.Goals as goal

pub returns-in_err-read-clause-row : goal.returns-in_err-read-clause-row
returns-in_err-read-clause-row c = handed_on c.from_residual.result _ c.from_residual.ensures.1 (table_rows c.args.t.now) _ tt c.in_err-read.ensures.row
