use Rattle.xdr.specs.Words.{word}
use Rattle.std.proofs.Common.{◌+◌, ◌*◌}
use Rattle.rules.specs.Calls.{table_rows}
use Rattle.layout.proofs.Refused.{handed_on}
use Rattle.failure.specs.Asked.{mask_rows}
use Rattle.failure.proofs.asked.Goals as goal

pub returns-in_err-table-clause-row : goal.returns-in_err-table-clause-row
returns-in_err-table-clause-row c = let a = c.args in
    let t = a.table.now in
    handed_on c.from_residual.result _ c.from_residual.ensures.1 (table_rows t) (mask_rows (word t 0) a.mask a.len (a.each * word t 0 + a.more)) tt c.in_err-table.ensures.row
