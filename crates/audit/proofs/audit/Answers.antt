use Rattle.std.proofs.Common.{ap, ◌∙◌}
use Rattle.rules.specs.Audit.{audited}
use Rattle.audit.proofs.Outcomes.{table_refuses, area_refuses, scratch_refuses, byte_word, answered}
use Rattle.audit.proofs.audit.Goals as goal

pub returns-in_err-table-clause-outcome : goal.returns-in_err-table-clause-outcome
returns-in_err-table-clause-outcome c = let a = c.args in
    table_refuses a.table.now a.area.now a.scratch.now c.from_residual.result _ c.from_residual.ensures.1 c.in_err-table.ensures.row

pub returns-then-area-ne4-clause-outcome : goal.returns-then-area-ne4-clause-outcome
returns-then-area-ne4-clause-outcome c = let a = c.args in
    let t = c.in_ok-table in
    area_refuses a.table.now a.area.now a.scratch.now (rw t.ensures.table at t.table.laid.0) c.if-area-ne4.true

pub returns-then-scratch-table-clause-outcome : goal.returns-then-scratch-table-clause-outcome
returns-then-scratch-table-clause-outcome c = let a = c.args in
    let t = c.in_ok-table in
    scratch_refuses a.table.now a.area.now a.scratch.now (rw t.ensures.table at t.table.laid.0) c.if-area-ne4.false
    (rw t.ensures.table at c.if-scratch-table.true)

pub returns-clause-outcome : goal.returns-clause-outcome
returns-clause-outcome c = let a = c.args in
    let t = c.in_ok-table in
    answered a.table.now a.area.now a.scratch.now (rw t.ensures.table at t.table.laid.0) c.if-area-ne4.false (rw t.ensures.table at c.if-scratch-table.false)
    (byte_word (c.made-made.ensures ∙ ap audited t.ensures.table) c.from.ensures) c.put.ensures
