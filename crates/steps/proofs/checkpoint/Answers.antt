use mathlib.Core.Path.{refl}
use Rattle.std.proofs.Common.{rules}
use Rattle.rules.specs.Steps.{checkpoint}
use Rattle.steps.proofs.Done.{stops, one_fits, checkpoint_does}
use Rattle.steps.proofs.checkpoint.Goals as goal

pub returns-in_err-section : goal.returns-in_err-section
returns-in_err-section c = let a = c.args in
    let r = c.from_residual in
    stops r.result _ r.ensures.1 a.table.now a.area.now a.p checkpoint c.in_err-section.ensures.row

pub add_record-requires : goal.add_record-requires
add_record-requires c = let a = c.args in
    let s = c.in_ok-section in
    one_fits a.table.now (λ i. search rules) a.area.now a.p s.section s.ensures.section checkpoint s.ensures.row refl

pub returns : goal.returns
returns c = let a = c.args in
    let s = c.in_ok-section in
    checkpoint_does a.table.now (λ i. search rules) a.area.now a.p s.section s.ensures.section s.ensures.row (search rules) c.add_record.ensures c.put.ensures
