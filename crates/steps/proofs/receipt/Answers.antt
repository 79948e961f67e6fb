use Rattle.std.proofs.Common.{rules}
use Rattle.rules.specs.Steps.{receipt}
use Rattle.steps.proofs.Done.{stops, receipt_fits, receipt_does}
use Rattle.steps.proofs.receipt.Goals as goal

pub returns-in_err-section : goal.returns-in_err-section
returns-in_err-section c = let a = c.args in
    let r = c.from_residual in
    stops r.result _ r.ensures.1 a.table.now a.area.now a.p (receipt a.q a.k) c.in_err-section.ensures.row

pub add_receipt-forced-requires : goal.add_receipt-forced-requires
add_receipt-forced-requires c = let a = c.args in
    let s = c.in_ok-section in
    receipt_fits a.table.now (λ i. search rules) a.area.now a.p s.section s.ensures.sent.0 a.q a.k s.ensures.row s.sent s.ensures.sent.1

pub returns : goal.returns
returns c = let a = c.args in
    let s = c.in_ok-section in
    receipt_does a.table.now (λ i. search rules) a.area.now a.p s.section s.ensures.sent.0 a.q a.k s.ensures.row s.sent s.ensures.sent.1
    c.add_receipt-forced.ensures.forces c.place_behind-received_at.ensures (search rules) c.add_receipt-forced.ensures.stored c.put_all.ensures
