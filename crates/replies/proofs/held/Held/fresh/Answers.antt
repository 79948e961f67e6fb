use borrow.Author.Rules.{rules}
use mathlib.Core.Path.{◌∙◌}
use lib.ListN.{take}
use Rattle.layout.proofs.Refused.{not_zero}
use Rattle.replies.proofs.Tables.{zeros, placed, lent_zeros, fresh_outcome_lem, fresh_accepted, fresh_held}
use Rattle.replies.proofs.held.Held.fresh.Goals as goal

pub returns-in_err-fresh : goal.returns-in_err-fresh
returns-in_err-fresh c = let a = c.args in
    let d = c.in-Some.ensures in
    let m = c.size-size.result in
    let lent = lent_zeros a.n a.e m d.0 (rw (d.1, d.2) at c.size-size.ensures) in
    absurd (not_zero c.in_err-fresh.field-0.0 (fresh_accepted (take m zeros) _ a.n a.e _ d.0 lent.1 c.in_err-fresh.ensures))

pub invariant_of-result : goal.invariant_of-result
invariant_of-result c = let a = c.args in
    let d = c.in-Some.ensures in
    rw (d.1) (placed a.n a.e c.size-size.result c.fresh.new.t d.0 (rw (d.1, d.2) at c.size-size.ensures) (search rules))

pub returns : goal.returns
returns c = let a = c.args in
    let d = c.in-Some.ensures in
    let m = c.size-size.result in
    let lent = lent_zeros a.n a.e m d.0 (rw (d.1, d.2) at c.size-size.ensures) in
    rw (d.0, d.1) (fresh_held a.n a.e m _ zeros (c.in_ok-fresh.ensures ∙ fresh_outcome_lem (take m zeros) a.n a.e d.0 lent.1) (search rules) lent.0)
