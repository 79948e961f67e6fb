use Rattle.std.proofs.Common.{rules, tests, eqb, ℕ}
use Rattle.std.proofs.lemmas.Iterator.{YieldsList-from_slice}
use Rattle.std.proofs.lemmas.Iterator.Search.{position_from_yields_List}
use Rattle.fields.proofs.Texts.{cut_none, cut_some}
use Rattle.fields.proofs.cut.Goals as goal

pub returns-in_err-i : goal.returns-in_err-i
returns-in_err-i c =
    let e = position_from_yields_List (λ (b : ℕ). eqb b 44) _ _ _ c.position.ensures.ran (YieldsList-from_slice c.args.s.now cc) (λ x b q k. search (rules, tests)) in
    rw c.from_residual.ensures (cut_none c.args.s.now e c.in_err-i.was)

pub returns : goal.returns
returns c =
    let e = position_from_yields_List (λ (b : ℕ). eqb b 44) _ _ _ c.position.ensures.ran (YieldsList-from_slice c.args.s.now cc) (λ x b q k. search (rules, tests)) in
    cut_some c.args.s.now c.in_ok-i.i e c.in_ok-i.was
