use borrow.Author.Rules.{rules}
use mathlib.Core.Path.{refl}
use Prim.Native.Nat.{◌+◌, ◌*◌}
use native.Mathlib.Omega.{arith}
use Rattle.rules.specs.Calls.{step_on, line_on, failed_on}
use Rattle.rules.specs.Steps.{receipt}
use Rattle.calls.proofs.Calls.{ran_as, area_as, shows_called}
use Rattle.answers.proofs.Called.{told_called}
use Rattle.calls.proofs.run.Goals as goal

pub returns-in-Receipt-clause-shows : goal.returns-in-Receipt-clause-shows
returns-in-Receipt-clause-shows c = let a = c.args in
    let x = c.in-Receipt in
    shows_called (λ l. step_on a.table.now l x.p (receipt x.q x.k)) _ 4 16 _ _ a.area.now _
    c.receipt.ensures c.requires.1 (ran_as a.n a.table.now c.in_ok-said.was x.is) (told_called _ _ _ c.told-in-Receipt.ensures)
    (search rules) (area_as a.n c.area_length.ensures c.in_ok-said.was x.is) refl (omega arith)

pub returns-in-Line-clause-shows : goal.returns-in-Line-clause-shows
returns-in-Line-clause-shows c = let a = c.args in
    let x = c.in-Line in
    shows_called (λ l. line_on a.table.now l x.number) _ a.n (4 * a.n) _ _ a.area.now _
    c.line.ensures c.requires.1 (ran_as a.n a.table.now c.in_ok-said.was x.is) (told_called _ _ _ c.told-in-Line.ensures)
    (search rules) (area_as a.n c.area_length.ensures c.in_ok-said.was x.is) refl (omega (arith, c.requires.0))

pub returns-in-Failed-clause-shows : goal.returns-in-Failed-clause-shows
returns-in-Failed-clause-shows c = let a = c.args in
    let x = c.in-Failed in
    shows_called (λ l. failed_on a.table.now l x.mask) _ (a.n + 2) (4 * a.n + 8) _ _ a.area.now _
    c.failed.ensures c.requires.1 (ran_as a.n a.table.now c.in_ok-said.was x.is) (told_called _ _ _ c.told-in-Failed.ensures)
    (search rules) (area_as a.n c.area_length.ensures c.in_ok-said.was x.is) (omega arith) (omega (arith, c.requires.0))
