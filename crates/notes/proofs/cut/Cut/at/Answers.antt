use Rattle.std.proofs.Common.{rules}
use mathlib.Core.Path.{◌≡◌, sym, ap, ◌∙◌}
use Prim.Native.Nat.{◌*◌}
use borrow.Author.Tests.{eq-eqb}
use lib.ListN.{length}
use Rattle.xdr.specs.Words.{words}
use Rattle.rules.specs.Resend.{above}
use Rattle.layout.specs.Tables.{state_of}
use Rattle.notes.proofs.Places.{above_next, above_found, all_within}
use Rattle.notes.proofs.cut.Cut.at.Goals as goal

pub returns-then-count-get-clause-row : goal.returns-then-count-get-clause-row
returns-then-count-get-clause-row c = let a = c.args in
    rw (
      eq-eqb (length a.positions.now) (4 * a.table.n) c.if-positions-table.false,
      above_found (state_of a.table) a.table.n a.positions.now c.if-positions-table.false c.loop-p.p c.loop-p-test.true c.count.ensures c.get.ensures c.if-count-get.true,
    )

pub loop-p-preserved : goal.loop-p-preserved
loop-p-preserved c = let a = c.args in
    above_next (state_of a.table) a.table.n a.positions.now c.if-positions-table.false c.loop-p.p c.loop-p-test.true c.count.ensures c.get.ensures c.if-count-get.false c.loop-p.invariant

pub invariant_of-result : goal.invariant_of-result
invariant_of-result c = let a = c.args in
    let end : c.loop-p.p ≡ a.table.n = search rules in
    let none = ap (above (state_of a.table) (words a.positions.now)) (sym end) ∙ c.loop-p.invariant in
    record {
      whole = c.if-positions-table.false;
      within = all_within (state_of a.table) a.table.n a.positions.now c.if-positions-table.false none;
    }
