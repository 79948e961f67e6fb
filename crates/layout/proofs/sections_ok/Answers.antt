use mathlib.Core.Path.{sym, ◌∙◌}
use Rattle.xdr.specs.Words.{word}
use Rattle.tables.proofs.Sections.{sections_rears, sections_fronts}
use Rattle.layout.proofs.sections_ok.Goals as goal

pub returns-then-rears : goal.returns-then-rears
returns-then-rears c = let a = c.args in
    sections_fronts a.dims.n a.dims.e (word a.t.now) (sym c.rears.ensures ∙ c.if-rears.true) (rw c.limits-limits.ensures at c.fronts.ensures)

pub returns-else-rears : goal.returns-else-rears
returns-else-rears c = let a = c.args in
    c.if-rears.false ∙ sections_rears a.dims.n a.dims.e (word a.t.now) (sym c.rears.ensures ∙ c.if-rears.false)
