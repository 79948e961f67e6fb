use mathlib.Core.Path.{sym, ◌∙◌}
use Rattle.layout.proofs.Rows.{row_laid, row_none}
use Rattle.layout.proofs.table_row.Goals as goal

pub returns-then-not-sections_ok : goal.returns-then-not-sections_ok
returns-then-not-sections_ok c = let d = c.in-Some.ensures in
    row_laid c.args.bytes.now c.if-bytes-lt8.false (d.1 ∙ c.get-n.ensures) (d.2 ∙ c.get-e.ensures) (rw (d.1, d.2) d.0)
    (c.if-bytes-size.false ∙ c.size.ensures) (sym c.sections_ok.ensures ∙ c.if-not-sections_ok.true)

pub returns : goal.returns
returns c = let d = c.in-Some.ensures in
    row_none c.args.bytes.now c.if-bytes-lt8.false (d.1 ∙ c.get-n.ensures) (d.2 ∙ c.get-e.ensures) (rw (d.1, d.2) d.0)
    (c.if-bytes-size.false ∙ c.size.ensures) (sym c.sections_ok.ensures ∙ c.if-not-sections_ok.false)
