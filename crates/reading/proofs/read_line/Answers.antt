use mathlib.Core.Path.{◌∙◌}
use Rattle.reading.proofs.Lines.{long_line, not_four, four, refused, first_other, second_other, third_other, no_such_word, read_as}
use Rattle.reading.proofs.read_line.Goals as goal

pub returns-then-s-gt64 : goal.returns-then-s-gt64
returns-then-s-gt64 c = long_line c.args.s.now c.if-s-gt64.true

pub returns-in_err-word : goal.returns-in_err-word
returns-in_err-word c =
    refused _ c.args.s.now c.from_residual.ensures.0 (not_four c.args.s.now (rw c.in_err-word.ensures.ok_part at c.four_fields.ensures))

pub returns-in_err-read_word : goal.returns-in_err-read_word
returns-in_err-read_word c =
    refused _ c.args.s.now c.from_residual-in_err-read_word.ensures.0
    (no_such_word _ _ _ c.in_err-read_word.ensures ∙ four c.args.s.now _ _ _ _ c.if-s-gt64.false (rw c.in_ok-word.ensures.ok_part at c.four_fields.ensures))

pub returns-in_err-read_field : goal.returns-in_err-read_field
returns-in_err-read_field c =
    refused _ c.args.s.now c.from_residual-in_err-read_field.ensures.0
    (first_other _ _ _ c.in_err-read_field.ensures ∙ four c.args.s.now _ _ _ _ c.if-s-gt64.false (rw c.in_ok-word.ensures.ok_part at c.four_fields.ensures))

pub returns-in_err-read_field-2 : goal.returns-in_err-read_field-2
returns-in_err-read_field-2 c =
    refused _ c.args.s.now c.from_residual-in_err-read_field-2.ensures.0
    (second_other _ _ _ c.in_err-read_field-2.ensures ∙ four c.args.s.now _ _ _ _ c.if-s-gt64.false (rw c.in_ok-word.ensures.ok_part at c.four_fields.ensures))

pub returns-in_err-read_field-3 : goal.returns-in_err-read_field-3
returns-in_err-read_field-3 c =
    refused _ c.args.s.now c.from_residual-in_err-read_field-3.ensures.0
    (third_other _ _ _ c.in_err-read_field-3.ensures ∙ four c.args.s.now _ _ _ _ c.if-s-gt64.false (rw c.in_ok-word.ensures.ok_part at c.four_fields.ensures))

pub returns : goal.returns
returns c =
    c.with_fields.ensures
    ∙ read_as c.in_ok-read_word.ensures c.in_ok-read_field.ensures c.in_ok-read_field-2.ensures c.in_ok-read_field-3.ensures
    ∙ four c.args.s.now _ _ _ _ c.if-s-gt64.false (rw c.in_ok-word.ensures.ok_part at c.four_fields.ensures)
