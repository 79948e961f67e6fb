use borrow.Author.Rules.{rules}
use mathlib.Core.Path.{ap, subst}
use Rattle.rules.specs.Text.{ran, answer_line}
use Rattle.decimal.specs.Output.{page_of, Writes}
use Rattle.reading.specs.Meanings.{reading_of}
use Rattle.answers.specs.Shows.{answer_room}
use Rattle.replies.proofs.Tables.{held_on}
use Rattle.replies.proofs.Told.{told_written}
use Rattle.replies.proofs.held.Held.answer_line.Goals as goal

pub returns-clause-text : goal.returns-clause-text
returns-clause-text c =
    let is = ap (λ h. answer_line h.0 (ran h.0 h.1 (reading_of c.args.said))) c.self.view_is in
    subst (λ text. Writes (page_of c.args.out.now) text answer_room (page_of c.put_told.new.out)) is
    (told_written c.put_told.ensures.text (search rules) c.run-told.ensures.shows (rw c.area_length.ensures c.run-told.ensures.within))

pub returns-clause-stage : goal.returns-clause-stage
returns-clause-stage c = let h = c.self.inside in
    held_on h.n h.size c.run-told.new.table h.room c.args.self.now (reading_of c.args.said) c.self.view_is c.run-told.ensures.shows.left (search rules) c.self.invariant.1
