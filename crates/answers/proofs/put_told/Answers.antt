use mathlib.Core.Path.{◌≡◌, ◌∙◌}
use Rattle.answers.specs.Shows.{count_of}
use Rattle.answers.proofs.Fields.{count_is}
use Rattle.answers.proofs.put_told.Goals as goal

pub returns-clause-text : goal.returns-clause-text
returns-clause-text c =
    let count : c.unwrap_or.result ≡ count_of c.args.told = c.unwrap_or.ensures ∙ count_is c.args.told in
    rw (← c.returned.ensures, ← count) c.put_answer.ensures.text
