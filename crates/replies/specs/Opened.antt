-- A program's table.
use Rattle.std.specs.Prelude.{List, [], ℕ, Result, Ok, Err}
use Rattle.rules.specs.Calls.{outcome}
use Rattle.rules.specs.Text.{Stage, running, ended, Reply, reply, answer_line, alone_line}
use Rattle.answers.specs.declared.Refused.{Refused}
use Rattle.answers.specs.Shows.{number_of}

-- the stage of a program that has a table, of h.0 processes
abbrev pub running_of : ℕ × List ℕ → Stage
running_of h = running h.0 h.1

-- what a first line gets that made this table, or none
abbrev pub opened_as : Result (ℕ × List ℕ) Refused → Reply
opened_as (Ok h) = reply (answer_line h.0 (outcome 0 h.1 [])) (running_of h)
opened_as (Err refused) = reply (alone_line (number_of refused)) ended
