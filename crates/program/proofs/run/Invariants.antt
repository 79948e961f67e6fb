use Prim.Native.Nat.{◌+◌, ◌*◌, ◌≤◌}
use lib.ListN.{length}
use Rattle.decimal.specs.Output.{page_of}
use Rattle.answers.specs.Shows.{answer_room}
use Rattle.program.proofs.run.Given as goal

abbrev pub invariant-loop : goal.invariant-loop
invariant-loop g l = 1024 * answer_room ≤ length (page_of l.out).written + length (page_of l.out).rest
