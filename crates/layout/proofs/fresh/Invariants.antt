use mathlib.Core.List.{◌++◌}
use mathlib.Core.Path.{◌≡◌}
use lib.ListN.{replicate, drop}
use Rattle.layout.proofs.fresh.Given as goal

abbrev pub invariant-loop-byte : goal.invariant-loop-byte
invariant-loop-byte l = l.t ≡ replicate l.byte-index 0 ++ drop l.byte-index l.initial.t
