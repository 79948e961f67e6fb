use Rattle.std.proofs.Common.{◌≡◌, ◌*◌}
use lib.Dec.{eqb}
use Rattle.xdr.specs.Words.{word}
use Rattle.rules.specs.Table.{zeros_at}
use Rattle.unused.proofs.is_unused.Given as goal

abbrev pub invariant-loop-i : goal.invariant-loop-i
invariant-loop-i l = eqb l.joined 0 ≡ zeros_at (word l.records.bytes.now) l.records.at (2 * l.i)
