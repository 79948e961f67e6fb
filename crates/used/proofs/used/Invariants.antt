use Rattle.xdr.specs.Words.{word}
use Rattle.used.specs.Marks.{Found}
use Rattle.used.proofs.used.Given as goal

abbrev pub invariant-loop-i : goal.invariant-loop-i
invariant-loop-i l = Found l.limits.dims.n l.limits.dims.e (word l.records.bytes.now) l.p l.records.at l.i l.seen
