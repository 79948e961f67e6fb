use Rattle.std.proofs.Common.{◌≡◌, ◌+◌, arith}
use Rattle.xdr.specs.Words.{word}
use Rattle.used.proofs.Headings.{front_fold}
use Rattle.used.proofs.front.Goals as goal

pub returns : goal.returns
returns c = let a = c.args in
    let d = a.limits.now.dims in
    let at = c.start-at.result in
    let two : at + 1 + 1 ≡ at + 2 = omega arith in
    rw (← c.start-at.ensures.0) (front_fold d.e (word a.t.now) c.get.ensures d.n a.p c.used-seen.result.marks (omega arith) c.used-seen.ensures.0
    c.used-seen.ensures.1 (omega (arith, c.used-seen.ensures.2)) (rw two at c.pair.ensures.2) (rw two at c.pair.ensures.0))
