use Rattle.std.proofs.Common.{◌≡◌, ◌+◌, ◌*◌, refl, arith}
use Rattle.xdr.specs.Words.{word}
use Rattle.rules.specs.Table.{width}
use Rattle.used.specs.Marks.{kind_index}
use Rattle.used.proofs.Marks.{counts_most, clear_next, found_next}
use Rattle.used.proofs.used.Goals as goal

pub loop-i-preserved : goal.loop-i-preserved
loop-i-preserved c = let a = c.args in
    let l = a.limits.now in
    let r = a.records.now in
    let w = word r.bytes.now in
    let i = c.loop-i.i in
    let inv = c.loop-i.invariant in
    let kind = c.get-kind in
    let pair = c.pair-pair in
    let fourth = c.get-carried in
    let two : r.at + width * i + 1 + 1 ≡ r.at + width * i + 2 = omega arith in
    let read = rw two at pair.ensures.0 in
    let low = rw two at pair.ensures.2 in
    let next = c.next-seen.ensures in
    let most = counts_most (kind_index kind.result) in (
      clear_next l.dims.n l.dims.e a.p w r.at i c.loop-i.seen.marks c.loop-i.seen.sends kind.result pair.result kind.ensures
          read pair.ensures.1 low l.by_kind.0 l.by_kind.1 refl l.dims.few.0 l.dims.few.1 c.requires.0 (omega arith) inv.0 inv.1
          fourth.ensures (omega (arith, fourth.ensures)) next.0,
      found_next l.dims.n l.dims.e a.p w r.at i c.loop-i.seen.marks c.loop-i.seen.sends kind.result pair.result kind.ensures
          read pair.ensures.1 low l.by_kind.0 l.by_kind.1 refl l.dims.few.0 l.dims.few.1 c.requires.0 (omega arith) inv.0 inv.1 next.1
          next.2,
      omega (arith, next.2, most),
    )
