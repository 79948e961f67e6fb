use Rattle.std.proofs.Common.{◌/◌, arith}
use Rattle.used.specs.Marks.{upper}
use Rattle.used.proofs.Marks.{marks_next, sends_next}
use Rattle.used.proofs.next.Goals as goal

pub returns : goal.returns
returns c = let a = c.args in
    let l = a.limits.now in
    let i = c.kind_index-i in
    let k = c.wrapping_sub_usize-k in
    let sent = sends_next a.kind i.ensures.0 l.by_kind.2 c.requires (omega arith) k.ensures.value in (
      marks_next a.kind i.ensures.0 l.by_kind.2 c.requires (omega arith) k.ensures.value a.s.marks a.pair a.own (a.s.last / upper) a.c
          l.room l.floor c.wrapping_add_usize-sum.ensures.value c.wrapping_sub_usize-difference.ensures.value c.wrapping_sub_usize-beyond.ensures.value
          (omega arith) (omega arith) (omega arith) (omega arith) (omega arith) (omega arith)
          (omega (arith, c.type_inv.limits)),
      rw i.ensures.0 at c.pick.ensures,
      sent,
    )
