use mathlib.Core.List.{append-nil}
use mathlib.Core.Path.{◌≡◌, refl, sym, ◌∙◌}
use native.Mathlib.Omega.{arith}
use lib.ListN.{length, replicate}
use lib.Seq.{drop-length}
use Rattle.xdr.proofs.Puts.{two_puts}
use Rattle.layout.proofs.Rows.{fresh_range, fresh_size, fresh_done}
use Rattle.layout.proofs.fresh.Goals as goal

pub returns-in_default : goal.returns-in_default
returns-in_default c = let a = c.args in fresh_range a.t.now a.n a.e c.in_default.ensures

pub returns-then-t-size : goal.returns-then-t-size
returns-then-t-size c = let a = c.args in
    let d = c.in-Some.ensures in
    fresh_size a.t.now a.n a.e d.0 (λ z. c.if-t-size.true (z ∙ sym (rw (d.1, d.2) at c.size.ensures)))

pub returns : goal.returns
returns c = let a = c.args in
    let d = c.in-Some.ensures in
    let all : c.loop-byte.byte-index ≡ length a.t.now = omega arith in
    let zeros : c.loop-byte.t ≡ replicate (length a.t.now) 0 = c.loop-byte.invariant ∙ rw (all, drop-length, append-nil) refl in
    fresh_done a.t.now a.n a.e d.0 (c.if-t-size.false ∙ rw (d.1, d.2) at c.size.ensures) zeros
    (two_puts c.loop-byte.t a.n a.e c.put.ensures c.put-2.ensures)
