use Rattle.std.proofs.Common.{arith, rules}
use borrow.Author.Tests.{lt-ltb, le-ltb}
use Rattle.store.proofs.Behind.{forced_behind, not_forced}
use Rattle.store.proofs.add_receipt.Goals as goal
use Rattle.store.proofs.add_receipt.Goals.{then-forces, else-forces}

pub returns-clause-stored : goal.returns-clause-stored
returns-clause-stored c = let a = c.args in
    let s = a.section in
    elim c.if-forces.branch [
      | then-forces w ↦
          let n = lt-ltb s.number a.m w.if-forces.true in
          forced_behind a.t.now a.q a.k s.at s.count s.number s.sends a.m n _ (omega (arith, rw n at c.from.ensures)) (omega (arith, c.max.ensures, w.if-forces.true)) (search rules) (search rules)
          c.put_all.ensures c.end-behind.ensures w.put.ensures w.t-is w.behind-is c.put-2.ensures
      | else-forces w ↦
          let n = le-ltb s.number a.m w.if-forces.false in
          not_forced a.t.now a.q a.k s.at s.count s.number s.sends a.m n _ (omega (arith, rw n at c.from.ensures)) (omega (arith, c.max.ensures, w.if-forces.false)) (search rules)
          c.put_all.ensures c.end-behind.ensures w.t-is w.behind-is c.put-2.ensures
    ]
