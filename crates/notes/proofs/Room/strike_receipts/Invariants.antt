use Rattle.std.proofs.Common.{◌≡◌}
use Rattle.notes.specs.Noted.{Noted}
use Rattle.notes.proofs.Room.strike_receipts.Given as goal

abbrev pub invariant-loop-p : goal.invariant-loop-p
invariant-loop-p l = Noted l.cut l.p l.senders l.self.to.now × (l.self.cut ≡ l.cut)
