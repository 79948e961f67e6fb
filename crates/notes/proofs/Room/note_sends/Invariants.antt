use Rattle.std.proofs.Common.{◌≡◌}
use Rattle.notes.specs.Noted.{Noted}
use Rattle.notes.proofs.Room.note_sends.Given as goal

abbrev pub invariant-loop-p : goal.invariant-loop-p
invariant-loop-p l = Noted l.cut 0 l.senders l.self.to.now × (l.self.cut ≡ l.cut) × (l.senders.from ≡ l.q) × (l.senders.next ≡ l.p)
