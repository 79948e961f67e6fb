use Rattle.std.proofs.Common.{◌≡◌, length}
use Rattle.notes.specs.Noted.{NotedAt}
use Rattle.lowering.specs.Lowering.{ends}
use Rattle.lowering.proofs.note_sends.Given as goal

abbrev pub invariant-loop-p : goal.invariant-loop-p
invariant-loop-p l = NotedAt l.table (ends l.table) 0 l.senders l.to × (length l.to ≡ length l.initial.to) × (l.senders.from ≡ l.initial.senders.next) × (l.senders.next ≡ l.p)
