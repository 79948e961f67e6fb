use Rattle.std.proofs.Common.{arith}
use mathlib.Core.Path.{ap, ◌∙◌}
use Rattle.notes.specs.Noted.{places}
use Rattle.notes.proofs.Groups.{note_turn, note_stop}
use Rattle.notes.proofs.Room.note_sends.Goals as goal

pub loop-p-preserved : goal.loop-p-preserved
loop-p-preserved c = let C = c.args.self.now.cut in
    let s = c.loop-p in
    let E = c.if-not-note.ensures in
    let turn = note_turn C.table (places C) s.senders s.self.to.now s.invariant.0 s.invariant.3 c.loop-p-test.true c.part.result c.part.ensures.held E.room E.senders E.notes in
    (turn.0, s.invariant.1, turn.2 ∙ s.invariant.2, turn.3)

pub returns-then-not-note : goal.returns-then-not-note
returns-then-not-note c = let C = c.args.self.now.cut in
    let s = c.loop-p in
    let E = c.if-not-note.ensures in
    let stop = note_stop C.table (places C) s.senders s.self.to.now s.invariant.0 s.invariant.3 c.loop-p-test.true c.part.result c.part.ensures.held E.room (omega (arith, s.self.enough.0, ap (λ d. d.table.e) s.invariant.1)) s.invariant.2 E.senders E.notes in
    (stop.0, s.invariant.1, stop.1, stop.2)
