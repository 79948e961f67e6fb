use Rattle.std.proofs.Common.{arith, length}
use mathlib.Core.Path.{sym, ap, ◌∙◌}
use Rattle.notes.proofs.Groups.{note_turn, note_stop}
use Rattle.lowering.specs.Lowering.{ends}
use Rattle.lowering.proofs.Notes.{part_all}
use Rattle.lowering.proofs.note_sends.Goals as goal

pub loop-p-preserved : goal.loop-p-preserved
loop-p-preserved c = let t = c.args.table.now in
    let s = c.loop-p in
    let E = c.if-not-note.ensures in
    let is = c.records.ensures.held ∙ sym (part_all t s.p) in
    let turn = note_turn t (ends t) s.senders s.to s.invariant.0 s.invariant.3 c.loop-p-test.true c.records.result is E.room E.senders E.notes in
    (turn.0, turn.1 ∙ s.invariant.1, turn.2 ∙ s.invariant.2, turn.3)

pub returns-then-not-note : goal.returns-then-not-note
returns-then-not-note c = let t = c.args.table.now in
    let s = c.loop-p in
    let E = c.if-not-note.ensures in
    let is = c.records.ensures.held ∙ sym (part_all t s.p) in
    let stop = note_stop t (ends t) s.senders s.to s.invariant.0 s.invariant.3 c.loop-p-test.true c.records.result is E.room (omega arith) s.invariant.2 E.senders E.notes in
    (stop.0, ap length E.notes ∙ s.invariant.1, stop.1, stop.2)
