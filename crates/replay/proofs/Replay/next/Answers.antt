use Rattle.std.proofs.Common.{rules, arith, sym, refl, length, ◌+◌}
use Rattle.std.proofs.lemmas.Result.{err_from_is_err_and}
use Rattle.replay.proofs.Notes.{note_room}
use Rattle.replay.proofs.Calls.{basic_goes, basic_not, sent_room, sent_goes, plain_room, plain_not, plain_took, next_fits, next_within, room}
use Rattle.replay.proofs.Replay.next.Goals as goal

pub overflow_add-done : goal.overflow_add-done
overflow_add-done c = let a = c.args in
    let f = next_fits a.self.now a.p a.done a.records.now c.requires in
    search (rules, arith)

pub returns-then-number-done-clause-went : goal.returns-then-number-done-clause-went
returns-then-number-done-clause-went c = let a = c.args in
    basic_not a.self.now a.p a.done a.records.now c.requires (sym c.in-Basic.ensures.event) c.if-number-done.true

pub overflow_add-sends : goal.overflow_add-sends
overflow_add-sends c = let a = c.args in
    let f = next_fits a.self.now a.p a.done a.records.now c.requires in
    search (rules, arith)

pub note-requires : goal.note-requires
note-requires c = let a = c.args in
    let z = sent_room a.self.now a.p a.done a.records.now c.requires (sym c.in-Sent.ensures.event) in
    (z.0, z.1)

pub put-requires : goal.put-requires
put-requires c = let a = c.args in
    let z = sent_room a.self.now a.p a.done a.records.now c.requires (sym c.in-Sent.ensures.event) in
    note_room a.self.now.table.n a.self.now.table.e a.p (a.done.sends + 1) (length a.self.now.notes.now) c.requires.0 z.2
    (room a.self.now a.p a.done a.records.now c.requires)

pub take-requires : goal.take-requires
take-requires c = let a = c.args in plain_room a.self.now a.p a.done a.records.now c.requires (sym c.in-Received.ensures.event)

pub returns-in_err-there-in-Received-clause-went : goal.returns-in_err-there-in-Received-clause-went
returns-in_err-there-in-Received-clause-went c = let a = c.args in
    let e = err_from_is_err_and c.from_residual.result c.from_residual.ensures.1 in
    let T = c.in_err-there-in-Received.ensures.took in
    rw e.1 (plain_not a.self.now a.p a.done a.records.now c.requires (sym c.in-Received.ensures.event) refl refl T.0 T.1)

pub returns-else-number-done-clause-went : goal.returns-else-number-done-clause-went
returns-else-number-done-clause-went c = let a = c.args in
    let W = basic_goes a.self.now a.p a.done a.records.now c.requires (sym c.in-Basic.ensures.event) (search (rules, arith)) in
    (W, omega arith, next_within a.self.now a.p a.done a.records.now c.requires)

pub returns-in-Sent-clause-went : goal.returns-in-Sent-clause-went
returns-in-Sent-clause-went c = let a = c.args in
    let W = sent_goes a.self.now a.p a.done a.records.now c.requires (sym c.in-Sent.ensures.event) refl refl in
    (rw (c.put.ensures, c.note.ensures) W, omega arith, next_within a.self.now a.p a.done a.records.now c.requires)

pub returns-in_ok-there-in-Received-clause-went : goal.returns-in_ok-there-in-Received-clause-went
returns-in_ok-there-in-Received-clause-went c = let a = c.args in
    let T = c.in_ok-there-in-Received.ensures.took in
    rw c.then_some.ensures (plain_took a.self.now a.p a.done a.records.now c.requires (sym c.in-Received.ensures.event) refl T.0 T.1 T.2)
