use Rattle.std.proofs.Common.{arith}
use Rattle.notes.proofs.Messages.{in_room, notes_left}
use Rattle.notes.proofs.Notes.of.Goals as goal

pub offset_bounds-senders-q : goal.offset_bounds-senders-q
offset_bounds-senders-q c = let i = c.self.inside in
    let few = (in_room i.room.cut i.senders i.room.to.now c.self.invariant c.self.view_is c.args.q c.requires).1 in
    omega arith

pub overflow_add-start : goal.overflow_add-start
overflow_add-start c = let i = c.self.inside in
    omega (arith, (in_room i.room.cut i.senders i.room.to.now c.self.invariant c.self.view_is c.args.q c.requires).0, c.from-start.ensures, c.self.told.0)

pub overflow_add-result : goal.overflow_add-result
overflow_add-result c = let i = c.self.inside in
    omega (arith, (in_room i.room.cut i.senders i.room.to.now c.self.invariant c.self.view_is c.args.q c.requires).0, c.from-start.ensures, c.from.ensures, c.self.told.0)

pub slice_bounds-result-end-2 : goal.slice_bounds-result-end-2
slice_bounds-result-end-2 c = let i = c.self.inside in
    omega (arith, (in_room i.room.cut i.senders i.room.to.now c.self.invariant c.self.view_is c.args.q c.requires).0, c.from-start.ensures, c.from.ensures)

pub returns-clause-left : goal.returns-clause-left
returns-clause-left c = let i = c.self.inside in
    notes_left i.room.cut i.senders i.room.to.now c.self.invariant c.self.view_is c.args.q c.requires c.from-start.ensures c.from.ensures
