use Rattle.notes.specs.Noted.{state_at, places}
use Rattle.notes.proofs.Groups.{group_inside, strike_turn}
use Rattle.notes.proofs.Room.strike_receipts.Goals as goal

pub strike_by_place-requires : goal.strike_by_place-requires
strike_by_place-requires c = let C = c.args.self.now.cut in
    let N = c.loop-p.invariant.0 in
    group_inside (state_at C) (places C) c.args.senders.now N.group N.room

pub loop-p-preserved : goal.loop-p-preserved
loop-p-preserved c = let s = c.loop-p in
    let turn = strike_turn c.args.self.now.cut c.args.senders.now s.self.to.now s.invariant.0 c.loop-p-test.true c.part.ensures.held c.strike_by_place.ensures in
    (turn.0, s.invariant.1)
