use Rattle.std.proofs.Common.{arith, refl, inl, ap, length}
use Rattle.std.proofs.lemmas.Option.{MatchOption-at_none}
use Rattle.replay.proofs.Rounds.{kept_done, came_kept, came_whole}
use Rattle.xdr.specs.Words.{word}
use Rattle.tables.proofs.WellLaid.{records_length}
use Rattle.replay.proofs.Ways.{done_within}
use Rattle.replay.proofs.Replay.furthest.Goals as goal

pub loop-done-init : goal.loop-done-init
loop-done-init c = let t = c.args.self.now.table in
    let W = c.requires.1.0 in
    ((refl, refl, refl), (kept_done t c.args.p W, done_within t W c.args.p c.requires.0, inl refl))

pub returns-in-None-clause-went : goal.returns-in-None-clause-went
returns-in-None-clause-went c = let I = c.loop-done.invariant in
    let w = MatchOption-at_none _ _ c.in-None.is c.in_ok-next.ensures.went in
    came_kept c.loop-done.self c.next.new.self c.next.ensures.same c.args.p c.loop-done.done w.0 I.1 w.1

pub returns-clause-went : goal.returns-clause-went
returns-clause-went c = let I = c.loop-done.invariant in
    let r = c.records-records.result in
    let n = records_length (word r.bytes.now) r.at r.count in
    let h = ap length c.records-records.ensures.held in
    let l = c.loop-done-test.false in
    (I.1, came_whole c.args.self.now c.loop-done.self I.0 c.args.p c.loop-done.done c.requires.1 c.requires.0 I.1 (omega arith))
