use Rattle.std.proofs.Common.{arith, sym, ◌∙◌, ◌+◌, ◌<◌, refl, ap}
use Rattle.std.proofs.lemmas.Result.{err_from_is_err_and}
use Rattle.rules.specs.Records.{received}
use Rattle.replay.proofs.Calls.{forced_low, forced_last, forced_other, not_received, forced_room, forced_not, forced_took}
use Rattle.replay.proofs.Replay.forced.Goals as goal
use Rattle.replay.proofs.Replay.forced.Goals.{then-number-done-via-then-number-done, then-number-done-via-else-number-done+then-i-records}

pub returns-then-number-done-clause-went : goal.returns-then-number-done-clause-went
returns-then-number-done-clause-went c = let a = c.args in
    let P = c.requires.pending in
    elim c.then-number-done.branch [
      | then-number-done-via-then-number-done w ↦ forced_low a.self.now a.p a.done a.records.now P c.requires.record w.if-number-done.true
      | then-number-done-via-else-number-done+then-i-records w ↦ forced_last a.self.now a.p a.done a.records.now P c.requires.record w.if-i-records.true
    ]

-- there is a record behind the forced checkpoint
further : (c : goal.In_default) → c.args.done.records + 1 < c.args.records.now.count
further c = let m = c.requires.pending.2 in let l = c.if-i-records.false in omega arith

pub returns-in_default : goal.returns-in_default
returns-in_default c = let a = c.args in
    record {
      same = (refl, refl, refl);
      went = forced_other a.self.now a.p a.done a.records.now c.requires.pending c.requires.record (further c) (sym c.get.ensures.event)
          (not_received c.get.result c.in_default.not-Received a.number);
    }

pub returns-then-carried-number-clause-went : goal.returns-then-carried-number-clause-went
returns-then-carried-number-clause-went c = let a = c.args in
    let m = c.requires.pending.2 in
    let l = c.if-i-records.false in
    forced_other a.self.now a.p a.done a.records.now c.requires.pending c.requires.record (omega arith) (sym c.in-Received.ensures.event) (λ i j e. c.if-carried-number.true cc)

pub take-requires : goal.take-requires
take-requires c = let a = c.args in
    let m = c.requires.pending.2 in
    let l = c.if-i-records.false in
    let y = sym c.in-Received.ensures.event ∙ ap (received c.in-Received.from c.in-Received.k) c.if-carried-number.false in
    forced_room a.self.now a.p a.done a.records.now c.requires.pending c.requires.record (omega arith) y c.if-number-done.false

pub returns-in_err-there-clause-went : goal.returns-in_err-there-clause-went
returns-in_err-there-clause-went c = let a = c.args in
    let m = c.requires.pending.2 in
    let l = c.if-i-records.false in
    let y = sym c.in-Received.ensures.event ∙ ap (received c.in-Received.from c.in-Received.k) c.if-carried-number.false in
    let e = err_from_is_err_and c.from_residual.result c.from_residual.ensures.1 in
    let T = c.in_err-there.ensures.took in
    rw e.1 (forced_not a.self.now a.p a.done a.records.now c.requires.pending c.requires.record (omega arith) y c.if-number-done.false refl refl T.0 T.1)

pub returns-clause-went : goal.returns-clause-went
returns-clause-went c = let a = c.args in
    let m = c.requires.pending.2 in
    let l = c.if-i-records.false in
    let y = sym c.in-Received.ensures.event ∙ ap (received c.in-Received.from c.in-Received.k) c.if-carried-number.false in
    let T = c.in_ok-there.ensures.took in
    rw c.then_some.ensures
    (forced_took a.self.now a.p a.done a.records.now c.requires.pending c.requires.record (omega arith) y c.if-number-done.false refl T.0 T.1 T.2)
