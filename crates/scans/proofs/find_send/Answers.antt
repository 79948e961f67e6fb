use Rattle.std.proofs.Common.{rules}
use Rattle.xdr.specs.Words.{word}
use Rattle.scans.proofs.Found.{send_found}
use Rattle.scans.proofs.find_send.Goals as goal

pub returns-in-loop-i : goal.returns-in-loop-i
returns-in-loop-i c = let r = c.args.records.now in
    send_found (word r.bytes.now) r.at c.loop-i.i c.args.k c.loop-i-test.true c.loop-i.invariant c.requires
    c.in-Sent.ensures.event c.in-Sent.ensures.sent (search rules)
