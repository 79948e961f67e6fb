use Rattle.std.proofs.Common.{◌≡◌, ◌+◌, ◌*◌, length}
use lib.ListN.{take}
use Rattle.xdr.specs.Words.{put_words}
use Rattle.rules.specs.Resend.{messages_words}
use Rattle.notes.specs.Noted.{left_in}
use Rattle.transit.proofs.list_sender.Given as goal

abbrev pub invariant-loop-i : goal.invariant-loop-i
invariant-loop-i l = (l.count ≡ l.others + length (left_in l.q 0 (take l.i l.notes)))
    × (l.area ≡ put_words l.initial.area (1 + 3 * l.others) (messages_words (left_in l.q 0 (take l.i l.notes)))) × (length l.area ≡ length l.initial.area)
