use Rattle.std.proofs.Common.{◌≡◌, length}
use Rattle.xdr.specs.Words.{put_words}
use Rattle.rules.specs.Resend.{messages_words, transit_below}
use Rattle.notes.specs.Noted.{state_at, places}
use Rattle.transit.proofs.list.Given as goal

abbrev pub invariant-loop-q : goal.invariant-loop-q
invariant-loop-q l = (l.notes.cut ≡ l.initial.notes.cut) × (l.count ≡ length (transit_below (state_at l.initial.notes.cut) (places l.initial.notes.cut) l.q))
    × (l.area ≡ put_words l.initial.area 1 (messages_words (transit_below (state_at l.initial.notes.cut) (places l.initial.notes.cut) l.q))) × (length l.area ≡ length l.initial.area)
