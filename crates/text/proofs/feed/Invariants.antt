use mathlib.Core.Path.{◌≡◌}
use lib.ListN.{take}
use Rattle.decimal.specs.Output.{page_of}
use Rattle.session.specs.Session.{Took}
use Rattle.text.proofs.feed.Given as goal

abbrev pub invariant-loop-byte : goal.invariant-loop-byte
invariant-loop-byte l =
    Took l.initial.s (page_of l.initial.out) (take l.byte-index l.chunk) l.s (page_of l.out) × (l.out.bytes.ghost_name ≡ l.initial.out.bytes.ghost_name)
