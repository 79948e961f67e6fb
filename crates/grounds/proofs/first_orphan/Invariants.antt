use Rattle.std.proofs.Common.{◌≡◌, ◌≤◌, false, get_or}
use Rattle.std.proofs.Math.Option.{none}
use Rattle.rules.specs.Records.{has_send}
use Rattle.rules.specs.Lines.{orphan}
use Rattle.rules.specs.Grounds.{first_after}
use Rattle.events.specs.Events.{first_of}
use Rattle.layout.specs.Tables.{state_of}
use Rattle.cuts.specs.Parts.{positions}
use Rattle.grounds.proofs.first_orphan.Given as goal

abbrev pub invariant-loop-j : goal.invariant-loop-j
invariant-loop-j l = (l.j-end ≤ l.sender.count) × (has_send (first_of l.sender l.j) l.p l.k ≡ false)

abbrev pub invariant-search : goal.invariant-search
invariant-search l = (l.place ≡ 0)
    × (first_after (orphan (state_of l.table) (positions l.cut) l.p) (get_or (positions l.cut) l.p 0) (first_of l.records l.i) ≡ none)
