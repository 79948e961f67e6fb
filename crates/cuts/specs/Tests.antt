-- What the scans for a failure line ask of a record.
use Rattle.std.specs.Prelude.{Bool, false, not, List, ℕ, ◌%◌, ltb, eqb, get_or, Option, Some, None}
use Rattle.rules.specs.Records.{Event, basic, forced, sent, received}
use Rattle.cuts.specs.declared.Span.{Span}
use Rattle.cuts.specs.Notes.{span_of, place_in}

-- a receipt whose send number is above the sender's count of sends, of which there are sixteen
abbrev pub late : List ℕ → Event → Bool
late counts (basic m) = false
late counts (forced m) = false
late counts (sent q) = false
late counts (received q k c) = ltb (get_or counts (q % 16) 0) k

-- another process than p is noted at a place
abbrev pub other_noted : ℕ → List ℕ → Option ℕ → Bool
other_noted p to None = false
other_noted p to (Some i) = not (eqb (get_or to i 0) p)

-- a receipt of process p whose send is noted, as one to another process
abbrev pub noted_astray : List Span → ℕ → List ℕ → Event → Bool
noted_astray spans p to (basic m) = false
noted_astray spans p to (forced m) = false
noted_astray spans p to (sent q) = false
noted_astray spans p to (received q k c) = other_noted p to (place_in (span_of spans (q % 16)) k)
