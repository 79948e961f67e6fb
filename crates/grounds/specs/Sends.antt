-- What the search for a receipt's send asks of a record.
use Rattle.std.specs.Prelude.{Bool, false, ◌&&◌, ℕ, eqb}
use Rattle.events.specs.declared.Event.{Event}
use Rattle.events.specs.declared.Event.TheVariants as event

-- its words say that it is send k, to process p
abbrev pub is_send : ℕ → ℕ → Event → Bool
is_send p k (event.Basic m) = false
is_send p k (event.Forced m) = false
is_send p k (event.Sent q j c) = eqb j k && eqb q p
is_send p k (event.Received q j c) = false
