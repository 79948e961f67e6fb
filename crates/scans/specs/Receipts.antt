-- What the search for a receipt asks of a record.
use Rattle.std.specs.Prelude.{Bool, false, ◌&&◌, ℕ, eqb}
use Rattle.rules.specs.Records.{Event, basic, forced, sent, received}

-- it is a receipt of (q, k)
abbrev pub is_receipt : ℕ → ℕ → Event → Bool
is_receipt q k (basic m) = false
is_receipt q k (forced m) = false
is_receipt q k (sent d) = false
is_receipt q k (received r j c) = eqb r q && eqb j k
