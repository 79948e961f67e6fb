-- What document 01 says of each case of a field.
use Rattle.std.specs.Prelude.{ℕ, Option, Some, None, Result, Ok, Err}
use Rattle.rules.specs.Text as text
use Rattle.fields.specs.declared.Unreadable.{Unreadable}

-- what a field holds, in document 01's terms
abbrev pub field_as : Result (Option ℕ) Unreadable → text.Field
field_as (Ok None) = text.empty
field_as (Ok (Some v)) = text.number v
field_as (Err e) = text.other
