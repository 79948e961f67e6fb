-- What a cut says of its processes.
use Rattle.std.specs.Prelude.{List, map, ℕ, get_or}
use Rattle.cuts.specs.declared.Part.{Part}

abbrev pub positions : List Part → List ℕ
positions cut = map (λ x. x.position) cut

abbrev pub counts : List Part → List ℕ
counts cut = map (λ x. x.sends) cut

-- process p's part of a cut
abbrev pub part_at : List Part → ℕ → Part
part_at cut p = get_or cut p (record { position = 0; sends = 0 })
