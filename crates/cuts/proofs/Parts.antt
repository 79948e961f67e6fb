-- One part of a cut, and the cut with another one in its place.
use Rattle.std.proofs.Common.{◌≡◌, List, ℕ, length, get_or, set}
use Rattle.std.proofs.lemmas.List.{map-set, length-map}
use Rattle.std.proofs.Math.ListN.{get_or-map}
use Rattle.cuts.specs.declared.Part.{Part}
use Rattle.cuts.specs.Parts.{positions, counts, part_at}

module _ (cut : List Part) where
  pub positions_length : length (positions cut) ≡ length cut
  positions_length = length-map cut (λ x. x.position)

  pub counts_length : length (counts cut) ≡ length cut
  counts_length = length-map cut (λ x. x.sends)

  pub position_at : (p : ℕ) → get_or (positions cut) p 0 ≡ (part_at cut p).position
  position_at p = get_or-map (λ x. x.position) cut p (record { position = 0; sends = 0 })

  pub sends_at : (p : ℕ) → get_or (counts cut) p 0 ≡ (part_at cut p).sends
  sends_at p = get_or-map (λ x. x.sends) cut p (record { position = 0; sends = 0 })

  pub positions_set : (p : ℕ) (x : Part) → positions (set cut p x) ≡ set (positions cut) p x.position
  positions_set p x = map-set (λ y. y.position) cut p x

  pub counts_set : (p : ℕ) (x : Part) → counts (set cut p x) ≡ set (counts cut) p x.sends
  counts_set p x = map-set (λ y. y.sends) cut p x
