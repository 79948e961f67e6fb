-- One process taken back before the first of its records that passes a test.
use mathlib.Core.Path.{◌≡◌, sym, ap, ◌∙◌}
use mathlib.Core.Bool.{Bool}
use Prim.Native.Nat.{ℕ, ◌≤◌}
use native.Mathlib.Omega.{arith}
use lib.ListN.{length}
use Rattle.std.specs.Prelude.{Some, None}
use Rattle.rules.specs.Records.{Event, sends}
use Rattle.rules.specs.Lines.{upto}
use Rattle.rules.specs.FailureLine.{any, before, last_saved, lowered}
use Rattle.basics.proofs.Older.{older_length}
use Rattle.basics.proofs.Booleans.{Test, passes, fails, test}
use Rattle.records.proofs.Cuts.{upto_older, upto_exact, upto_mono, before_older, last_le}
use Rattle.cuts.proofs.Scanned.{held_length}
use Rattle.events.specs.declared.Records.{Records}
use Rattle.events.specs.Events.{held, first_index}

module _ (o : Event → Bool) (r g : Records) (t : ℕ) (le : t ≤ r.count) (is : held g ≡ upto t (held r)) where
  pub lower_stays : None ≡ first_index o (held g) → t ≡ lowered o (held r) t
  lower_stays e = go (test (any o (held g)))
    where
      go : Test (any o (held g)) → t ≡ lowered o (held r) t
      go (passes z) = let f = rw z at e in absurd (let y : ⊥ = cc in y)
      go (fails z) = rw (← is, z)

  pub lower_moves : {x : ℕ} → Some x ≡ first_index o (held g) → {y k : ℕ} → y ≡ last_saved (upto x (held g)) → k ≡ sends (upto y (held g))
      → (y ≡ lowered o (held r) t) × (k ≡ sends (upto y (held r)))
  lower_moves {x} e {y} {k} a b = go (test (any o (held g)))
    where
      go : Test (any o (held g)) → (y ≡ lowered o (held r) t) × (k ≡ sends (upto y (held r)))
      go (fails z) = let f = rw z at e in absurd (let y : ⊥ = cc in y)
      go (passes z) =
          let f = rw z at e in
          let s : x ≡ length (before o (held g)) = cc in
          let h = held r in
          let u : upto x (held g) ≡ before o (held g) = ap (λ m. upto m (held g)) s ∙ upto_older (before_older o (held g)) in
          let n = held_length r in
          let m = upto_exact t h (omega arith) in
          let l = last_le (before o (held g)) in
          let d : y ≡ last_saved (before o (held g)) = a ∙ ap last_saved u in
          let w = older_length (before_older o (held g)) in
          let v = ap length is in
          let i = upto_exact y h (omega arith) in
          let j : upto y (held g) ≡ upto y h = ap (upto y) is ∙ ap (λ j. upto j (upto t h)) (sym i) ∙ upto_older (upto_mono y t h (omega arith)) in
          (d ∙ (rw (← is, z)), b ∙ ap sends j)
