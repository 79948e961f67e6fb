-- The first record for which a test holds.
use mathlib.Core.Path.{◌≡◌, sym, ap, ◌∙◌}
use mathlib.Core.Bool.{Bool, true, false, ◌||◌}
use Prim.Native.Nat.{ℕ, zero, suc, ◌+◌, ◌*◌, ◌<◌}
use native.Mathlib.Omega.{arith}
use native.Mathlib.Decide.{dec_lt}
use lib.ListN.{length}
use Rattle.std.specs.Prelude.{Some}
use Rattle.rules.specs.Records.{Event}
use Rattle.rules.specs.Table.{width, event_at, records_at}
use Rattle.rules.specs.FailureLine.{any, before}
use Rattle.basics.proofs.Booleans.{or_right}
use Rattle.records.proofs.Cuts.{before_all}
use Rattle.tables.proofs.WellLaid.{records_length}
use Rattle.events.specs.Events.{first_index}

module _ (w : ℕ → ℕ) (at : ℕ) (o : Event → Bool) where
  abbrev record_here : ℕ → Event
  record_here i = event_at w (at + width * i)

  -- record i is the first
  pub first_found : {i c : ℕ} → i < c → any o (records_at w at i) ≡ false → o (record_here i) ≡ true → Some i ≡ first_index o (records_at w at c)
  first_found {i} {c} lt n y = let f = go c lt in rw f.0 (ap Some f.1)
    where
      go : (m : ℕ) → i < m → (any o (records_at w at m) ≡ true) × (i ≡ length (before o (records_at w at m)))
      go zero l = absurd (omega arith)
      go (suc m) l = at_most (dec_lt i m) (go m)
        where
          at_most : Dec (i < m) → (i < m → (any o (records_at w at m) ≡ true) × (i ≡ length (before o (records_at w at m))))
              → (any o (records_at w at (suc m)) ≡ true) × (i ≡ length (before o (records_at w at (suc m))))
          at_most (yes k) f = let g = f k in let t = or_right (o (record_here m)) (any o (records_at w at m)) g.0 in (t, rw t g.1)
          at_most (no k) f =
              let e : m ≡ i = omega arith in
              let t : (o (record_here i) || any o (records_at w at i)) ≡ true = rw y in
              let z : i ≡ length (before o (records_at w at i)) = sym (ap length (before_all o (records_at w at i) n) ∙ records_length w at i) in
              rw e (t, rw t z)
