-- One record more, or one less, in a scan for a failure line.
use mathlib.Core.Path.{◌≡◌, refl, sym, ap, ◌∙◌, subst}
use mathlib.Core.Logic.{◌≢◌}
use mathlib.Core.Bool.{Bool, true, false, not, cond, ◌||◌}
use mathlib.Core.List.{[], ◌∷◌}
use Prim.Native.Nat.{ℕ, zero, suc, ◌+◌, ◌-◌, ◌*◌, ◌≤◌, ◌<◌}
use native.Mathlib.Omega.{arith}
use lib.Dec.{ltb, eqb}
use borrow.Author.Tests.{ltb-true, ltb-false, eqb-true, eq-eqb, ne_eqb, not-false}
use lib.ListN.{length}
use Rattle.xdr.specs.Words.{word}
use Rattle.rules.specs.Records.{Event, basic, forced, sent, received, History, sends}
use Rattle.rules.specs.Table.{width, event_at, records_at}
use Rattle.rules.specs.Lines.{upto, is_checkpoint}
use Rattle.rules.specs.FailureLine.{last_saved}
use Rattle.basics.proofs.Booleans.{Test, passes, fails, test, or_false, clash}
use Rattle.records.proofs.Cuts.{last_le}
use Rattle.tables.proofs.WellLaid.{records_length}
use Rattle.tables.proofs.Scans.{records_upto}
use Rattle.events.specs.declared.Records.{Records}
use Rattle.events.specs.Events.{held}

-- as many as there are
pub held_length : (r : Records) → length (held r) ≡ r.count
held_length r = records_length (word r.bytes.now) r.at r.count

-- a record's sends and those before it
sends_one : (e : Event) (h : History) → sends (e ∷ h) ≡ sends (e ∷ []) + sends h
sends_one (basic m) h = omega arith
sends_one (forced m) h = omega arith
sends_one (sent q) h = omega arith
sends_one (received q k c) h = omega arith

-- ---- the records from word `at` on

module _ (w : ℕ → ℕ) (at : ℕ) where
  abbrev record_here : ℕ → Event
  record_here i = event_at w (at + width * i)

  -- ---- back to a saved position

  last_at : (i : ℕ) → last_saved (records_at w at i) ≤ i
  last_at i = subst (λ (x : ℕ). last_saved (records_at w at i) ≤ x) (records_length w at i) (last_le (records_at w at i))

  -- the last of some records is a checkpoint, or the latest saved position is that of the records before it
  last_next : (j : ℕ) → last_saved (records_at w at (suc j)) ≡ cond (is_checkpoint (record_here j)) (suc j) (last_saved (records_at w at j))
  last_next j = ap (λ (l : ℕ). cond (is_checkpoint (record_here j)) (suc l) (last_saved (records_at w at j))) (records_length w at j)

  pub saved_next : {i : ℕ} {b : Bool} → i ≢ 0 → b ≡ is_checkpoint (record_here (i - 1)) → b ≡ eqb (last_saved (records_at w at i)) i
  saved_next {i = zero} ne x = absurd (ne refl)
  saved_next {i = suc j} ne x =
      let d : suc j - 1 ≡ j = omega arith in
      rw (x, d) (rw (last_next j) (go (is_checkpoint (record_here j)) (last_at j)))
    where
      go : (b : Bool) → last_saved (records_at w at j) ≤ j → b ≡ eqb (cond b (suc j) (last_saved (records_at w at j))) (suc j)
      go true l = sym (eq-eqb (suc j) (suc j) refl)
      go false l = sym (ne_eqb (last_saved (records_at w at j)) (suc j) (omega arith))

  module _ (c r i : ℕ) (le : i ≤ c) {s : Bool} (found : s ≡ eqb (last_saved (upto i (records_at w at c))) i) where
    is : s ≡ eqb (last_saved (records_at w at i)) i
    is = found ∙ ap (λ h. eqb (last_saved h) i) (records_upto w at i c le)

    pub back_next : 0 < i → (ltb r i || not s) ≡ true → (i ≤ r → last_saved (records_at w at i) ≡ last_saved (records_at w at r))
        → {j : ℕ} → j ≡ i - 1 → j ≤ r → last_saved (records_at w at j) ≡ last_saved (records_at w at r)
    back_next m t last {j} e below = go (test (ltb r i)) (test s)
      where
        up : i ≡ suc j
        up = omega arith

        -- the record at i is no checkpoint
        skipped : s ≡ false → last_saved (records_at w at j) ≡ last_saved (records_at w at i)
        skipped f = sym (ap (λ (m : ℕ). last_saved (records_at w at m)) up ∙ last_next j ∙ kind (test (is_checkpoint (record_here j))))
          where
            kind : Test (is_checkpoint (record_here j))
                → cond (is_checkpoint (record_here j)) (suc j) (last_saved (records_at w at j)) ≡ last_saved (records_at w at j)
            kind (passes x) =
                let l : last_saved (records_at w at i) ≡ i = ap (λ (m : ℕ). last_saved (records_at w at m)) up ∙ last_next j ∙ rw x (sym up) in
                clash s (is ∙ eq-eqb (last_saved (records_at w at i)) i l) f
            kind (fails x) = rw x

        go : Test (ltb r i) → Test s → last_saved (records_at w at j) ≡ last_saved (records_at w at r)
        go (passes x) y = ap (λ (m : ℕ). last_saved (records_at w at m)) (let l = ltb-true r i x in let u = up in let q : j ≡ r = omega arith in q)
        go (fails x) (passes y) = clash (ltb r i || not s) t (rw (x, y))
        go (fails x) (fails y) = skipped y ∙ last (ltb-false r i x)

    pub back_done : (ltb r i || not s) ≡ false → (i ≤ r → last_saved (records_at w at i) ≡ last_saved (records_at w at r))
        → i ≡ last_saved (records_at w at r)
    back_done f last =
        let o = or_false (ltb r i) (not s) f in
        sym (eqb-true (last_saved (records_at w at i)) i (sym is ∙ not-false s o.1)) ∙ last (ltb-false r i o.0)

  -- one record less
  pub sends_back : {i j k x : ℕ} → 0 < i → j ≡ i - 1 → k ≡ sends (records_at w at i) → x ≡ sends (record_here j ∷ [])
      → (x ≤ k) × (k - x ≡ sends (records_at w at j))
  sends_back {i} {j} {k} {x} m d y e =
      let u : i ≡ suc j = omega arith in
      let z : k ≡ x + sends (records_at w at j) = y ∙ ap (λ q. sends (records_at w at q)) u ∙ sends_one (record_here j) (records_at w at j) ∙ ap (λ q. q + sends (records_at w at j)) (sym e) in
      (omega arith, omega arith)
