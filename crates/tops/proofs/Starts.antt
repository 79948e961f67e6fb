-- A cut at the latest permitted positions.
use Rattle.std.proofs.Common.{arith}
use mathlib.Core.Path.{◌≡◌, sym, ap, ◌∙◌}
use mathlib.Core.Bool.{Bool, true, false}
use mathlib.Core.List.{List}
use Prim.Native.Nat.{ℕ, ◌+◌, ◌<◌}
use native.Mathlib.Decide.{ℕ_discrete}
use lib.ListN.{length, get_or, set}
use lib.Seq.{get_or-set_same, get_or-set_other}
use Rattle.rules.specs.Records.{History, State, history, sends}
use Rattle.rules.specs.Lines.{upto, failed}
use Rattle.rules.specs.FailureLine.{last_saved, top}
use Rattle.basics.proofs.Older.{same}
use Rattle.records.proofs.Cuts.{upto_older, top_le, top_permitted, top_latest}
use Rattle.events.specs.declared.Records.{Records}
use Rattle.events.specs.Events.{held}
use Rattle.cuts.specs.declared.Part.{Part}
use Rattle.cuts.specs.Parts.{positions, counts}
use Rattle.cuts.proofs.Scanned.{held_length}
use Rattle.cuts.proofs.Parts.{positions_length, counts_length, positions_set, counts_set}
use Rattle.tops.specs.Tops.{Counted, Over}

-- ---- the latest permitted position of a process with these records

module _ (h : History) (r : Records) (is : held r ≡ h) where
  pub counted : r.count ≡ length h
  counted = sym (held_length r) ∙ ap length is

  pub top_down : {down : Bool} → down ≡ true → {x k : ℕ} → x ≡ last_saved (upto r.count (held r)) → k ≡ sends (upto x (held r))
      → (x ≡ top down h) × (k ≡ sends (upto x h))
  top_down d {x} a y =
      let u : upto r.count (held r) ≡ h = rw (is, counted) (upto_older same) in
      (rw d (a ∙ ap last_saved u), y ∙ ap (λ g. sends (upto x g)) is)

  pub top_up : {down : Bool} → down ≡ false → {k : ℕ} → k ≡ sends h → (r.count ≡ top down h) × (k ≡ sends (upto r.count h))
  top_up d y =
      let u : upto r.count h ≡ h = rw counted (upto_older same) in
      (rw d counted, y ∙ ap sends (sym u))

-- ---- the start

-- the processes below p are at their latest permitted positions
abbrev pub Started : ℕ → State → List Part → ℕ → Type 0
Started mask s cut p = (q : ℕ) → q < p
    → (get_or (positions cut) q 0 ≡ top (failed mask q) (history s q)) × (get_or (counts cut) q 0 ≡ sends (upto (get_or (positions cut) q 0) (history s q)))

pub started_next : (mask : ℕ) (s : State) (cut : List Part) (p : ℕ) → Started mask s cut p → p < length cut → (x : Part) {down : Bool}
    → down ≡ failed mask p → (x.position ≡ top down (history s p)) × (x.sends ≡ sends (upto x.position (history s p)))
    → Started mask s (set cut p x) (p + 1)
started_next mask s cut p f l x {down} d g q lt = rw (positions_set cut p x, counts_set cut p x) (go (ℕ_discrete q p))
  where
    h : History
    h = history s q

    P : List ℕ
    P = set (positions cut) p x.position

    S : List ℕ
    S = set (counts cut) p x.sends

    lp : p < length (positions cut)
    lp = let e = positions_length cut in omega arith

    ls : p < length (counts cut)
    ls = let e = counts_length cut in omega arith

    go : Dec (q ≡ p) → (get_or P q 0 ≡ top (failed mask q) h) × (get_or S q 0 ≡ sends (upto (get_or P q 0) h))
    go (yes e) =
        rw (e, get_or-set_same (positions cut) p x.position 0 lp, get_or-set_same (counts cut) p x.sends 0 ls)
        (g.0 ∙ ap (λ (b : Bool). top b (history s p)) d, g.1)
    go (no ne) = rw (get_or-set_other (positions cut) p q x.position 0 ne, get_or-set_other (counts cut) p q x.sends 0 ne) (f q (omega arith))

pub started_done : (mask : ℕ) (s : State) (cut : List Part) → length cut ≡ 16 → Started mask s cut (length s)
    → Counted s (positions cut) (counts cut) × Over mask s (positions cut)
started_done mask s cut l f = (
  record {
    positions = positions_length cut ∙ l;
    sixteen = counts_length cut ∙ l;
    within = λ p lt. rw (f p lt).0 (top_le (failed mask p) (history s p));
    counted = λ p lt. (f p lt).1;
  },
  record {
    permit = λ p lt. rw (f p lt).0 (top_permitted (failed mask p) (history s p));
    latest = λ other A clean p lt. rw (f p lt).0 (top_latest (failed mask p) (history s p) (get_or other p 0) (A.each p lt));
  },
)
