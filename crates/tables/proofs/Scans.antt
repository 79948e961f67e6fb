-- What one more record does to what a scan has found. A scan reads a record's words, and no kind but 3 and 4 is told apart.
use mathlib.Core.Path.{◌≡◌, refl, sym, ◌∙◌, subst, ap}
use mathlib.Core.Bool.{Bool, true, false, not, cond, ◌&&◌, ◌||◌}
use mathlib.Core.List.{◌∷◌}
use Prim.Native.Nat.{ℕ, zero, suc, ◌+◌, ◌*◌, ◌≤◌, ◌<◌}
use native.Mathlib.Numerals.{add-one}
use native.Mathlib.Omega.{arith}
use native.Mathlib.Decide.{dec_lt}
use lib.Dec.{eqb, leb}
use lib.ListN.{length}
use borrow.Author.Tests.{eqb-true, lt-leb, le-leb}
use Rattle.rules.specs.Records.{Event, basic, forced, sent, received, History, number, sends, has_receipt}
use Rattle.rules.specs.Table.{width, event_at, records_at}
use Rattle.rules.specs.Lines.{at_least, upto}
use Rattle.basics.proofs.Booleans.{Test, passes, fails, test, either}
use Rattle.tables.proofs.Laid.{sends_length}
use Rattle.tables.proofs.WellLaid.{records_length}
use Rattle.basics.proofs.Older.{Older, older_length}
use Rattle.records.proofs.Cuts.{upto_is_older, upto_older}

-- a value that is the same for basic and forced checkpoints
pub event : {A : Type 0} (f : Event → A) (w : ℕ → ℕ) (i : ℕ) → f (forced (w (i + 1))) ≡ f (basic (w (i + 1)))
    → f (event_at w i) ≡ cond (eqb (w i) 4) (f (received (w (i + 1)) (w (i + 2)) (w (i + 3)))) (cond (eqb (w i) 3) (f (sent (w (i + 1)))) (f (basic (w (i + 1)))))
event {A} f w i e = go (eqb (w i) 4) (eqb (w i) 3) (eqb (w i) 2)
  where
    a : ℕ
    a = w (i + 1)

    b : ℕ
    b = w (i + 2)

    c : ℕ
    c = w (i + 3)

    go : (x y z : Bool)
        → f (cond x (received a b c) (cond y (sent a) (cond z (forced a) (basic a)))) ≡ cond x (f (received a b c)) (cond y (f (sent a)) (f (basic a)))
    go true y z = refl
    go false true z = refl
    go false false true = e
    go false false false = refl

-- the value of a kind that is not told from the rest first
pub second_only : {A : Type 0} (kind : ℕ) (u v : A) → cond (eqb kind 4) v (cond (eqb kind 3) u v) ≡ cond (eqb kind 3) u v
second_only kind u v = go (test (eqb kind 4))
  where
    go : Test (eqb kind 4) → cond (eqb kind 4) v (cond (eqb kind 3) u v) ≡ cond (eqb kind 3) u v
    go (passes e) = rw (eqb-true kind 4 e)
    go (fails e) = rw e

-- ---- one more record, whose words start at word i

module _ (h : History) (w : ℕ → ℕ) (i : ℕ) where
  number_event : number (event_at w i ∷ h) ≡ cond (eqb (w i) 4 || eqb (w i) 3) (number h) (w (i + 1))
  number_event = event (λ e. number (e ∷ h)) w i refl ∙ either (eqb (w i) 4) (eqb (w i) 3) (number h) (w (i + 1))

  sends_event : sends (event_at w i ∷ h) ≡ cond (eqb (w i) 3) (sends h + 1) (sends h)
  sends_event = rw (add-one (sends h)) (event (λ e. sends (e ∷ h)) w i refl ∙ second_only (w i) (suc (sends h)) (sends h))

  receipt_event : (q k : ℕ) → has_receipt (event_at w i ∷ h) q k ≡ (has_receipt h q k || (eqb (w i) 4 && eqb (w (i + 1)) q && eqb (w (i + 2)) k))
  receipt_event q k =
      event (λ e. has_receipt (e ∷ h) q k) w i refl ∙ go (eqb (w i) 4) (eqb (w i) 3) (eqb (w (i + 1)) q) (eqb (w (i + 2)) k) (has_receipt h q k)
    where
      go : (x y u v r : Bool) → cond x ((u && v) || r) (cond y r r) ≡ (r || (x && u && v))
      go true y true true true = refl
      go true y true true false = refl
      go true y true false true = refl
      go true y true false false = refl
      go true y false v true = refl
      go true y false v false = refl
      go false true u v true = refl
      go false true u v false = refl
      go false false u v true = refl
      go false false u v false = refl

-- a checkpoint with a number of N or more
pub least_event : (N : ℕ) (w : ℕ → ℕ) (i : ℕ) → at_least N (event_at w i) ≡ (not (eqb (w i) 4 || eqb (w i) 3) && leb N (w (i + 1)))
least_event N w i = event (at_least N) w i refl ∙ go (eqb (w i) 4) (eqb (w i) 3)
  where
    go : (x y : Bool) → cond x false (cond y false (leb N (w (i + 1)))) ≡ (not (x || y) && leb N (w (i + 1)))
    go true y = refl
    go false true = refl
    go false false = refl

-- ---- the first i records from word `at` on, and the next one, of which the words kind, a and b are read

module _ (w : ℕ → ℕ) (at i : ℕ) where
  abbrev past : History
  past = records_at w at i

  -- where the next record starts
  abbrev here : ℕ
  here = at + width * i

  module _ {kind : ℕ} (x : kind ≡ w here) where
    pub sends_next : {s r : ℕ} → s ≡ sends past → r ≡ cond (eqb kind 3) (s + 1) s → r ≡ sends (records_at w at (i + 1))
    sends_next e r = r ∙ rw (e, x, add-one i) (sym (sends_event past w here))

    module _ {a : ℕ} (y : a ≡ w (here + 1)) where
      pub number_next : {m r : ℕ} → m ≡ number past → r ≡ cond (eqb kind 4 || eqb kind 3) m a → r ≡ number (records_at w at (i + 1))
      number_next e r = r ∙ rw (e, x, y, add-one i) (sym (number_event past w here))

      pub receipt_next : (q k : ℕ) {b : ℕ} → b ≡ w (here + 2) → {f : Bool} → f ≡ has_receipt past q k
          → (f || (eqb kind 4 && eqb a q && eqb b k)) ≡ has_receipt (records_at w at (i + 1)) q k
      receipt_next q k z e = rw (e, x, y, z, add-one i) (sym (receipt_event past w here q k))

-- no section has more sends than records
pub sends_at_most : (w : ℕ → ℕ) (at i : ℕ) → sends (records_at w at i) ≤ i
sends_at_most w at i = subst (λ (x : ℕ). sends (records_at w at i) ≤ x) (records_length w at i) (sends_length (records_at w at i))

-- ---- the first i of some records

module _ (w : ℕ → ℕ) (at : ℕ) where
  pub records_upto : (i c : ℕ) → i ≤ c → upto i (records_at w at c) ≡ records_at w at i
  records_upto i zero le = ap (records_at w at) (let e : 0 ≡ i = omega arith in e)
  records_upto i (suc c) le = go (dec_lt i (suc c)) (records_upto i c)
    where
      h : History
      h = records_at w at c

      go : Dec (i < suc c) → (i ≤ c → upto i h ≡ records_at w at i) → upto i (records_at w at (suc c)) ≡ records_at w at i
      go (yes l) f = let n = records_length w at c in rw (lt-leb (suc (length h)) i (omega arith)) (f (omega arith))
      go (no l) f =
          let n = records_length w at c in
          rw (le-leb (suc (length h)) i (omega arith)) (ap (records_at w at) (let e : suc c ≡ i = omega arith in e))

  -- they are an older part, and every older part is some first ones
  pub first_older : (i c : ℕ) → i ≤ c → Older (records_at w at i) (records_at w at c)
  first_older i c le = subst (λ (h : History). Older h (records_at w at c)) (records_upto i c le) (upto_is_older i (records_at w at c))

  pub older_first : (c : ℕ) {g : History} → Older g (records_at w at c) → g ≡ records_at w at (length g)
  older_first c {g} o =
      let n = records_length w at c in
      let l = older_length o in
      sym (upto_older o) ∙ records_upto (length g) c (omega arith)
