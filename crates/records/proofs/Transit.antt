-- Laws of the messages in transit at a cut: which are listed, in which order, and sums over them.
use mathlib.Core.Path.{◌≡◌, refl, sym, ap, ap₂, ◌∙◌}
use mathlib.Core.Logic.{◌⊎◌, inl, inr, ◌↔◌}
use mathlib.Core.Bool.{Bool, true, false, cond, ◌&&◌}
use mathlib.Core.List.Memᴰ
use mathlib.Core.List.{List, [], ◌∷◌, ◌++◌, map, Memᴰ}
use Prim.Native.Nat.{ℕ, zero, suc, ◌+◌, ◌≤◌, ◌<◌}
use native.Mathlib.Nat.{zero-add}
use native.Mathlib.Omega.{arith}
use native.Mathlib.Decide.{dec_lt}
use lib.Dec.{ltb, eqb}
use lib.ListN.{length, get_or, get_or-eq_default}
use borrow.Author.Tests.{eqb-true, ltb-false, le-ltb}
use Rattle.basics.specs.Sums.{sum_below, sum_pairs}
use Rattle.rules.specs.Records.{Event, basic, forced, sent, received, History, State, history, sends, destination, has_send, has_receipt}
use Rattle.rules.specs.Lines.{upto, part}
use Rattle.rules.specs.FailureLine.{sum}
use Rattle.rules.specs.Resend.{Message, message, got, unless_got, transit_of, transit_below, in_transit, above}
use Rattle.basics.proofs.Booleans.{Test, passes, fails, test, clash, and_left, and_right, or_false, true_or}
use Rattle.records.proofs.Histories.{holds_held, held_holds}

-- a process beyond the last has no records
pub part_beyond : (s : State) (cut : List ℕ) (q : ℕ) → length s ≤ q → part s cut q ≡ []
part_beyond s cut q le = ap (upto (get_or cut q 0)) (get_or-eq_default s [] le)

pub sends_within : (s : State) (cut : List ℕ) (q k : ℕ) → 0 < k → k ≤ sends (part s cut q) → q < length s
sends_within s cut q k pos le = go (dec_lt q (length s))
  where
    go : Dec (q < length s) → q < length s
    go (yes l) = l
    go (no l) = let z = ap sends (part_beyond s cut q (omega arith)) in absurd (omega arith)

-- a receipt of (q, k) that is there stays there
later_there : {h : History} {q k : ℕ} (e : Event) → (c : ℕ) × Memᴰ (received q k c) h → (c : ℕ) × Memᴰ (received q k c) (e ∷ h)
later_there e m = (m.0, Memᴰ.tail m.1)

-- a receipt that a history has is one of its records, whatever it carried
pub receipt_there : (h : History) (q k : ℕ) → has_receipt h q k ≡ true → (c : ℕ) × Memᴰ (received q k c) h
receipt_there [] q k e = clash false e refl
receipt_there (basic m ∷ h) q k e = later_there (basic m) (receipt_there h q k e)
receipt_there (forced m ∷ h) q k e = later_there (forced m) (receipt_there h q k e)
receipt_there (sent d ∷ h) q k e = later_there (sent d) (receipt_there h q k e)
receipt_there (received r j c ∷ h) q k e = go (true_or (eqb r q && eqb j k) (has_receipt h q k) e) (receipt_there h q k)
  where
    go : ((eqb r q && eqb j k) ≡ true) ⊎ (has_receipt h q k ≡ true) → (has_receipt h q k ≡ true → (m : ℕ) × Memᴰ (received q k m) h)
        → (m : ℕ) × Memᴰ (received q k m) (received r j c ∷ h)
    go (inl a) f =
        let x = eqb-true r q (and_left (eqb r q) (eqb j k) a) in
        let y = eqb-true j k (and_right (eqb r q) (eqb j k) a) in
        (c, Memᴰ.head (ap₂ (λ (i l : ℕ). received i l c) (sym x) (sym y)))
    go (inr a) f = later_there (received r j c) (f a)

module _ (s : State) (cut : List ℕ) where
  -- ---- which messages are listed

  -- (q, k) goes to p, which hasn't got it
  pub record Open (q k p : ℕ) : Type 0 where
    pub positive : 0 < k
    pub to : p ≡ destination (part s cut q) k
    pub missing : got s cut q k ≡ false

  pub unless_mem : (r j q k p : ℕ) → Memᴰ (message q k p) (unless_got s cut r j)
      → (q ≡ r) × (k ≡ j) × (p ≡ destination (part s cut r) j) × (got s cut r j ≡ false)
  unless_mem r j q k p m = go (test (got s cut r j))
    where
      go : Test (got s cut r j) → (q ≡ r) × (k ≡ j) × (p ≡ destination (part s cut r) j) × (got s cut r j ≡ false)
      go (passes e) = absurd (Memᴰ.not-nil (rw e at m))
      go (fails e) =
          let x : message q k p ≡ message r j (destination (part s cut r) j) = Memᴰ.eq_of_singleton (rw e at m) in
          ((cc), (cc), (cc), e)

  pub of_mem : (r j q k p : ℕ) → Memᴰ (message q k p) (transit_of s cut r j) → (q ≡ r) × (k ≤ j) × Open q k p
  of_mem r zero q k p m = absurd (Memᴰ.not-nil m)
  of_mem r (suc j) q k p m = go (Memᴰ.append_cases (transit_of s cut r j) m) (of_mem r j q k p)
    where
      go : Memᴰ (message q k p) (transit_of s cut r j) ⊎ Memᴰ (message q k p) (unless_got s cut r (suc j))
          → (Memᴰ (message q k p) (transit_of s cut r j) → (q ≡ r) × (k ≤ j) × Open q k p) → (q ≡ r) × (k ≤ suc j) × Open q k p
      go (inl x) f = let y = f x in let l = y.1 in (y.0, omega arith, y.2)
      go (inr x) f =
          let y = unless_mem r (suc j) q k p x in
          let a = y.0 in
          let b = y.1 in
          (a, omega arith, record { positive = omega arith; to = rw (a, b) y.2; missing = rw (a, b) y.3 })

  pub below_mem : (r q k p : ℕ) → Memᴰ (message q k p) (transit_below s cut r) → (q < r) × (k ≤ sends (part s cut q)) × Open q k p
  below_mem zero q k p m = absurd (Memᴰ.not-nil m)
  below_mem (suc r) q k p m = go (Memᴰ.append_cases (transit_below s cut r) m) (below_mem r q k p)
    where
      go : Memᴰ (message q k p) (transit_below s cut r) ⊎ Memᴰ (message q k p) (transit_of s cut r (sends (part s cut r)))
          → (Memᴰ (message q k p) (transit_below s cut r) → (q < r) × (k ≤ sends (part s cut q)) × Open q k p)
          → (q < suc r) × (k ≤ sends (part s cut q)) × Open q k p
      go (inl x) f = let y = f x in let l = y.0 in (omega arith, y.1, y.2)
      go (inr x) f =
          let y = of_mem r (sends (part s cut r)) q k p x in
          let a = y.0 in
          (omega arith, rw a y.1, y.2)

  mem_of : (q k p j : ℕ) → k ≤ j → Open q k p → Memᴰ (message q k p) (transit_of s cut q j)
  mem_of q k p zero le O = let x = O.positive in absurd (omega arith)
  mem_of q k p (suc j) le O = go (dec_lt j k) (mem_of q k p j)
    where
      go : Dec (j < k) → (k ≤ j → Open q k p → Memᴰ (message q k p) (transit_of s cut q j)) → Memᴰ (message q k p) (transit_of s cut q (suc j))
      go (yes l) f =
          let e : k ≡ suc j = omega arith in
          Memᴰ.append_right (transit_of s cut q j)
          (rw (← e, O.missing) (Memᴰ.head (ap (message q k) O.to)))
      go (no l) f = Memᴰ.append_left _ (f (omega arith) O)

  mem_below : (r q k p : ℕ) → q < r → k ≤ sends (part s cut q) → Open q k p → Memᴰ (message q k p) (transit_below s cut r)
  mem_below zero q k p lt le O = absurd (omega arith)
  mem_below (suc r) q k p lt le O = go (dec_lt q r) (mem_below r q k p)
    where
      go : Dec (q < r) → (q < r → k ≤ sends (part s cut q) → Open q k p → Memᴰ (message q k p) (transit_below s cut r))
          → Memᴰ (message q k p) (transit_below s cut (suc r))
      go (yes l) f = Memᴰ.append_left _ (f l le O)
      go (no l) f =
          let e : r ≡ q = omega arith in
          Memᴰ.append_right (transit_below s cut r) (rw e (mem_of q k p (sends (part s cut q)) le O))

  -- sent inside the cut to p, and not received inside it by p
  pub transit_exactly : (q k p : ℕ)
      → Memᴰ (message q k p) (in_transit s cut) ↔ ((has_send (part s cut q) p k ≡ true) × (has_receipt (part s cut p) q k ≡ false))
  unfolding in_transit
  transit_exactly q k p = (
    λ m.
        let y = below_mem (length s) q k p m in
        let O = y.2 in
        (held_holds (part s cut q) p k (record { positive = O.positive; counted = y.1; to = sym O.to }), rw O.to O.missing),
    λ h.
        let H = holds_held (part s cut q) p k h.0 in
        mem_below (length s) q k p (sends_within s cut q k H.positive H.counted) H.counted
        (record { positive = H.positive; to = sym H.to; missing = rw H.to h.1 }),
  )

  -- ---- sums over the list

  module _ (f : Message → ℕ) where
    sum_append : (xs ys : List Message) → sum (map f (xs ++ ys)) ≡ sum (map f xs) + sum (map f ys)
    sum_append [] ys = sym (zero-add (sum (map f ys)))
    sum_append (x ∷ xs) ys = let r = sum_append xs ys in omega arith

    -- what send k of q adds
    abbrev pub adds : ℕ → ℕ → ℕ
    adds q k = cond (got s cut q k) 0 (f (message q k (destination (part s cut q) k)))

    sum_unless : (q k : ℕ) → sum (map f (unless_got s cut q k)) ≡ adds q k
    sum_unless q k = go (got s cut q k)
      where
        go : (b : Bool) → sum (map f (cond b [] (message q k (destination (part s cut q) k) ∷ []))) ≡ cond b 0 (f (message q k (destination (part s cut q) k)))
        go true = refl
        go false = omega arith

    sum_of : (q j : ℕ) → sum (map f (transit_of s cut q j)) ≡ sum_below (λ k. adds q (suc k)) j
    sum_of q zero = refl
    sum_of q (suc j) = sum_append (transit_of s cut q j) (unless_got s cut q (suc j)) ∙ ap₂ ◌+◌ (sum_of q j) (sum_unless q (suc j))

    sum_below_lem : (r : ℕ) → sum (map f (transit_below s cut r)) ≡ sum_pairs adds (λ q. sends (part s cut q)) r
    sum_below_lem zero = refl
    sum_below_lem (suc r) =
        sum_append (transit_below s cut r) (transit_of s cut r (sends (part s cut r)))
        ∙ ap₂ ◌+◌ (sum_below_lem r) (sum_of r (sends (part s cut r)))

    pub sum_transit : sum (map f (in_transit s cut)) ≡ sum_pairs adds (λ q. sends (part s cut q)) (length s)
    unfolding in_transit
    sum_transit = sum_below_lem (length s)

pub length_sum : (ms : List Message) → length ms ≡ sum (map (λ (m : Message). 1) ms)
length_sum [] = refl
length_sum (m ∷ ms) = let r = length_sum ms in omega arith

-- ---- positions above their counts

pub none_above : (s : State) (cut : List ℕ) (m : ℕ) → ((p : ℕ) → p < m → get_or cut p 0 ≤ length (history s p)) → above s cut m ≡ false
none_above s cut zero h = refl
none_above s cut (suc m) h =
    rw (none_above s cut m (λ p lt. h p (omega arith)), le-ltb (length (history s m)) (get_or cut m 0) (h m (omega arith)))

pub above_none : (s : State) (cut : List ℕ) (m : ℕ) → above s cut m ≡ false → (p : ℕ) → p < m → get_or cut p 0 ≤ length (history s p)
above_none s cut zero e p lt = absurd (omega arith)
above_none s cut (suc m) e p lt = go (dec_lt p m) (above_none s cut m o.0 p)
  where
    o : (above s cut m ≡ false) × (ltb (length (history s m)) (get_or cut m 0) ≡ false)
    o = or_false (above s cut m) (ltb (length (history s m)) (get_or cut m 0)) e

    go : Dec (p < m) → (p < m → get_or cut p 0 ≤ length (history s p)) → get_or cut p 0 ≤ length (history s p)
    go (yes l) f = f l
    go (no l) f = let is : p ≡ m = omega arith in rw is (ltb-false (length (history s m)) (get_or cut m 0) o.1)
