-- The test of two words at once, and of the fourth, is the record test of document 01. `top`, `rest`, `upper` and `wrap` are powers of two; specs/Marks.antt has them.
use Rattle.std.proofs.Common.{◌≡◌, ℕ, zero, suc, ◌+◌, ◌-◌, ◌*◌, ◌/◌, ◌%◌, ◌<◌, ◌≤◌, Bool, true, false, cond, not, ◌&&◌, ◌||◌, eqb, ltb, leb, ◌≢◌, ◌⊎◌, List, [], ◌∷◌, get_or, sym, refl, ap, ◌∙◌, ap₂, inl, inr, add-zero, mod-eq_of_lt, mul-zero, zero-add, mul-one, add-one, arith, ltb-false, ltb-true, le-ltb, lt-ltb, eq-eqb, ne_eqb, eqb-true, le-leb, leb-false, leb-true}
use mathlib.Core.Bool.{and-true, and-false, and_assoc, and-eq-true_iff, false≢true}
use lib.Bits.{bit_and, bit_or, bit_xor, and_block, and_high, and_mask, and_zero_r, or_shr, or_mod, and_le_l, and_le_r, xor_add_and, xor_block, xor_lt, xor_shr, xor_zero_r}
use borrow.Author.Tests.{eqb-false, lt-leb}
use Rattle.rules.specs.Records.{History, number, sends}
use Rattle.rules.specs.Table.{width, records_at, record_ok, record_ok_at, records_ok}
use Rattle.basics.proofs.Booleans.{Test, passes, fails, test, and_left, and_right, interchange, false_left, false_right}
use Rattle.tables.proofs.Ranges.{product}
use Rattle.tables.proofs.Laid.{legal_number}
use Rattle.tables.proofs.WellLaid.{records_legal}
use Rattle.tables.proofs.Scans.{number_next, sends_next as sent_next}
use Rattle.used.specs.Marks.{clear, kind_index, rooms, floors, counts, masks, above, below, beyond, top, rest, upper, wrap, pair_of}
use Rattle.basics.proofs.Bits.{or_zero, xor_zero, xor_none, xor_same}

-- ---- the list of what is added, as it is made

pub rooms_made : (n e : ℕ) → n ≤ 16 → e ≤ 1024
    → ((top * upper)
    ∷ ((rest - n * e) * upper + rest)
    ∷ ((rest - n * e) * upper + rest)
    ∷ ((top - n) * upper + rest)
    ∷ ((top - n) * upper + rest - e)
    ∷ [])
    ≡ rooms n e
rooms_made n e nl el = let last : (top - n) * upper + rest - e ≡ (top - n) * upper + (rest - e) = omega arith in rw last

-- ---- marks put together

-- the marks alone
pub marks_zero : (x : ℕ) → x < wrap → eqb (bit_and x (pair_of top top)) 0 ≡ clear x
marks_zero x l =
    let h = x / upper in
    let w = x % upper in
    let e : x ≡ h * upper + w = omega arith in
    let a : bit_and x (pair_of top top) ≡ bit_and h top * upper + bit_and w top =
    ap (λ (y : ℕ). bit_and y (pair_of top top)) e ∙ and_block 32 h top w top (omega arith) (omega arith)
    in
    let b : bit_and h top ≡ (h / top % 2) * top = and_high h 1 31 in
    let c : bit_and w top ≡ (w / top % 2) * top = and_high w 1 31 in
    let f : h / top % 2 ≡ x / (top * upper) = omega arith in
    let g : w / top % 2 ≡ x / top % 2 = omega arith in
    rw (a, b, c, f, g) (go (test (eqb (x / (top * upper)) 0)) (test (eqb (x / top % 2) 0)))
  where
    go : Test (eqb (x / (top * upper)) 0) → Test (eqb (x / top % 2) 0)
        → eqb (x / (top * upper) * top * upper + x / top % 2 * top) 0
        ≡ (eqb (x / (top * upper)) 0 && eqb (x / top % 2) 0)
    go (passes i) (passes j) = rw (eqb-true (x / (top * upper)) 0 i, eqb-true (x / top % 2) 0 j)
    go (passes i) (fails j) =
        let n = eqb-false (x / top % 2) 0 j in
        rw (i, j, ne_eqb (x / (top * upper) * top * upper + x / top % 2 * top) 0 (omega arith))
    go (fails i) j =
        let n = eqb-false (x / (top * upper)) 0 i in
        rw (i, ne_eqb (x / (top * upper) * top * upper + x / top % 2 * top) 0 (omega arith))

pub clear_or : (x y : ℕ) → clear (bit_or x y) ≡ (clear x && clear y)
clear_or x y =
    let a : bit_or x y / (top * upper) ≡ bit_or (x / (top * upper)) (y / (top * upper)) = or_shr x y 63 in
    let b : bit_or x y / top % 2 ≡ bit_or (x / top % 2) (y / top % 2) = ap (λ z. z % 2) (or_shr x y 31) ∙ or_mod (x / top) (y / top) 1 in
    rw (a, b, or_zero (x / (top * upper)) (y / (top * upper)), or_zero (x / top % 2) (y / top % 2))
    (interchange (eqb (x / (top * upper)) 0) (eqb (y / (top * upper)) 0) (eqb (x / top % 2) 0) (eqb (y / top % 2) 0))

-- ---- halves

-- a number of two halves
pub clear_halves : (h l : ℕ) → h < upper → l < upper → clear (h * upper + l) ≡ (ltb h top && ltb l top)
clear_halves h l hl ll = go (test (ltb h top)) (test (ltb l top))
  where
    x : ℕ
    x = h * upper + l

    go : Test (ltb h top) → Test (ltb l top) → clear (h * upper + l) ≡ (ltb h top && ltb l top)
    go (passes a) (passes b) =
        let p = ltb-true h top a in
        let q = ltb-true l top b in
        rw (a, b, eq-eqb (x / (top * upper)) 0 (omega arith), eq-eqb (x / top % 2) 0 (omega arith))
    go (passes a) (fails b) =
        let p = ltb-true h top a in
        let q = ltb-false l top b in
        rw (a, b, eq-eqb (x / (top * upper)) 0 (omega arith), ne_eqb (x / top % 2) 0 (omega arith))
    go (fails a) b =
        let p = ltb-false h top a in
        rw (a, ne_eqb (x / (top * upper)) 0 (omega arith))

-- the same after a number of whole turns
turns : (q h l : ℕ) → h < upper → l < upper → (q * wrap + h * upper + l) % wrap ≡ h * upper + l
turns q h l hl ll = omega arith

-- a number below the top bit leaves the top bit as it is
top_same : (x y : ℕ) → y < top → bit_xor x y / top ≡ x / top
top_same x y l =
    let z : y / top ≡ 0 = omega arith in
    xor_shr x y 31 ∙ rw z (xor_zero_r (x / top))

-- a pair marked by one of its bits
marked_low : (x : ℕ) → x / top % 2 ≡ 1 → clear x ≡ false
marked_low x e = false_right (eqb (x / (top * upper)) 0) (eqb (x / top % 2) 0) (ne_eqb (x / top % 2) 0 (omega arith))

marked_high : (x : ℕ) → 0 < x / (top * upper) → clear x ≡ false
marked_high x e = false_left (eqb (x / (top * upper)) 0) (eqb (x / top % 2) 0) (ne_eqb (x / (top * upper)) 0 (omega arith))

-- ---- both tests. A word with its own top bit is marked by the difference, or by the sum where the difference comes to 0.

module _ (A B C D a b t p : ℕ) (al : a < upper) (bl : b < upper) (tl : t < top) (Al : A ≤ top) (Bl : B < top)
    (pl : p < top) (c : (C ≡ rest) ⊎ ((C ≡ top) × (A + p < top)))
    (d : (D ≡ rest) ⊎ ((D ≡ top) × (t ≡ 0))) where
  abbrev u : ℕ
  u = bit_xor b t

  abbrev v : ℕ
  v = bit_xor a p

  abbrev sum : ℕ
  sum = (a * upper + u + (A * upper + B)) % wrap

  abbrev difference : ℕ
  difference = (C * upper + D + (wrap - (v * upper + b))) % wrap

  us : u / top ≡ b / top
  us = top_same b t tl

  vs : v / top ≡ a / top
  vs = top_same a p pl

  abbrev halves : Bool
  halves = (ltb (a + A) top && ltb (u + B) top) && (ltb (C - v) top && ltb (D - b) top)

  vl : v < upper
  vl = xor_lt 32 a p al (omega arith)

  near : {X : ℕ} {P : Type 0} → (X ≡ rest) ⊎ ((X ≡ top) × P) → (rest ≤ X) × (X ≤ top)
  near (inl e) = (omega arith, omega arith)
  near (inr e) = (omega (arith, e.0), omega (arith, e.0))

  cs : (rest ≤ C) × (C ≤ top)
  cs = near c

  ds : (rest ≤ D) × (D ≤ top)
  ds = near d

  -- b has its top bit
  low : top ≤ b → (clear sum && clear difference) ≡ halves
  low h = go d (test (eqb b top)) ∙ sym none
    where
      none : halves ≡ false
      none =
          false_left (ltb (a + A) top && ltb (u + B) top) (ltb (C - v) top && ltb (D - b) top)
          (false_right (ltb (a + A) top) (ltb (u + B) top) (le-ltb (u + B) top (omega (arith, us))))

      over : D < b → (clear sum && clear difference) ≡ false
      over l = false_right (clear sum) (clear difference) (marked_low difference (omega (arith, vl, cs.0, cs.1, ds.0, ds.1)))

      go : (D ≡ rest) ⊎ ((D ≡ top) × (t ≡ 0)) → Test (eqb b top) → (clear sum && clear difference) ≡ false
      go (inl e) x = over (omega arith)
      go (inr e) (fails x) = let ne = eqb-false b top x in over (omega (arith, e.0))
      go (inr e) (passes x) =
          let same : u ≡ b = rw e.1 (xor_zero_r b) in
          let eq = eqb-true b top x in
          false_left (clear sum) (clear difference) (marked_low sum (omega (arith, same)))

  -- a has its top bit, and b does not
  high : b < top → top ≤ a → (clear sum && clear difference) ≡ halves
  high l h = go c (test (eqb v top)) ∙ sym none
    where
      none : halves ≡ false
      none =
          false_left (ltb (a + A) top && ltb (u + B) top) (ltb (C - v) top && ltb (D - b) top)
          (false_left (ltb (a + A) top) (ltb (u + B) top) (le-ltb (a + A) top (omega arith)))

      over : C < v → (clear sum && clear difference) ≡ false
      over k = false_right (clear sum) (clear difference) (marked_high difference (omega (arith, vl, cs.0, cs.1, ds.0, ds.1)))

      go : (C ≡ rest) ⊎ ((C ≡ top) × (A + p < top)) → Test (eqb v top) → (clear sum && clear difference) ≡ false
      go (inl e) x = over (omega (arith, vs))
      go (inr e) (fails x) = let ne = eqb-false v top x in over (omega (arith, e.0, vs))
      go (inr e) (passes x) =
          let eq = eqb-true v top x in
          let s : bit_xor a p + bit_and a p * 2 ≡ a + p = xor_add_and a p in
          let r : bit_and a p ≤ p = and_le_r a p in
          let w : a ≤ top + p = omega (arith, s, r, eq) in
          false_left (clear sum) (clear difference) (marked_high sum (omega (arith, e.1, w, us)))

  -- neither has
  both : b < top → a < top → (clear sum && clear difference) ≡ halves
  both l h =
      let x : sum ≡ (a + A) * upper + (u + B) = omega (arith, us) in
      let y : difference ≡ (C - v) * upper + (D - b) = omega (arith, vs, cs.0, cs.1, ds.0, ds.1) in
      rw (x, y, clear_halves (a + A) (u + B) (omega arith) (omega (arith, us)), clear_halves (C - v) (D - b) (omega (arith, cs.1)) (omega (arith, ds.1)))

  two_tests : (clear (above (a * upper + b) t (A * upper + B)) && clear (below (a * upper + b) (p * upper) (C * upper + D))) ≡ halves
  two_tests =
      let x : bit_xor (a * upper + b) t ≡ a * upper + u = rw (xor_zero_r a) at (rw (zero-add t) at (xor_block 32 a 0 b t bl (omega arith))) in
      let y : bit_xor (a * upper + b) (p * upper) ≡ v * upper + b = rw (xor_zero_r b) at (rw (add-zero (p * upper)) at (xor_block 32 a p b 0 bl (omega arith))) in
      rw (x, y) (go (test (ltb b top)) (test (ltb a top)))
    where
      go : Test (ltb b top) → Test (ltb a top) → (clear sum && clear difference) ≡ halves
      go (fails k) m = low (ltb-false b top k)
      go (passes k) (fails m) = high (ltb-true b top k) (ltb-false a top m)
      go (passes k) (passes m) = both (ltb-true b top k) (ltb-true a top m)

-- ---- what the halves say

at_most : (x m : ℕ) → m ≤ rest → ltb (x + (rest - m)) top ≡ leb x m
at_most x m l = go (test (leb x m))
  where
    go : Test (leb x m) → ltb (x + (rest - m)) top ≡ leb x m
    go (passes h) = let k = leb-true x m h in rw h (lt-ltb (x + (rest - m)) top (omega arith))
    go (fails h) = let k = leb-false x m h in rw h (le-ltb (x + (rest - m)) top (omega arith))

beneath : (x m : ℕ) → m ≤ top → ltb (x + (top - m)) top ≡ ltb x m
beneath x m l = go (test (ltb x m))
  where
    go : Test (ltb x m) → ltb (x + (top - m)) top ≡ ltb x m
    go (passes h) = let k = ltb-true x m h in rw h (lt-ltb (x + (top - m)) top (omega arith))
    go (fails h) = let k = ltb-false x m h in rw h (le-ltb (x + (top - m)) top (omega arith))

above_none : (x : ℕ) → ltb (top - x) top ≡ ltb 0 x
above_none x = go (test (ltb 0 x))
  where
    go : Test (ltb 0 x) → ltb (top - x) top ≡ ltb 0 x
    go (passes h) = let k = ltb-true 0 x h in rw h (lt-ltb (top - x) top (omega arith))
    go (fails h) = let k = ltb-false 0 x h in rw h (le-ltb (top - x) top (omega arith))

-- what is left of a bound less a word
up_to : (y most : ℕ) → most < top → y < upper → clear ((most + (wrap - y)) % wrap) ≡ leb y most
up_to y most ml yl = go (test (leb y most))
  where
    go : Test (leb y most) → clear ((most + (wrap - y)) % wrap) ≡ leb y most
    go (passes h) =
        let k = leb-true y most h in
        rw (h, eq-eqb ((most + (wrap - y)) % wrap / (top * upper)) 0 (omega arith), eq-eqb ((most + (wrap - y)) % wrap / top % 2) 0 (omega arith))
    go (fails h) = let k = leb-false y most h in rw h (marked_high ((most + (wrap - y)) % wrap) (omega arith))

at_zero : (x : ℕ) → leb x 0 ≡ eqb x 0
at_zero x = go (test (eqb x 0))
  where
    go : Test (eqb x 0) → leb x 0 ≡ eqb x 0
    go (passes h) = rw (eqb-true x 0 h)
    go (fails h) = let k = eqb-false x 0 h in rw h (lt-leb x 0 (omega arith))

within : (x : ℕ) → ltb (rest - x) top ≡ true
within x = lt-ltb (rest - x) top (omega arith)

same : (x y : ℕ) → ltb (bit_xor x y + rest) top ≡ eqb x y
same x y = go (test (eqb x y))
  where
    go : Test (eqb x y) → ltb (bit_xor x y + rest) top ≡ eqb x y
    go (passes h) =
        let k = xor_none x y (eqb-true x y h) in
        rw h (lt-ltb (bit_xor x y + rest) top (omega arith))
    go (fails h) =
        let k : bit_xor x y ≢ 0 = λ z. eqb-false x y h (xor_same x y z) in
        rw h (le-ltb (bit_xor x y + rest) top (omega arith))

other : (x y : ℕ) → ltb (top - bit_xor x y) top ≡ not (eqb x y)
other x y = above_none (bit_xor x y) ∙ go (test (eqb x y))
  where
    go : Test (eqb x y) → ltb 0 (bit_xor x y) ≡ not (eqb x y)
    go (passes h) = let k = xor_none x y (eqb-true x y h) in rw h (le-ltb 0 (bit_xor x y) (omega arith))
    go (fails h) =
        let k : bit_xor x y ≢ 0 = λ z. eqb-false x y h (xor_same x y z) in
        rw h (lt-ltb 0 (bit_xor x y) (omega arith))

-- ---- the record test

module _ (n e p : ℕ) (h : History) (a b : ℕ) (nl : n ≤ 16) (el : e ≤ 1024) (pl : p < n) (kl : sends h < e) (al : a < upper) (bl : b < upper) where
  -- the sends before the record
  abbrev k : ℕ
  k = sends h

  -- the test of a record that stands at i in the lists
  abbrev tested : ℕ → Bool
  tested i =
      clear (above (a * upper + b) ((k + get_or counts i 0) * get_or counts i 0) (get_or (rooms n e) i 0))
      && clear (below (a * upper + b) (p * upper) (get_or floors i 0))

  small : n * e ≤ 16384
  small = product n e nl el

  none : (k + 0) * 0 ≡ 0
  none = mul-zero (k + 0)

  one : (k + 1) * 1 ≡ k + 1
  one = mul-one (k + 1)

  checkpoint : (clear (above (a * upper + b) ((k + 0) * 0) ((rest - n * e) * upper + rest))
      && clear (below (a * upper + b) (p * upper) (pair_of rest rest)))
      ≡ (leb a (n * e) && eqb b 0)
  checkpoint =
      rw none
      (two_tests (rest - n * e) rest rest rest a b 0 p al bl (omega arith) (omega arith) (omega arith) (omega arith) (inl refl) (inl refl)
      ∙ rw (at_most a (n * e) (omega (arith, small)), same b 0, within (bit_xor a p), within b) (and-true (leb a (n * e) && eqb b 0)))

  message : (t B D : ℕ) → t < top → B < top → (D ≡ rest) ⊎ ((D ≡ top) × (t ≡ 0))
      → (clear (above (a * upper + b) t ((top - n) * upper + B)) && clear (below (a * upper + b) (p * upper) (top * upper + D)))
      ≡ ((ltb a n && ltb (bit_xor b t + B) top) && (not (eqb a p) && ltb (D - b) top))
  message t B D tl Bl d =
      two_tests (top - n) B top D a b t p al bl tl (omega arith) Bl (omega arith) (inr (refl, omega arith)) d
      ∙ rw (beneath a n (omega arith), other a p)

  -- a receipt's tests in their order
  receipt : (x y z w : Bool) → ((x && w) && (y && z)) ≡ (x && y && z && w)
  receipt false y z w = refl
  receipt true y z true = sym (and-true (y && z))
  receipt true y z false = sym (and-false (y && z))

  -- a send has the next send number
  send : ((ltb a n && eqb b (suc k)) && (not (eqb a p) && true)) ≡ (ltb a n && not (eqb a p) && ltb 0 b && leb b e && eqb b (suc k))
  send = go (ltb a n) (not (eqb a p)) (test (eqb b (suc k)))
    where
      go : (x y : Bool) → Test (eqb b (suc k)) → ((x && eqb b (suc k)) && (y && true)) ≡ (x && y && ltb 0 b && leb b e && eqb b (suc k))
      go false y z = refl
      go true false z = and-false (eqb b (suc k))
      go true true (fails z) = rw (z, and-false (ltb 0 b && leb b e))
      go true true (passes z) = let h = eqb-true b (suc k) z in rw (z, lt-ltb 0 b (omega arith), le-leb b e (omega arith))

  send_words : (clear (above (a * upper + b) (k + 1) ((top - n) * upper + rest)) && clear (below (a * upper + b) (p * upper) (top * upper + rest)))
      ≡ (ltb a n && not (eqb a p) && ltb 0 b && leb b e && eqb b (suc k))
  send_words = message (k + 1) rest rest (omega arith) (omega arith) (inl refl) ∙ rw (same b (k + 1), within b, add-one k) send

  receipt_words : (clear (above (a * upper + b) 0 ((top - n) * upper + (rest - e))) && clear (below (a * upper + b) (p * upper) (top * upper + top)))
      ≡ (ltb a n && not (eqb a p) && ltb 0 b && leb b e)
  receipt_words =
      message 0 (rest - e) top (omega arith) (omega arith) (inr (refl, refl))
      ∙ rw (xor_zero_r b, at_most b e (omega arith), above_none b)
      (receipt (ltb a n) (not (eqb a p)) (ltb 0 b) (leb b e))

  no_kind : tested 0 ≡ false
  no_kind =
      rw none
      (two_tests top 0 rest rest a b 0 p al bl (omega arith) (omega arith) (omega arith) (omega arith) (inl refl) (inl refl)
      ∙ rw (le-ltb (a + top) top (omega arith)))

  -- the fourth word, after the number x
  module _ (x c : ℕ) (xl : x < top) (cl : c < upper) where
    no_bits : bit_and x 0 ≡ 0
    no_bits = and_zero_r x

    all_bits : bit_and x (wrap - 1) ≡ x
    all_bits = and_mask x 64 ∙ mod-eq_of_lt (omega arith)

    fourth_none : clear ((bit_and x 0 + (wrap - bit_xor c (bit_and x 0))) % wrap) ≡ eqb c 0
    fourth_none = rw (no_bits, xor_zero_r c) (up_to c 0 (omega arith) cl ∙ at_zero c)

    fourth_send : clear ((bit_and x 0 + (wrap - bit_xor c (bit_and x (wrap - 1)))) % wrap) ≡ eqb c x
    fourth_send =
        rw (no_bits, all_bits)
        (up_to (bit_xor c x) 0 (omega arith) (xor_lt 32 c x cl (omega arith)) ∙ at_zero (bit_xor c x) ∙ xor_zero c x)

    fourth_receipt : clear ((bit_and x (wrap - 1) + (wrap - bit_xor c (bit_and x 0))) % wrap) ≡ leb c x
    fourth_receipt = rw (no_bits, all_bits, xor_zero_r c) (up_to c x xl cl)

  pub record_test : (kind c : ℕ) → number h < top → c < upper
      → (tested (kind_index kind) && clear (beyond (number h) c (kind_index kind))) ≡ record_ok n e p h kind a b c
  record_test kind c xl cl = go (test (eqb kind 1)) (test (eqb kind 2)) (test (eqb kind 3)) (test (eqb kind 4))
    where
      go : Test (eqb kind 1) → Test (eqb kind 2) → Test (eqb kind 3) → Test (eqb kind 4)
          → (tested (kind_index kind) && clear (beyond (number h) c (kind_index kind))) ≡ record_ok n e p h kind a b c
      go (passes x) y z w = rw (eqb-true kind 1 x) (ap₂ ◌&&◌ checkpoint (fourth_none (number h) c xl cl))
      go (fails x) (passes y) z w = rw (eqb-true kind 2 y) (ap₂ ◌&&◌ checkpoint (fourth_none (number h) c xl cl))
      go (fails x) (fails y) (passes z) w =
          rw (eqb-true kind 3 z, one) (ap₂ ◌&&◌ send_words (fourth_send (number h) c xl cl))
      go (fails x) (fails y) (fails z) (passes w) =
          rw (eqb-true kind 4 w, none) (ap₂ ◌&&◌ receipt_words (fourth_receipt (number h) c xl cl))
      go (fails x) (fails y) (fails z) (fails w) = rw (x, y, z, w, last, no_kind)
        where
          last : kind_index kind ≡ 0
          last = at (test (ltb kind 5))
            where
              at : Test (ltb kind 5) → kind_index kind ≡ 0
              at (fails h) = rw h
              at (passes h) =
                  let i = ltb-true kind 5 h in
                  let j = eqb-false kind 1 x in
                  let l = eqb-false kind 2 y in
                  let m = eqb-false kind 3 z in
                  let o = eqb-false kind 4 w in
                  rw h (omega arith)

-- ---- one record more

pub counts_most : (i : ℕ) → get_or counts i 0 ≤ 1
counts_most zero = omega arith
counts_most (suc zero) = omega arith
counts_most (suc (suc zero)) = omega arith
counts_most (suc (suc (suc zero))) = omega arith
counts_most (suc (suc (suc (suc zero)))) = omega arith
counts_most (suc (suc (suc (suc (suc i))))) = omega arith

-- the difference that wraps
pub wraps_below : (r x f : ℕ) → r < wrap → x < wrap → f < wrap
    → (r + x) % wrap ≡ f → r ≡ (f + (wrap - x)) % wrap
wraps_below r x f rl xl fl e = omega arith

-- what all bits of a number do in place of 1: a number less them is one more, and only they leave a number as it is
mask_less : (i r k : ℕ) → r < wrap → k ≤ 1024 → (r + get_or masks (suc i) 0) % wrap ≡ k → r ≡ k + get_or counts i 0
mask_less zero r k l m e = omega arith
mask_less (suc zero) r k l m e = omega arith
mask_less (suc (suc zero)) r k l m e = omega arith
mask_less (suc (suc (suc zero))) r k l m e = omega arith
mask_less (suc (suc (suc (suc zero)))) r k l m e = omega arith
mask_less (suc (suc (suc (suc (suc i))))) r k l m e = omega arith

mask_times : (i r : ℕ) → r < wrap → bit_and r (get_or masks (suc i) 0) ≡ r * get_or counts i 0
mask_times zero r l = and_zero_r r ∙ sym (mul-zero r)
mask_times (suc zero) r l = and_zero_r r ∙ sym (mul-zero r)
mask_times (suc (suc zero)) r l = and_zero_r r ∙ sym (mul-zero r)
mask_times (suc (suc (suc zero))) r l = and_mask r 64 ∙ mod-eq_of_lt l ∙ sym (mul-one r)
mask_times (suc (suc (suc (suc zero)))) r l = and_zero_r r ∙ sym (mul-zero r)
mask_times (suc (suc (suc (suc (suc i))))) r l = and_zero_r r ∙ sym (mul-zero r)

module _ (kind : ℕ) {i : ℕ} {ms : List ℕ} (at : i ≡ kind_index kind) (list : ms ≡ masks) {k r : ℕ} (kl : k ≤ 1024) (rl : r < wrap)
    (er : (r + get_or ms (i + 1) 0) % wrap ≡ k) where
  pub sends_next : r ≡ k + get_or counts (kind_index kind) 0
  sends_next = mask_less (kind_index kind) r k rl kl (rw (at, list, add-one (kind_index kind)) at er)

  pub marks_next : (m pair own n c : ℕ) (room floor : List ℕ) {x y z : ℕ}
      → x ≡ (bit_xor pair (bit_and r (get_or ms (i + 1) 0)) + get_or room i 0) % wrap
      → (y + bit_xor pair own) % wrap ≡ get_or floor i 0
      → (z + bit_xor c (bit_and n (get_or ms (i + 1) 0))) % wrap ≡ bit_and n (get_or ms i 0)
      → y < wrap → z < wrap → pair < wrap → own < wrap → n < wrap → c < wrap → get_or floor i 0 < wrap
      → bit_or (bit_or (bit_or m x) y) z
      ≡ bit_or (bit_or (bit_or m (above pair ((k + get_or counts (kind_index kind) 0) * get_or counts (kind_index kind) 0) (get_or room (kind_index kind) 0)))
      (below pair own (get_or floor (kind_index kind) 0)))
      (beyond n c (kind_index kind))
  marks_next m pair own n c room floor {x} {y} {z} ex ey ez yl zl pl ol nl cl fl =
      rw (
        ex,
        wraps_below y (bit_xor pair own) (get_or floor i 0) yl (xor_lt 64 pair own pl ol) fl ey,
        wraps_below z (bit_xor c (bit_and n (get_or ms (i + 1) 0))) (bit_and n (get_or ms i 0)) zl
            (xor_lt 64 c (bit_and n (get_or ms (i + 1) 0)) cl (masked_low (get_or ms (i + 1) 0))) (masked_low (get_or ms i 0)) ez,
        at,
        list,
        add-one (kind_index kind),
        mask_times (kind_index kind) r rl,
        sends_next,
      )
    where
      masked_low : (mask : ℕ) → bit_and n mask < wrap
      masked_low mask = let l = and_le_l n mask in omega arith

-- what a record that is in order leaves of the last checkpoint and of the count of sends
module _ (n e p : ℕ) (h : History) (kind a b c : ℕ) (ok : record_ok n e p h kind a b c ≡ true) where
  pub last_in_order : (x : ℕ) → cond (ltb (kind_index kind) 3) (a * upper + b) (x * upper) ≡ cond (eqb kind 4 || eqb kind 3) x a * upper
  last_in_order x = go (test (eqb kind 1)) (test (eqb kind 2)) (test (eqb kind 3)) (test (eqb kind 4))
    where
      zero_b : (leb a (n * e) && eqb b 0 && eqb c 0) ≡ true → a * upper + b ≡ a * upper
      zero_b x = let z = eqb-true b 0 (and_right (leb a (n * e)) (eqb b 0) (and_left (leb a (n * e) && eqb b 0) (eqb c 0) x)) in omega arith

      go : Test (eqb kind 1) → Test (eqb kind 2) → Test (eqb kind 3) → Test (eqb kind 4)
          → cond (ltb (kind_index kind) 3) (a * upper + b) (x * upper) ≡ cond (eqb kind 4 || eqb kind 3) x a * upper
      go (passes f) g y i = let q = eqb-true kind 1 f in rw q (zero_b (rw q at ok))
      go (fails f) (passes g) y i = let q = eqb-true kind 2 g in rw q (zero_b (rw q at ok))
      go (fails f) (fails g) (passes y) i = rw (eqb-true kind 3 y)
      go (fails f) (fails g) (fails y) (passes i) = rw (eqb-true kind 4 i)
      go (fails f) (fails g) (fails y) (fails i) = absurd (false≢true (rw (f, g, y, i) at ok))

  pub sends_in_order : (k : ℕ) → k + get_or counts (kind_index kind) 0 ≡ cond (eqb kind 3) (k + 1) k
  sends_in_order k = go (test (eqb kind 1)) (test (eqb kind 2)) (test (eqb kind 3)) (test (eqb kind 4))
    where
      go : Test (eqb kind 1) → Test (eqb kind 2) → Test (eqb kind 3) → Test (eqb kind 4)
          → k + get_or counts (kind_index kind) 0 ≡ cond (eqb kind 3) (k + 1) k
      go (passes f) g y i = rw (eqb-true kind 1 f) (add-zero k)
      go (fails f) (passes g) y i = rw (eqb-true kind 2 g) (add-zero k)
      go (fails f) (fails g) (passes y) i = rw (eqb-true kind 3 y)
      go (fails f) (fails g) (fails y) (passes i) = rw (eqb-true kind 4 i) (add-zero k)
      go (fails f) (fails g) (fails y) (fails i) = absurd (false≢true (rw (f, g, y, i) at ok))

-- ---- a scan of the first i records from word `at` on, and the next record, whose words were read

module _ (n e p : ℕ) (w : ℕ → ℕ) (at i : ℕ) where
  abbrev a : ℕ
  a = w (at + width * i + 1)

  abbrev b : ℕ
  b = w (at + width * i + 2)

  abbrev d : ℕ
  d = w (at + width * i + 3)

  abbrev laid : ℕ → Bool
  laid j = records_ok n e w p at j

  abbrev past : History
  past = records_at w at i

  -- where the scan is right about what was before, or has a mark already, the test is that of document 01
  test_next : (m kind : ℕ) {x : Bool} → clear m ≡ laid i → kind ≡ w (at + width * i)
      → (laid i ≡ true → x ≡ record_ok n e p past kind a b d) → (clear m && x) ≡ laid (i + 1)
  test_next m kind {x} c h f = rw (c, add-one i) (go (test (laid i)))
    where
      go : Test (laid i) → (laid i && x) ≡ laid (suc i)
      go (passes l) = rw (l, f l, h)
      go (fails l) = rw l

  module _ (m k kind pair : ℕ) {own : ℕ} {room floor : List ℕ} (h : kind ≡ w (at + width * i)) (j : pair ≡ a * upper + b) (al : a < upper)
      (bl : b < upper) (room_of : room ≡ rooms n e) (floor_of : floor ≡ floors) (own_of_lem : own ≡ p * upper) (nl : n ≤ 16)
      (el : e ≤ 1024) (pl : p < n) (kl : k < e) (c : clear m ≡ laid i)
      {last : ℕ} (f : laid i ≡ true → (last ≡ number (records_at w at i) * upper) × (k ≡ sends (records_at w at i))) where
    -- the number of the last checkpoint, where all records so far are in order
    number_before : laid i ≡ true → (last / upper ≡ number past) × (number past < top)
    number_before o =
        let g = (f o).0 in
        let l = legal_number n e p past (records_legal n e w p at i o) in
        let s = product n e nl el in
        (omega arith, omega arith)

    pub clear_next : {r c : ℕ} → c ≡ d → d < upper
        → r
        ≡ bit_or (bit_or (bit_or m (above pair ((k + get_or counts (kind_index kind) 0) * get_or counts (kind_index kind) 0) (get_or room (kind_index kind) 0)))
        (below pair own (get_or floor (kind_index kind) 0)))
        (beyond (last / upper) c (kind_index kind))
        → clear r ≡ laid (i + 1)
    clear_next {c = word} y dl q =
        let t = (k + get_or counts (kind_index kind) 0) * get_or counts (kind_index kind) 0 in
        let u = above pair t (get_or room (kind_index kind) 0) in
        let v = below pair own (get_or floor (kind_index kind) 0) in
        let z = beyond (last / upper) word (kind_index kind) in
        ap clear q
        ∙ clear_or (bit_or (bit_or m u) v) z
        ∙ ap (λ (t : Bool). t && clear z) (clear_or (bit_or m u) v ∙ ap (λ (t : Bool). t && clear v) (clear_or m u) ∙ and_assoc (clear m) (clear u) (clear v))
        ∙ and_assoc (clear m) (clear u && clear v) (clear z)
        ∙ test_next m kind {x = clear u && clear v && clear z} c h
        (λ o.
        let x = number_before o in
        let z = (f o).1 in
        rw (j, room_of, floor_of, own_of_lem, y, x.0, z) (record_test n e p past a b nl el pl (omega arith) al bl kind d x.1 dl))

    pub found_next : {l : ℕ} → l ≡ cond (ltb (kind_index kind) 3) pair last → {z : ℕ} → z ≡ k + get_or counts (kind_index kind) 0 → laid (i + 1) ≡ true
        → (l ≡ number (records_at w at (i + 1)) * upper) × (z ≡ sends (records_at w at (i + 1)))
    found_next {l} g {z} y ok =
        let both = (and-eq-true_iff (laid i) (record_ok_at n e p past w (at + width * i))).0 (rw (add-one i) at ok) in
        let fine : record_ok n e p past kind a b d ≡ true = rw h both.1 in
        let x = number (records_at w at i) in (
          g ∙ rw (j, (f both.0).0) (last_in_order n e p past kind a b d fine x ∙ ap (λ (u : ℕ). u * upper) (number_next w at i h refl refl refl)),
          sent_next w at i h (f both.0).1 (y ∙ sends_in_order n e p past kind a b d fine k),
        )
