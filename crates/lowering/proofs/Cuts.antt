-- A process of a cut is taken back: what that keeps, and when the cut that is left has no orphan. About records alone.
use mathlib.Core.Path.{◌≡◌, refl, sym, ap, ◌∙◌, subst}
use mathlib.Core.Logic.{◌≢◌}
use mathlib.Core.Bool.{Bool, true, false, not, ◌&&◌, and-false}
use mathlib.Core.List.Memᴰ
use mathlib.Core.List.{List, [], ◌∷◌, Memᴰ}
use Prim.Native.Nat.{ℕ, ◌+◌, ◌%◌, ◌≤◌, ◌<◌, zero-le}
use native.Mathlib.Nat.{le_refl, le_trans, mod-eq_of_lt}
use native.Mathlib.Omega.{arith}
use native.Mathlib.Decide.{dec_lt, ℕ_discrete}
use lib.ListN.{length, get_or, set, length-set}
use lib.Seq.{get_or-set_same, get_or-set_other}
use lib.Dec.{leb, ltb}
use borrow.Author.Tests.{ltb-false, le-ltb, lt-ltb, le-leb, not-false}
use Rattle.basics.specs.Sums.{sum_below}
use Rattle.basics.proofs.Sums.{sum_but}
use Rattle.rules.specs.Records.{Event, basic, forced, sent, received, History, State, history, sends, has_send}
use Rattle.rules.specs.Lines.{upto, part, orphan, NoOrphan, failed, permitted, Permitted}
use Rattle.rules.specs.FailureLine.{any, lowered, each_from, failure_line}
use Rattle.records.proofs.Histories.{each_older, sends_older, destination_older, holds_held, held_holds, holds_older}
use Rattle.records.proofs.Cuts.{upto_is_older, upto_mono, any_older, any_none, none_any, lowered_le, lowered_permitted, lowered_keeps}
use Rattle.records.proofs.FailureLines.{beyond, same_part, same_orphan, each_length, each_at, failure_line_lem}
use Rattle.tables.proofs.Laid.{Law, Legal}
use Rattle.cuts.specs.Tests.{late}
use Rattle.lowering.specs.Lowering.{Lowered, astray, NoneAstray, NoneLate}
use Rattle.tops.specs.Tops.{Counted, Over}

-- the sum of the first p positions
abbrev pub total : List ℕ → ℕ → ℕ
total position = sum_below (λ p. get_or position p 0)

-- a process that has sent something is there
sender : (s : State) (p q k : ℕ) → has_send (history s q) p k ≡ true → q < length s
sender s p q k e = go (dec_lt q (length s))
  where
    go : Dec (q < length s) → q < length s
    go (yes l) = l
    go (no l) =
        let H = holds_held [] p k (rw (beyond s q (omega arith)) at e) in
        absurd (let a = H.positive in let b = H.counted in omega arith)

third_false : (a b c : Bool) → (a && (b && c)) ≡ false → a ≡ true → b ≡ true → c ≡ false
third_false a b c e x y = rw (x, y) at e

-- a receipt's sender is there, and its number is positive
receipt_law : (n E p : ℕ) (h : History) → Legal n E p h → (q k c : ℕ) → Memᴰ (received q k c) h → (q < n) × (0 < k)
receipt_law n E p [] L q k c m = absurd (Memᴰ.not-nil m)
receipt_law n E p (e ∷ h) L q k c (Memᴰ.head z) = let l = subst (λ (x : Event). Law n E p x h) (sym z) L.0 in (l.0, l.2)
receipt_law n E p (e ∷ h) L q k c (Memᴰ.tail m) = receipt_law n E p h L.1 q k c m

-- ---- lowered cuts

pub lowered_trans : (s : State) (P Q R : List ℕ) → Lowered s P Q → Lowered s Q R → Lowered s P R
lowered_trans s P Q R a b = record { down = λ p lt. le_trans (b.down p lt) (a.down p lt); over = λ mask O. b.over mask (a.over mask O) }

-- a lowered cut has no receipt that the cut did not have
pub astray_lowered : (s : State) (P Q : List ℕ) (from next : ℕ) → Lowered s P Q → NoneAstray s P from next (length s) → NoneAstray s Q from next (length s)
astray_lowered s P Q from next l none q lt =
    any_older (astray s from next q) (upto_mono (get_or Q q 0) (get_or P q 0) (history s q) (l.down q lt)) (none q lt)

-- ---- one process taken back for a test o

module _ (s : State) (P : List ℕ) (p : ℕ) (wide : p < length P) (v : ℕ) where
  pub part_same : part s (set P p v) p ≡ upto v (history s p)
  part_same = ap (λ (x : ℕ). upto x (history s p)) (get_or-set_same P p v 0 wide)

  pub part_other : (q : ℕ) → q ≢ p → part s (set P p v) q ≡ part s P q
  part_other q ne = ap (λ (x : ℕ). upto x (history s q)) (get_or-set_other P p q v 0 ne)

  pub set_counted : (S : List ℕ) → Counted s P S → v ≤ get_or P p 0 → {k : ℕ} → k ≡ sends (upto v (history s p)) → p < length S
      → p < length s → Counted s (set P p v) (set S p k)
  set_counted S C le {k} e ls lt =
      record {
        positions = length-set P p v ∙ C.positions;
        sixteen = length-set S p k ∙ C.sixteen;
        within = λ q lq. within q lq (ℕ_discrete q p);
        counted = λ q lq. counted q lq (ℕ_discrete q p);
      }
    where
      within : (q : ℕ) → q < length s → Dec (q ≡ p) → get_or (set P p v) q 0 ≤ length (history s q)
      within q lq (yes z) = rw (z, get_or-set_same P p v 0 wide) (le_trans le (C.within p lt))
      within q lq (no ne) = rw (get_or-set_other P p q v 0 ne) (C.within q lq)

      counted : (q : ℕ) → q < length s → Dec (q ≡ p) → get_or (set S p k) q 0 ≡ sends (part s (set P p v) q)
      counted q lq (yes z) = rw z (get_or-set_same S p k 0 ls ∙ e ∙ ap sends (sym part_same))
      counted q lq (no ne) = get_or-set_other S p q k 0 ne ∙ C.counted q lq ∙ ap sends (sym (part_other q ne))

  -- the sum of positions falls by as much as this one
  pub set_total : (n : ℕ) → p < n → total (set P p v) n + get_or P p 0 ≡ total P n + v
  set_total n lt =
      sum_but (λ q. get_or (set P p v) q 0) (λ q. get_or P q 0) n p lt (λ q lq ne. get_or-set_other P p q v 0 ne)
      ∙ ap (λ (x : ℕ). total P n + x) (get_or-set_same P p v 0 wide)

-- the test holds for no record of p in a permitted cut without orphans
abbrev pub Fair : State → List ℕ → ℕ → (Event → Bool) → Type 0
Fair s P p o = (mask : ℕ) → Over mask s P → (other : List ℕ) → Permitted mask s other → NoOrphan s other → any o (part s other p) ≡ false

pub lower_fair : (s : State) (P : List ℕ) (p : ℕ) → p < length P → (o : Event → Bool) → Fair s P p o
    → Lowered s P (set P p (lowered o (history s p) (get_or P p 0)))
lower_fair s P p wide o fair = record { down = λ q lq. down q lq (ℕ_discrete q p); over = over }
  where
    h : History
    h = history s p

    v : ℕ
    v = lowered o h (get_or P p 0)

    down : (q : ℕ) → q < length s → Dec (q ≡ p) → get_or (set P p v) q 0 ≤ get_or P q 0
    down q lq (yes z) = rw (z, get_or-set_same P p v 0 wide) (lowered_le o h (get_or P p 0))
    down q lq (no ne) = rw (get_or-set_other P p q v 0 ne) (le_refl (get_or P q 0))

    over : (mask : ℕ) → Over mask s P → Over mask s (set P p v)
    over mask O = record { permit = λ q lq. permit q lq (ℕ_discrete q p); latest = λ other A c q lq. latest other A c q lq (ℕ_discrete q p) }
      where
        permit : (q : ℕ) → q < length s → Dec (q ≡ p) → permitted (failed mask q) (history s q) (get_or (set P p v) q 0) ≡ true
        permit q lq (yes z) =
            rw (z, get_or-set_same P p v 0 wide)
            (lowered_permitted o h (failed mask p) (get_or P p 0) (O.permit p (subst (λ (x : ℕ). x < length s) z lq)))
        permit q lq (no ne) = rw (get_or-set_other P p q v 0 ne) (O.permit q lq)

        latest : (other : List ℕ) → Permitted mask s other → NoOrphan s other → (q : ℕ) → q < length s → Dec (q ≡ p)
            → get_or other q 0 ≤ get_or (set P p v) q 0
        latest other A c q lq (yes z) =
            let lp = subst (λ (x : ℕ). x < length s) z lq in
            rw (z, get_or-set_same P p v 0 wide)
            (lowered_keeps o h (failed mask p) (get_or other p 0) (get_or P p 0) (O.latest other A c p lp) (A.each p lp) (fair mask O other A c))
        latest other A c q lq (no ne) = rw (get_or-set_other P p q v 0 ne) (O.latest other A c q lq)

-- ---- the two tests

pub astray_fair : (s : State) (P : List ℕ) (from next p : ℕ) → Fair s P p (astray s from next p)
astray_fair s P from next p mask O other A clean = none_any (astray s from next p) (part s other p) (λ e m. go e (clean p e m))
  where
    go : (e : Event) → orphan s other p e ≡ false → astray s from next p e ≡ false
    go (basic m) x = refl
    go (forced m) x = refl
    go (sent q) x = refl
    go (received q k c) x =
        let sent_to = holds_older (upto_is_older (get_or other q 0) (history s q)) p k (not-false (has_send (part s other q) p k) x) in
        rw (sent_to, and-false (leb k (sends (history s q))), and-false (leb from q && ltb q next))

module _ (s : State) (P S : List ℕ) (C : Counted s P S) (few : length s ≤ 16) where
  count_of : (q : ℕ) → q < length s → get_or S (q % 16) 0 ≡ sends (part s P q)
  count_of q lq = ap (λ (x : ℕ). get_or S x 0) (mod-eq_of_lt (omega arith)) ∙ C.counted q lq

  pub late_fair : (p : ℕ) → Fair s P p (late S)
  late_fair p mask O other A clean = none_any (late S) (part s other p) (λ e m. go e (clean p e m))
    where
      go : (e : Event) → orphan s other p e ≡ false → late S e ≡ false
      go (basic m) x = refl
      go (forced m) x = refl
      go (sent q) x = refl
      go (received q k c) x =
          let y = not-false (has_send (part s other q) p k) x in
          let H = holds_held (part s other q) p k y in
          let lq = sender s p q k (holds_older (upto_is_older (get_or other q 0) (history s q)) p k y) in
          let a = H.counted in
          let b = sends_older (upto_mono (get_or other q 0) (get_or P q 0) (history s q) (O.latest other A clean q lq)) in
          let d = count_of q lq in
          le-ltb (get_or S (q % 16) 0) k (omega arith)

  -- a cut in which no receipt went astray, and none is late, has no orphan
  pub none_clean : (E : ℕ) → ((p : ℕ) → Legal (length s) E p (history s p)) → NoneAstray s P 0 (length s) (length s) → NoneLate s P S (length s)
      → NoOrphan s P
  none_clean E legal astray-none late-none p e m = at (dec_lt p (length s))
    where
      go : p < length s → (x : Event) → Memᴰ x (part s P p) → astray s 0 (length s) p x ≡ false → late S x ≡ false → orphan s P p x ≡ false
      go lt (basic n) i a b = refl
      go lt (forced n) i a b = refl
      go lt (sent q) i a b = refl
      go lt (received q k c) i a b =
          let law = receipt_law (length s) E p (part s P p) (each_older (Law (length s) E p) (upto_is_older (get_or P p 0) (history s p)) (legal p)) q k c i in
          let l = ltb-false (get_or S (q % 16) 0) k b in
          let d = count_of q law.0 in
          let le : k ≤ sends (part s P q) = omega arith in
          let o = upto_is_older (get_or P q 0) (history s q) in
          let there : k ≤ sends (history s q) = le_trans le (sends_older o) in
          let y = third_false (leb 0 q && ltb q (length s)) (leb k (sends (history s q))) (not (has_send (history s q) p k)) a
          (rw (le-leb 0 q zero-le, lt-ltb q (length s) law.0)) (le-leb k (sends (history s q)) there)
          in
          let H = holds_held (history s q) p k (not-false (has_send (history s q) p k) y) in
          rw (held_holds (part s P q) p k (record { positive = law.1; counted = le; to = sym (destination_older o k le) ∙ H.to }))

      at : Dec (p < length s) → orphan s P p e ≡ false
      at (yes lt) =
          go lt e m (any_none (astray s 0 (length s) p) (part s P p) (astray-none p lt) e m) (any_none (late S) (part s P p) (late-none p lt) e m)
      at (no l) =
          let z : part s P p ≡ [] = ap (upto (get_or P p 0)) (beyond s p (omega arith)) in
          absurd (Memᴰ.not-nil (rw z at m))

-- ---- the cut that is left is the failure line

pub over_line : (mask : ℕ) (s : State) (P : List ℕ) → Over mask s P → NoOrphan s P → (p : ℕ) → p < length s
    → get_or P p 0 ≡ get_or (failure_line mask s) p 0
over_line mask s P O clean p lt =
    let F = failure_line_lem mask s in
    let a = O.latest (failure_line mask s) F.permit F.clean p lt in
    let b = F.latest cut permit (λ q e m. same_orphan s cut P cut_at q e ∙ clean q e (subst (Memᴰ e) (same_part s cut P cut_at q) m)) p lt in
    let c = cut_at p lt in
    omega arith
  where
    -- as many positions as there are processes
    cut : List ℕ
    cut = each_from 0 (λ q h. get_or P q 0) s

    cut_at : (q : ℕ) → q < length s → get_or cut q 0 ≡ get_or P q 0
    cut_at q lq = each_at (λ r h. get_or P r 0) [] s q lq

    permit : Permitted mask s cut
    permit = record { size = each_length (λ q h. get_or P q 0) s 0; each = λ q lq. rw (cut_at q lq) (O.permit q lq) }
