-- Which rule moved a process: the first orphan behind its position, and that there is one where the position is not the latest that the
-- process might have had.
use mathlib.Core.Path.{◌≡◌, refl, sym, ap, subst, ◌∙◌}
use mathlib.Core.Logic.{◌≢◌, ◌⊎◌, inl, inr, ⊎_elim}
use mathlib.Core.Bool.{Bool, true, false, cond, ◌&&◌}
use mathlib.Core.List.{List, [], ◌∷◌, ◌++◌}
use mathlib.Core.Option.{Option, none, some, none-ne-some, some-injective}
use Prim.Native.Nat.{ℕ, zero, suc, ◌+◌, ◌*◌, ◌≤◌, ◌<◌}
use native.Mathlib.Nat.{le_refl}
use native.Mathlib.Omega.{arith}
use native.Mathlib.Decide.{dec_le, dec_lt, ℕ_discrete}
use lib.Dec.{leb, eqb}
use lib.ListN.{length, get_or, set, length-set, length-append, get_or-append}
use lib.Seq.{get_or-set_same, get_or-set_other, get_or-append-add}
use borrow.Author.Tests.{leb-true, le-leb, eqb-true, eq-eqb, ne_eqb}
use Rattle.rules.specs.Records.{Event, History, State, history, record_at}
use Rattle.rules.specs.Lines.{upto, orphan, NoOrphan, failed, permitted, Permitted, IsFailureLine}
use Rattle.rules.specs.FailureLine.{any}
use Rattle.rules.specs.Grounds.{first_after, at_count, at_last_checkpoint, moved_by, ground, grounds_below}
use Rattle.basics.proofs.Older.{Older, same, newer, older_trans, older_length, older_of}
use Rattle.basics.proofs.Booleans.{Test, passes, fails, test, or_false, clash, and_left, and_right}
use Rattle.records.proofs.Histories.{found, at_older}
use Rattle.records.proofs.Cuts.{upto_is_older, upto_exact, upto_length, any_older, any_none, none_any, permitted_le}
use Rattle.records.proofs.FailureLines.{AtMost, orphan_later}

-- ---- the first record after a position for which a test holds

record_at_le : (h : History) (e : Event) (j : ℕ) → record_at j h ≡ some e → j ≤ length h
record_at_le h e j a = let F = found h e j a in let l = older_length F.there in let z = F.place in omega arith

pub record FirstAt (o : Event → Bool) (t : ℕ) (h : History) (i : ℕ) : Type 0 where
  pub event : Event
  pub after : t < i
  pub there : record_at i h ≡ some event
  pub holds : o event ≡ true
  pub before : (j : ℕ) (e : Event) → t < j → record_at j h ≡ some e → o e ≡ true → i ≤ j

module _ (o : Event → Bool) (t : ℕ) where
  -- the newest record counts where it is behind the position
  abbrev newest : Event → History → Bool
  newest x h = leb t (length h) && o x

  -- a record of x ∷ h behind the position for which the test holds is x, or one of h
  split : (x : Event) (h : History) (j : ℕ) (e : Event) → t < j → record_at j (x ∷ h) ≡ some e → o e ≡ true
      → ((j ≡ suc (length h)) × (newest x h ≡ true)) ⊎ (record_at j h ≡ some e)
  split x h j e lt a y = go (test (eqb j (suc (length h))))
    where
      go : Test (eqb j (suc (length h))) → ((j ≡ suc (length h)) × (newest x h ≡ true)) ⊎ (record_at j h ≡ some e)
      go (passes b) =
          let i = eqb-true j (suc (length h)) b in
          let z : x ≡ e = some-injective x e (rw b at a) in
          inl (i, rw (le-leb t (length h) (omega arith)) (ap o z ∙ y))
      go (fails b) = inr (rw b at a)

  after_none : (h : History) → first_after o t h ≡ none → (j : ℕ) (e : Event) → t < j → record_at j h ≡ some e → o e ≡ true → ⊥
  after_none [] z j e lt a y = none-ne-some e a
  after_none (x ∷ h) z j e lt a y = go (first_after o t h) refl (test (newest x h)) (split x h j e lt a y) (λ f b. after_none h f j e lt b y)
    where
      go : (f : Option ℕ) → first_after o t h ≡ f → Test (newest x h)
          → ((j ≡ suc (length h)) × (newest x h ≡ true)) ⊎ (record_at j h ≡ some e)
          → (first_after o t h ≡ none → record_at j h ≡ some e → ⊥) → ⊥
      go (some i) f b s r = none-ne-some i (sym (rw f at z))
      go none f (passes b) s r = none-ne-some (suc (length h)) (sym (rw (f, b) at z))
      go none f (fails b) (inl s) r = clash (newest x h) s.1 b
      go none f (fails b) (inr s) r = r f s

  pub after_some : (h : History) (i : ℕ) → first_after o t h ≡ some i → FirstAt o t h i
  after_some [] i z = absurd (none-ne-some i z)
  after_some (x ∷ h) i z = go (first_after o t h) refl (test (newest x h)) (after_some h)
    where
      go : (f : Option ℕ) → first_after o t h ≡ f → Test (newest x h) → ((k : ℕ) → first_after o t h ≡ some k → FirstAt o t h k)
          → FirstAt o t (x ∷ h) i
      go (some k) f b r =
          let F = r k f in
          let i_is : k ≡ i = some-injective k i (rw f at z) in
          let le = record_at_le h F.event k F.there in
          record {
            event = F.event;
            after = let l = F.after in omega arith;
            there = subst (λ (j : ℕ). record_at j (x ∷ h) ≡ some F.event) i_is (rw (ne_eqb k (suc (length h)) (omega arith)) F.there);
            holds = F.holds;
            before = λ j e lt a y. ⊎_elim (λ s. let l = s.0 in omega arith) (λ s. let l = F.before j e lt s y in omega arith) (split x h j e lt a y);
          }
      go none f (passes b) r =
          let i_is : suc (length h) ≡ i = some-injective (suc (length h)) i (rw (f, b) at z) in
          record {
            event = x;
            after = let l = leb-true t (length h) (and_left (leb t (length h)) (o x) b) in omega arith;
            there = rw (eq-eqb i (suc (length h)) (sym i_is));
            holds = and_right (leb t (length h)) (o x) b;
            before = λ j e lt a y. ⊎_elim (λ s. let l = s.0 in omega arith) (λ s. absurd (after_none h f j e lt s y)) (split x h j e lt a y);
          }
      go none f (fails b) r = absurd (none-ne-some i (rw (f, b) at z))

  -- what is found stays found when records come behind it
  pub after_older : {g h : History} {i : ℕ} → Older g h → first_after o t g ≡ some i → first_after o t h ≡ some i
  after_older same z = z
  after_older (newer r) z = rw (after_older r z)

-- ---- a record for which a test holds, with those before it

record Passing (o : Event → Bool) (h : History) : Type 0 where
  pub event : Event
  pub before : History
  pub there : Older (event ∷ before) h
  pub holds : o event ≡ true

passing : (o : Event → Bool) (h : History) → any o h ≡ true → Passing o h
passing o [] y = clash false y refl
passing o (x ∷ h) y = go (test (o x)) (passing o h)
  where
    go : Test (o x) → (any o h ≡ true → Passing o h) → Passing o (x ∷ h)
    go (passes b) r = record { event = x; before = h; there = same; holds = b }
    go (fails b) r = let P = r (rw b at y) in record { event = P.event; before = P.before; there = newer P.there; holds = P.holds }

-- a test holds below u, and not below t: the first record behind t for which it holds is at u or before
module _ (o : Event → Bool) (h : History) (t u : ℕ) (le : t ≤ length h) (none_below : any o (upto t h) ≡ false) (some_below : any o (upto u h) ≡ true) where
  below : Passing o (upto u h)
  below = passing o (upto u h) some_below

  abbrev place : ℕ
  place = suc (length below.before)

  there : Older (below.event ∷ below.before) h
  there = older_trans below.there (upto_is_older u h)

  behind : t < place
  behind = go (dec_le place t)
    where
      go : Dec (place ≤ t) → t < place
      go (no l) = omega arith
      go (yes l) =
          let e = upto_exact t h le in
          let x = any_older o (older_of there (upto_is_older t h) (omega arith)) none_below in
          clash (o below.event) below.holds (or_false (o below.event) (any o below.before) x).0

  at_most : place ≤ u
  at_most = let a = older_length below.there in let b = upto_length u h in omega arith

  pub first_within : (i : ℕ) → first_after o t h ≡ some i → i ≤ u
  first_within i z =
      let l = (after_some o t h i z).before place below.event behind (at_older there) below.holds in
      let m = at_most in
      omega arith

  pub first_there : first_after o t h ≡ none → ⊥
  first_there z = after_none o t h z place below.event behind (at_older there) below.holds

-- ---- the positions of a failure line

module _ (mask : ℕ) (s : State) (cut : List ℕ) (F : IsFailureLine mask s cut) (p : ℕ) (lt : p < length s) where
  abbrev h : History
  h = history s p

  abbrev t : ℕ
  t = get_or cut p 0

  abbrev o : Event → Bool
  o = orphan s cut p

  wide : p < length cut
  wide = let z = F.permit.size in omega arith

  pub line_le : t ≤ length h
  line_le = permitted_le h (failed mask p) t (F.permit.each p lt)

  none_below : any o (upto t h) ≡ false
  none_below = none_any o (upto t h) (F.clean p)

  -- p raised to a later position: it has an orphan then, since the line is the latest
  module _ (u : ℕ) (ok : permitted (failed mask p) h u ≡ true) (later : t < u) where
    abbrev raised : List ℕ
    raised = set cut p u

    raised_own : (q : ℕ) → q ≡ p → get_or raised q 0 ≡ u
    raised_own q z = rw z (get_or-set_same cut p u 0 wide)

    raised_other : (q : ℕ) → q ≢ p → get_or raised q 0 ≡ get_or cut q 0
    raised_other q ne = get_or-set_other cut p q u 0 ne

    above : AtMost cut raised
    above q = go (ℕ_discrete q p)
      where
        go : Dec (q ≡ p) → get_or cut q 0 ≤ get_or raised q 0
        go (yes z) = rw (raised_own q z, z) (omega arith)
        go (no ne) = rw (raised_other q ne) (le_refl (get_or cut q 0))

    permit : Permitted mask s raised
    permit = record { size = length-set cut p u ∙ F.permit.size; each = λ q lq. go q lq (ℕ_discrete q p) }
      where
        go : (q : ℕ) → q < length s → Dec (q ≡ p) → permitted (failed mask q) (history s q) (get_or raised q 0) ≡ true
        go q lq (yes z) = rw (raised_own q z, z) ok
        go q lq (no ne) = rw (raised_other q ne) (F.permit.each q lq)

    clean : any o (upto u h) ≡ false → NoOrphan s raised
    clean x q e m = orphan_later s cut raised above q e (go (ℕ_discrete q p))
      where
        go : Dec (q ≡ p) → orphan s cut q e ≡ false
        go (yes z) = rw z (any_none o (upto u h) x e (rw (raised_own q z, z) at m))
        go (no ne) = F.clean q e (rw (raised_other q ne) at m)

    pub orphan_below : any o (upto u h) ≡ true
    orphan_below = go (test (any o (upto u h)))
      where
        go : Test (any o (upto u h)) → any o (upto u h) ≡ true
        go (passes x) = x
        go (fails x) =
            let l = F.latest raised permit (clean x) p lt in
            let e = raised_own p refl in
            absurd (omega arith)

    pub moved_at_most : (i : ℕ) → first_after o t h ≡ some i → i ≤ u
    moved_at_most = first_within o h t u line_le none_below orphan_below

    pub moved_there : first_after o t h ≡ none → ⊥
    moved_there = first_there o h t u line_le none_below orphan_below

-- ---- the words

ground_length : (mask : ℕ) (s : State) (cut : List ℕ) (p : ℕ) → length (ground mask s cut p) ≡ 2
ground_length mask s cut p =
    go (at_count (failed mask p) (history s p) (get_or cut p 0)) (at_last_checkpoint (failed mask p) (history s p) (get_or cut p 0))
    (first_after (orphan s cut p) (get_or cut p 0) (history s p))
  where
    go : (a b : Bool) (f : Option ℕ) → length (cond a (0 ∷ 0 ∷ []) (cond b (1 ∷ 0 ∷ []) (moved_by f))) ≡ 2
    go true b f = refl
    go false true f = refl
    go false false (some i) = refl
    go false false none = refl

pub below_length : (mask : ℕ) (s : State) (cut : List ℕ) (n : ℕ) → length (grounds_below mask s cut n) ≡ 2 * n
below_length mask s cut zero = refl
below_length mask s cut (suc n) =
    let a = length-append (grounds_below mask s cut n) (ground mask s cut n) in
    let b = below_length mask s cut n in
    let c = ground_length mask s cut n in
    omega arith

-- word j of process p
pub below_at : (mask : ℕ) (s : State) (cut : List ℕ) (n p j : ℕ) → p < n → j < 2
    → get_or (grounds_below mask s cut n) (2 * p + j) 0 ≡ get_or (ground mask s cut p) j 0
below_at mask s cut zero p j lt two = absurd (omega arith)
below_at mask s cut (suc n) p j lt two = go (dec_lt p n) (below_at mask s cut n p j)
  where
    g : List ℕ
    g = grounds_below mask s cut n

    go : Dec (p < n) → (p < n → j < 2 → get_or g (2 * p + j) 0 ≡ get_or (ground mask s cut p) j 0)
        → get_or (g ++ ground mask s cut n) (2 * p + j) 0 ≡ get_or (ground mask s cut p) j 0
    go (yes l) r = let z = below_length mask s cut n in get_or-append g (ground mask s cut n) 0 (2 * p + j) (omega arith) ∙ r l two
    go (no l) r =
        let z : p ≡ n = omega arith in
        let w = below_length mask s cut n in
        rw z (ap (λ (x : ℕ). get_or (g ++ ground mask s cut n) (x + j) 0) (sym w) ∙ get_or-append-add g (ground mask s cut n) j 0)
