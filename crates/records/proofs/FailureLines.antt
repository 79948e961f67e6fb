-- The failure line that is lowered from the top is the latest permitted cut without orphans, for every state.
use mathlib.Core.Path.{◌≡◌, refl, sym, ap, ap₂, ◌∙◌}
use mathlib.Core.Bool.{false, not}
use mathlib.Core.List.Memᴰ
use mathlib.Core.List.{List, [], ◌∷◌, map}
use Prim.Native.Nat.{ℕ, zero, suc, ◌+◌, ◌≤◌, ◌<◌, zero-le}
use native.Mathlib.Nat.{zero-add, suc-add, add-suc, add-zero, not-suc-le-zero, le_of_suc-le-suc}
use native.Mathlib.Omega.{arith}
use native.Mathlib.Decide.{dec_le, dec_lt}
use lib.Dec.{leb}
use lib.ListN.{length, get_or, get_or-eq_default}
use lib.Seq.{ext_get_or}
use borrow.Author.Tests.{leb-true, leb-false, lt-leb, not-false}
use Rattle.rules.specs.Records.{Event, basic, forced, sent, received, History, State, history, has_send}
use Rattle.rules.specs.Lines.{upto, part, orphan, NoOrphan, failed, Permitted, IsFailureLine}
use Rattle.rules.specs.FailureLine.{lowered, each_from, round, rounds, top, sum, failure_line}
use Rattle.basics.proofs.Booleans.{Test, passes, fails, test}
use Rattle.records.proofs.Histories.{holds_older}
use Rattle.records.proofs.Cuts.{upto_mono, any_none, none_any, lowered_le, lowered_same, lowered_permitted, lowered_keeps, top_le, top_permitted, top_latest}

-- no process has records but those of the state
pub beyond : (s : State) (q : ℕ) → length s ≤ q → history s q ≡ []
beyond s q le = get_or-eq_default s [] le

-- ---- lists of positions

pub each_length : {A : Type 0} (f : ℕ → A → ℕ) (ts : List A) (i : ℕ) → length (each_from i f ts) ≡ length ts
each_length f [] i = refl
each_length f (t ∷ ts) i = ap suc (each_length f ts (suc i))

each_from_lem : {A : Type 0} (f : ℕ → A → ℕ) (d : A) (ts : List A) (i p : ℕ) → p < length ts
    → get_or (each_from i f ts) p 0 ≡ f (i + p) (get_or ts p d)
each_from_lem f d [] i p lt = absurd (not-suc-le-zero lt)
each_from_lem f d (t ∷ ts) i zero lt = rw (add-zero i)
each_from_lem f d (t ∷ ts) i (suc p) lt = each_from_lem f d ts (suc i) p (le_of_suc-le-suc lt) ∙ ap (λ (k : ℕ). f k (get_or ts p d)) (suc-add i p ∙ sym (add-suc i p))

pub each_at : {A : Type 0} (f : ℕ → A → ℕ) (d : A) (ts : List A) (p : ℕ) → p < length ts
    → get_or (each_from 0 f ts) p 0 ≡ f p (get_or ts p d)
each_at f d ts p lt = each_from_lem f d ts 0 p lt ∙ ap (λ (k : ℕ). f k (get_or ts p d)) (zero-add p)

-- place by place at most
abbrev Under : List ℕ → List ℕ → Type 0
Under [] [] = Unit {0}
Under [] (y ∷ ys) = ⊥
Under (x ∷ xs) [] = ⊥
Under (x ∷ xs) (y ∷ ys) = (x ≤ y) × Under xs ys

under_sum : (xs ys : List ℕ) → Under xs ys → sum xs ≤ sum ys
under_sum [] [] u = zero-le
under_sum [] (y ∷ ys) u = absurd u
under_sum (x ∷ xs) [] u = absurd u
under_sum (x ∷ xs) (y ∷ ys) u = let a = under_sum xs ys u.1 in let b = u.0 in omega arith

under_same : (xs ys : List ℕ) → Under xs ys → sum ys ≤ sum xs → xs ≡ ys
under_same [] [] u l = refl
under_same [] (y ∷ ys) u l = absurd u
under_same (x ∷ xs) [] u l = absurd u
under_same (x ∷ xs) (y ∷ ys) u l =
    let a = under_sum xs ys u.1 in
    let b = u.0 in
    let e : x ≡ y = omega arith in
    ap₂ (λ (z : ℕ) (zs : List ℕ). z ∷ zs) e (under_same xs ys u.1 (omega arith))

each_under : (f : ℕ → ℕ → ℕ) → ((i t : ℕ) → f i t ≤ t) → (ts : List ℕ) (i : ℕ) → Under (each_from i f ts) ts
each_under f h [] i = tt
each_under f h (t ∷ ts) i = (h i t, each_under f h ts (suc i))

-- ---- rounds keep what they have to

-- position t of process p after a round
abbrev next : State → List ℕ → ℕ → ℕ → ℕ
next s cut p t = lowered (orphan s cut p) (history s p) t

round_length : (s : State) (cut : List ℕ) → length (round s cut) ≡ length cut
unfolding round
round_length s cut = each_length (next s cut) cut 0

round_at : (s : State) (cut : List ℕ) (p : ℕ) → p < length cut → get_or (round s cut) p 0 ≡ next s cut p (get_or cut p 0)
unfolding round
round_at s cut p lt = each_at (next s cut) 0 cut p lt

round_under : (s : State) (cut : List ℕ) → Under (round s cut) cut
unfolding round
round_under s cut = each_under (next s cut) (λ p t. lowered_le (orphan s cut p) (history s p) t) cut 0

round_permitted : (mask : ℕ) (s : State) (cut : List ℕ) → Permitted mask s cut → Permitted mask s (round s cut)
round_permitted mask s cut P =
    record {
      size = round_length s cut ∙ P.size;
      each = λ p lt. let z = P.size in rw (round_at s cut p (omega arith)) (lowered_permitted (orphan s cut p) (history s p) (failed mask p) (get_or cut p 0) (P.each p lt));
    }

-- other is at most cut everywhere
abbrev pub AtMost : List ℕ → List ℕ → Type 0
AtMost other cut = (p : ℕ) → get_or other p 0 ≤ get_or cut p 0

pub orphan_later : (s : State) (other cut : List ℕ) → AtMost other cut → (p : ℕ) (e : Event) → orphan s other p e ≡ false
    → orphan s cut p e ≡ false
orphan_later s other cut a p (basic m) x = refl
orphan_later s other cut a p (forced m) x = refl
orphan_later s other cut a p (sent q) x = refl
orphan_later s other cut a p (received q k c) x =
    rw (holds_older (upto_mono (get_or other q 0) (get_or cut q 0) (history s q) (a q)) p k (not-false (has_send (part s other q) p k) x))

module _ (mask : ℕ) (s : State) (other : List ℕ) (P : Permitted mask s other) (clean : NoOrphan s other) where
  round_keeps : (cut : List ℕ) → length cut ≡ length s → AtMost other cut → AtMost other (round s cut)
  round_keeps cut size a p = go (test (leb (length s) p))
    where
      inside : p < length s → get_or other p 0 ≤ get_or (round s cut) p 0
      inside lt =
          rw (round_at s cut p (omega arith))
          (lowered_keeps (orphan s cut p) (history s p) (failed mask p) (get_or other p 0) (get_or cut p 0) (a p) (P.each p lt)
          (none_any (orphan s cut p) (part s other p) (λ e m. orphan_later s other cut a p e (clean p e m))))

      go : Test (leb (length s) p) → get_or other p 0 ≤ get_or (round s cut) p 0
      go (passes x) =
          let l = leb-true (length s) p x in
          let z = P.size in
          rw (get_or-eq_default other 0 {n = p} (omega arith)) zero-le
      go (fails x) = inside (leb-false (length s) p x)

  rounds_keeps : (k : ℕ) (cut : List ℕ) → length cut ≡ length s → AtMost other cut → AtMost other (rounds k s cut)
  unfolding rounds
  rounds_keeps zero cut size a = a
  rounds_keeps (suc k) cut size a = rounds_keeps k (round s cut) (round_length s cut ∙ size) (round_keeps cut size a)

rounds_permitted : (mask : ℕ) (s : State) (k : ℕ) (cut : List ℕ) → Permitted mask s cut → Permitted mask s (rounds k s cut)
unfolding rounds
rounds_permitted mask s zero cut P = P
rounds_permitted mask s (suc k) cut P = rounds_permitted mask s k (round s cut) (round_permitted mask s cut P)

-- ---- enough rounds come to rest

rounds_rest : (s : State) (k : ℕ) (cut : List ℕ) → round s cut ≡ cut → rounds k s cut ≡ cut
unfolding rounds
rounds_rest s zero cut e = refl
rounds_rest s (suc k) cut e = ap (rounds k s) e ∙ rounds_rest s k cut e

rounds_fixed : (s : State) (k : ℕ) (cut : List ℕ) → sum cut ≤ k → round s (rounds k s cut) ≡ rounds k s cut
unfolding rounds
rounds_fixed s zero cut le = under_same (round s cut) cut (round_under s cut) (omega arith)
rounds_fixed s (suc k) cut le = go (dec_le (sum cut) (sum (round s cut))) (rounds_fixed s k (round s cut))
  where
    go : Dec (sum cut ≤ sum (round s cut)) → (sum (round s cut) ≤ k → round s (rounds k s (round s cut)) ≡ rounds k s (round s cut))
        → round s (rounds k s (round s cut)) ≡ rounds k s (round s cut)
    go (yes l) r =
        let e = under_same (round s cut) cut (round_under s cut) l in
        let f = rounds_rest s k cut e in
        rw (e, f) e
    go (no l) r = r (omega arith)

rest_clean : (s : State) (cut : List ℕ) → round s cut ≡ cut → NoOrphan s cut
rest_clean s cut e p x m = go (test (leb (length cut) p))
  where
    nothing : (h : History) → upto 0 h ≡ []
    nothing [] = refl
    nothing (y ∷ h) = rw (lt-leb (suc (length h)) 0 (omega arith)) (nothing h)

    go : Test (leb (length cut) p) → orphan s cut p x ≡ false
    go (passes y) =
        let z : get_or cut p 0 ≡ 0 = get_or-eq_default cut 0 (leb-true (length cut) p y) in
        absurd (Memᴰ.not-nil (rw (z, nothing) at m))
    go (fails y) =
        let lt = leb-false (length cut) p y in
        any_none (orphan s cut p) (part s cut p)
        (lowered_same (orphan s cut p) (history s p) (get_or cut p 0) (sym (round_at s cut p lt) ∙ ap (λ (c : List ℕ). get_or c p 0) e)) x m

-- ---- the top
-- where the rounds begin
abbrev tops : ℕ → State → List ℕ
tops mask s = each_from 0 (λ p h. top (failed mask p) h) s

tops_at : (mask : ℕ) (s : State) (p : ℕ) → p < length s → get_or (tops mask s) p 0 ≡ top (failed mask p) (history s p)
tops_at mask s p lt = each_at (λ q h. top (failed mask q) h) [] s p lt

tops_sum : (mask : ℕ) (s : State) (i : ℕ) → sum (each_from i (λ p h. top (failed mask p) h) s) ≤ sum (map length s)
tops_sum mask [] i = zero-le
tops_sum mask (h ∷ s) i = let a = top_le (failed mask i) h in let b = tops_sum mask s (suc i) in omega arith

tops_permitted : (mask : ℕ) (s : State) → Permitted mask s (tops mask s)
tops_permitted mask s =
    record {
      size = each_length (λ p h. top (failed mask p) h) s 0;
      each = λ p lt. rw (tops_at mask s p lt) (top_permitted (failed mask p) (history s p));
    }

tops_latest : (mask : ℕ) (s : State) (other : List ℕ) → Permitted mask s other → AtMost other (tops mask s)
tops_latest mask s other P p = go (test (leb (length s) p))
  where
    go : Test (leb (length s) p) → get_or other p 0 ≤ get_or (tops mask s) p 0
    go (passes x) =
        let l = leb-true (length s) p x in
        let z = P.size in
        rw (get_or-eq_default other 0 {n = p} (omega arith)) zero-le
    go (fails x) =
        let lt = leb-false (length s) p x in
        rw (tops_at mask s p lt) (top_latest (failed mask p) (history s p) (get_or other p 0) (P.each p lt))

-- ---- the theorem

pub failure_line_lem : (mask : ℕ) (s : State) → IsFailureLine mask s (failure_line mask s)
unfolding failure_line
failure_line_lem mask s =
    let k = sum (map length s) in
    record {
      permit = rounds_permitted mask s k (tops mask s) (tops_permitted mask s);
      clean = rest_clean s (rounds k s (tops mask s)) (rounds_fixed s k (tops mask s) (tops_sum mask s 0));
      latest = λ other P c p lt. rounds_keeps mask s other P c k (tops mask s) (each_length (λ p h. top (failed mask p) h) s 0) (tops_latest mask s other P) p;
    }

-- ---- two cuts with the same positions have the same parts, and so the same orphans

module _ (s : State) (P Q : List ℕ) (same : (p : ℕ) → p < length s → get_or P p 0 ≡ get_or Q p 0) where
  pub same_part : (q : ℕ) → part s P q ≡ part s Q q
  same_part q = go (dec_lt q (length s))
    where
      go : Dec (q < length s) → part s P q ≡ part s Q q
      go (yes l) = ap (λ (x : ℕ). upto x (history s q)) (same q l)
      go (no l) = rw (beyond s q (omega arith))

  pub same_orphan : (p : ℕ) (e : Event) → orphan s P p e ≡ orphan s Q p e
  same_orphan p (basic m) = refl
  same_orphan p (forced m) = refl
  same_orphan p (sent q) = refl
  same_orphan p (received q k c) = ap (λ (h : History). not (has_send h p k)) (same_part q)

-- ---- there is one such line, so that any way to find it gives the same positions

pub failure_unique : (mask : ℕ) (s : State) (a b : List ℕ) → IsFailureLine mask s a → IsFailureLine mask s b → a ≡ b
failure_unique mask s a b A B =
    let x = A.permit.size in
    let y = B.permit.size in
    ext_get_or 0 a b (x ∙ sym y) (λ i lt.
    let f = B.latest a A.permit A.clean i (omega arith) in
    let g = A.latest b B.permit B.clean i (omega arith) in
    omega arith)
