-- Numbered lines: what the positions are, and that on a made state those of an answered line have no orphan.
use mathlib.Core.Path.{◌≡◌, refl, sym, ap, subst, ◌∙◌}
use mathlib.Core.Logic.{inl, inr}
use mathlib.Core.Bool.{Bool, true, false, cond}
use mathlib.Core.List.{[], ◌∷◌, map}
use mathlib.Core.Option.{Option, none, some, none-ne-some, some-injective}
use Prim.Native.Nat.{ℕ, zero, suc, ◌≤◌, ◌<◌}
use native.Mathlib.Nat.{le_refl, not-suc-le-zero, le_of_suc-le-suc}
use native.Mathlib.Omega.{arith}
use native.Mathlib.Decide.{dec_lt}
use lib.Dec.{leb}
use lib.ListN.{length, get_or, get_or-map}
use borrow.Author.Tests.{leb-true, leb-false, le-leb, eq-eqb}
use Rattle.rules.specs.Records.{Event, basic, forced, sent, received, History, State, history, number}
use Rattle.rules.specs.Lines.{upto, part, NoOrphan, saved, is_checkpoint, at_least, numbered, is_none, lacking, position_or, numbered_line}
use Rattle.basics.proofs.Older.{Older, same, newer, none_older, older_of, older_trans}
use Rattle.basics.proofs.Booleans.{Test, passes, fails, test, clash, or_false, or_right}
use Rattle.records.proofs.Histories.{Each, each_older, Rising}
use Rattle.records.proofs.Receipts.{Sourced, Less, less_below}
use Rattle.records.proofs.Made.{Sound}
use Rattle.records.proofs.Cuts.{upto_older, upto_is_older, upto_length, saved_older}
use Rattle.records.proofs.FailureLines.{beyond}
use Rattle.records.proofs.Splits.{Splits, split_clean}

-- ---- one process

-- line 0 has every process at its initial checkpoint
pub numbered_zero : (N : ℕ) → N ≡ 0 → (h : History) → numbered N h ≡ some 0
numbered_zero N z [] = rw (le-leb N 0 (omega arith))
numbered_zero N z (e ∷ h) = rw (numbered_zero N z h)

-- t is the process's position in line N, that of its first checkpoint with a number of N or more: the initial one, or e, which follows the
-- records g
pub data InLine (N : ℕ) (h : History) : ℕ → Type 0 where
  initial : N ≤ 0 → InLine N h 0
  behind : (e : Event) (g : History) → Older (e ∷ g) h → at_least N e ≡ true → numbered N g ≡ none → InLine N h (suc (length g))

in_line_later : {N : ℕ} {h : History} {t : ℕ} (e : Event) → InLine N h t → InLine N (e ∷ h) t
in_line_later e (initial le) = initial le
in_line_later e (behind x g o y z) = behind x g (newer o) y z

pub in_line : (N : ℕ) (h : History) (t : ℕ) → numbered N h ≡ some t → InLine N h t
in_line N [] t x = go (test (leb N 0))
  where
    go : Test (leb N 0) → InLine N [] t
    go (passes y) = subst (InLine N []) (some-injective 0 t (rw y at x)) (initial (leb-true N 0 y))
    go (fails y) = absurd (none-ne-some t (rw y at x))
in_line N (e ∷ h) t x = go (numbered N h) refl (test (at_least N e)) (in_line N h t)
  where
    go : (o : Option ℕ) → numbered N h ≡ o → Test (at_least N e) → (numbered N h ≡ some t → InLine N h t) → InLine N (e ∷ h) t
    go (some i) f b r = let z : some i ≡ some t = (rw f at x) in in_line_later e (r (f ∙ z))
    go none f (passes b) r = subst (InLine N (e ∷ h)) (some-injective (suc (length h)) t (rw (f, b) at x)) (behind e h same b f)
    go none f (fails b) r = absurd (none-ne-some t (rw (f, b) at x))

none_cons : (N : ℕ) (e : Event) (h : History) → numbered N (e ∷ h) ≡ none → (numbered N h ≡ none) × (at_least N e ≡ false)
none_cons N e h x = go (numbered N h) refl (test (at_least N e))
  where
    go : (o : Option ℕ) → numbered N h ≡ o → Test (at_least N e) → (numbered N h ≡ none) × (at_least N e ≡ false)
    go (some i) f b = absurd (none-ne-some i (sym (rw f at x)))
    go none f (passes b) = absurd (none-ne-some (suc (length h)) (sym (rw (f, b) at x)))
    go none f (fails b) = (f, b)

older_none : (N : ℕ) {g h : History} → Older g h → numbered N h ≡ none → numbered N g ≡ none
older_none N same x = x
older_none N (newer {e} {g = y} o) x = older_none N o (none_cons N e y x).0

-- a process without such a checkpoint has a smaller number
none_below : (N : ℕ) (h : History) → numbered N h ≡ none → number h < N
none_below N [] x = go (test (leb N 0))
  where
    go : Test (leb N 0) → 0 < N
    go (passes y) = absurd (none-ne-some 0 (sym (rw y at x)))
    go (fails y) = leb-false N 0 y
none_below N (basic m ∷ h) x = leb-false N m (none_cons N (basic m) h x).1
none_below N (forced m ∷ h) x = leb-false N m (none_cons N (forced m) h x).1
none_below N (sent q ∷ h) x = none_below N h (none_cons N (sent q) h x).0
none_below N (received q k c ∷ h) x = none_below N h (none_cons N (received q k c) h x).0

-- what such a checkpoint is
at_least_is : (N : ℕ) (e : Event) (h : History) → at_least N e ≡ true → (is_checkpoint e ≡ true) × (N ≤ number (e ∷ h))
at_least_is N (basic m) h x = (refl, leb-true N m x)
at_least_is N (forced m) h x = (refl, leb-true N m x)
at_least_is N (sent q) h x = clash false x refl
at_least_is N (received q k c) h x = clash false x refl

module _ {N : ℕ} {h : History} where
  pub in_line_saved : {t : ℕ} → InLine N h t → saved h t ≡ true
  in_line_saved (initial le) = saved_older (none_older h) 0 (omega arith)
  in_line_saved (behind e g o y z) =
      saved_older o (suc (length g)) (le_refl (suc (length g)))
      ∙ rw (eq-eqb (suc (length g)) (suc (length g)) refl) (at_least_is N e g y).0

  pub in_line_enough : {t : ℕ} → InLine N h t → N ≤ number (upto t h)
  in_line_enough (initial le) = rw (upto_older (none_older h)) le
  in_line_enough (behind e g o y z) = rw (upto_older o) (at_least_is N e g y).1

  -- before it every number was smaller
  pub in_line_before : {t : ℕ} → InLine N h t → (u : ℕ) → u < t → number (upto u h) < N
  in_line_before (initial le) u lt = absurd (omega arith)
  in_line_before (behind e g o y z) u lt =
      let l = upto_length u h in
      none_below N (upto u h) (older_none N (older_of (upto_is_older u h) (older_trans (newer same) o) (omega arith)) z)

  -- receipts before it carried less
  in_line_low : {t : ℕ} (s : State) (p : ℕ) → Rising h → Sourced s p h → InLine N h t → Each (Less N) (upto t h)
  in_line_low s p r S (initial le) = rw (upto_older (none_older h)) tt
  in_line_low s p r S (behind e g o y z) =
      rw (upto_older o) (newest e (each_older _ o r) (each_older _ o S) (at_least_is N e g y).0)
    where
      newest : (e : Event) → Rising (e ∷ g) → Sourced s p (e ∷ g) → is_checkpoint e ≡ true → Each (Less N) (e ∷ g)
      newest (basic m) r S x = (tt, less_below N s p g r.1 S.1 (none_below N g z))
      newest (forced m) r S x = (tt, less_below N s p g r.1 S.1 (none_below N g z))
      newest (sent q) r S x = clash false x refl
      newest (received q k c) r S x = clash false x refl

-- ---- a position that splits

module _ (n E : ℕ) (s : State) (M : Sound n E s) where
  pub in_line_splits : {N t : ℕ} (p : ℕ) → InLine N (history s p) t → Splits N (history s p) (upto t (history s p))
  in_line_splits p F = record { low = in_line_low s p (M.rising p) (M.sourced p) F; high = inl (in_line_enough F) }

  -- without such a checkpoint the whole history does
  pub none_splits : {N : ℕ} (p : ℕ) → numbered N (history s p) ≡ none → Splits N (history s p) (history s p)
  none_splits {N} p x =
      record { low = less_below N s p (history s p) (M.rising p) (M.sourced p) (none_below N (history s p) x); high = inr refl }

-- ---- all processes

-- a process's position, where one that has none is at d of its records
pub position : (d : History → ℕ) → d [] ≡ 0 → (N : ℕ) (s : State) (p : ℕ)
    → get_or (map (λ h. position_or (d h) (numbered N h)) s) p 0 ≡ position_or (d (history s p)) (numbered N (history s p))
position d z N s p =
    ap (get_or (map (λ h. position_or (d h) (numbered N h)) s) p) (sym (go (leb N 0))) ∙ get_or-map (λ h. position_or (d h) (numbered N h)) s p []
  where
    go : (b : Bool) → position_or (d []) (cond b (some 0) none) ≡ 0
    go true = refl
    go false = z

-- one process without such a checkpoint is enough
pub lacked : (N : ℕ) (s : State) (p : ℕ) → p < length s → numbered N (history s p) ≡ none → lacking N s ≡ true
lacked N [] p lt x = absurd (not-suc-le-zero lt)
lacked N (h ∷ s) zero lt x = rw x
lacked N (h ∷ s) (suc p) lt x = or_right (is_none (numbered N h)) (lacking N s) (lacked N s p (le_of_suc-le-suc lt) x)

-- and where each has one, none lacks it
pub none_lacks : (N : ℕ) (s : State) (f : ℕ → ℕ) → ((p : ℕ) → p < length s → numbered N (history s p) ≡ some (f p)) → lacking N s ≡ false
none_lacks N [] f x = refl
none_lacks N (h ∷ s) f x = rw (x 0 (omega arith)) (none_lacks N s (λ p. f (suc p)) (λ p lt. x (suc p) (omega arith)))

-- a line that is answered has a position of each process
answered_at : (N : ℕ) (s : State) → lacking N s ≡ false → (p : ℕ) → p < length s → numbered N (history s p) ≡ some (get_or (numbered_line N s) p 0)
answered_at N [] x p lt = absurd (not-suc-le-zero lt)
answered_at N (h ∷ s) x zero lt = go (numbered N h) refl
  where
    go : (o : Option ℕ) → numbered N h ≡ o → numbered N h ≡ some (position_or 0 (numbered N h))
    go (some t) f = rw f
    go none f = clash true refl (rw f at (or_false (is_none (numbered N h)) (lacking N s) x).0)
answered_at N (h ∷ s) x (suc p) lt = answered_at N s (or_false (is_none (numbered N h)) (lacking N s) x).1 p (le_of_suc-le-suc lt)

pub all_in_line : (N : ℕ) (s : State) → lacking N s ≡ false → (p : ℕ) → p < length s → InLine N (history s p) (get_or (numbered_line N s) p 0)
all_in_line N s x p lt = in_line N (history s p) (get_or (numbered_line N s) p 0) (answered_at N s x p lt)

pub line_clean : (n E : ℕ) (s : State) → Sound n E s → (N : ℕ) → lacking N s ≡ false → NoOrphan s (numbered_line N s)
line_clean n E s M N x = split_clean n E s M N (numbered_line N s) (λ p. go p (dec_lt p (length s)))
  where
    go : (p : ℕ) → Dec (p < length s) → Splits N (history s p) (part s (numbered_line N s) p)
    go p (yes lt) = in_line_splits n E s M p (all_in_line N s x p lt)
    go p (no ge) =
        let z = beyond s p (omega arith) in
        rw z (record { low = tt; high = inr refl })
