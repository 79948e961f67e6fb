-- Slip 9: every save can be used: the theorems stated in specs/Saves.antt.
use mathlib.Core.Path.{◌≡◌, refl, subst}
use mathlib.Core.Logic.{◌≢◌}
use mathlib.Core.Bool.{Bool, true, false, cond, ◌&&◌}
use mathlib.Core.List.{List, [], ◌∷◌}
use mathlib.Core.Option.{some}
use Prim.Native.Nat.{ℕ, zero, suc, ◌≤◌, ◌<◌, zero-le}
use native.Mathlib.Nat.{le_refl}
use native.Mathlib.Omega.{arith}
use native.Mathlib.Decide.{ℕ_discrete}
use lib.Dec.{eqb}
use lib.ListN.{length, get_or}
use borrow.Author.Tests.{eq-eqb, ne_eqb}
use Rattle.xdr.specs.Words.{word}
use Rattle.rules.specs.Records.{Event, basic, History, State, history, record_at}
use Rattle.rules.specs.Table.{layout, decoded, well_laid}
use Rattle.rules.specs.Lines.{part, orphan, NoOrphan, failed, is_checkpoint, permitted, Permitted, IsFailureLine}
use Rattle.rules.specs.FailureLine.{last_saved, any}
use Rattle.rules.specs.Lists.{MadeByCalls}
use Rattle.rules.specs.Saves.{cut_through, some_upto, some_cut, all_below, fits, has_cut, useful, reached}
use Rattle.rules.specs.WorkedSaves.{waiting, unforced, too_late}
use Rattle.theorems.specs.Saves.{Uses, EverySave, FailsAlone, LastReloaded, Idle, Reaches, IdleSaves}
use Rattle.basics.proofs.Older.{older_length}
use Rattle.basics.proofs.Booleans.{Test, passes, fails, test, clash, or_right}
use Rattle.records.proofs.Histories.{found}
use Rattle.records.proofs.Cuts.{last_le, permitted_le, none_any, top_permitted, top_latest}
use Rattle.records.proofs.Saves.{cut_size, cut_here, cut_others, cut_clean}
use Rattle.runs.proofs.Ways.{sound}
use Rattle.theorems.proofs.Demand3.{made_holds}

pub every_save : EverySave
every_save n E t C p i e at is =
    let s = decoded t in
    let M = sound (made_holds n E t C).made in
    record {
      size = cut_size s p i;
      here = cut_here s p i e at;
      others = cut_others s p i;
      clean = cut_clean s p i e at n E M is;
    }

-- ---- a process that fails alone

-- the last checkpoint is the initial one, or a record
data Last (h : History) : Type 0 where
  initial : last_saved h ≡ 0 → Last h
  recorded : (e : Event) → record_at (last_saved h) h ≡ some e → is_checkpoint e ≡ true → Last h

last_lem : (h : History) → Last h
last_lem [] = initial refl
last_lem (e ∷ h) = go (test (is_checkpoint e)) (last_lem h) (last_le h)
  where
    go : Test (is_checkpoint e) → Last h → last_saved h ≤ length h → Last (e ∷ h)
    go (passes x) l le = recorded e (rw (x, eq-eqb (suc (length h)) (suc (length h)) refl)) x
    go (fails x) (initial z) le = initial (rw x z)
    go (fails x) (recorded y a z) le =
        let same_place : last_saved h ≡ last_saved (e ∷ h) = (rw x refl) in
        let there : record_at (last_saved h) (e ∷ h) ≡ some y = rw (ne_eqb (last_saved h) (suc (length h)) (omega arith)) a in
        recorded y (subst (λ (i : ℕ). record_at i (e ∷ h) ≡ some y) same_place there) z

module _ (n E : ℕ) (t : List ℕ) (C : MadeByCalls n E t) (mask p : ℕ) (lt : p < n) (A : FailsAlone mask p)
    (cut : List ℕ) (L : IsFailureLine mask (decoded t) cut) where
  abbrev s : State
  s = decoded t

  abbrev h : History
  h = history s p

  within : p < length s
  within = let z = (sound (made_holds n E t C).made).size in omega arith

  not_behind : get_or cut p 0 ≤ last_saved h
  not_behind =
      let ok = L.permit.each p within in
      let f = A.it in
      top_latest true h (get_or cut p 0) (rw f at ok)

  not_before : Last h → last_saved h ≤ get_or cut p 0
  not_before (initial z) = rw z zero-le
  not_before (recorded e at is) = let here = U.here in let le = L.latest (cut_through s p i) permit U.clean p within in rw here at le
    where
      i : ℕ
      i = last_saved h

      U : Uses s p i (cut_through s p i)
      U = every_save n E t C p i e at is

      permit : Permitted mask s (cut_through s p i)
      permit = record { size = U.size; each = λ q w. go q w (ℕ_discrete q p) }
        where
          go : (q : ℕ) → q < length s → Dec (q ≡ p) → permitted (failed mask q) (history s q) (get_or (cut_through s p i) q 0) ≡ true
          go q w (yes y) = rw (y, A.it, U.here) (top_permitted true h)
          go q w (no ne) = rw (A.alone q ne) (U.others q w ne)

  reloaded : get_or cut p 0 ≡ last_saved h
  reloaded = let a = not_behind in let b = not_before (last_lem h) in omega arith

pub last_reloaded : LastReloaded
last_reloaded = reloaded

-- ---- the search misses no cut

some_upto_holds : (f : ℕ → Bool) (m t : ℕ) → t ≤ m → f t ≡ true → some_upto f m ≡ true
some_upto_holds f zero t le x = let z : t ≡ 0 = omega arith in rw z at x
some_upto_holds f (suc m) t le x = go (ℕ_discrete t (suc m)) (some_upto_holds f m t)
  where
    go : Dec (t ≡ suc m) → (t ≤ m → f t ≡ true → some_upto f m ≡ true) → some_upto f (suc m) ≡ true
    go (yes y) r = rw (rw y at x) refl
    go (no ne) r = or_right (f (suc m)) (some_upto f m) (r (omega arith) x)

some_cut_holds : (f : List ℕ → Bool) (s : State) (cut : List ℕ) → length cut ≡ length s
    → ((q : ℕ) → q < length s → get_or cut q 0 ≤ length (history s q)) → f cut ≡ true → some_cut f s ≡ true
some_cut_holds f [] [] z le x = x
some_cut_holds f [] (t ∷ cut) z le x = absurd (omega arith)
some_cut_holds f (h ∷ s) [] z le x = absurd (omega arith)
some_cut_holds f (h ∷ s) (t ∷ cut) z le x =
    some_upto_holds (λ u. some_cut (λ c. f (u ∷ c)) s) (length h) t (le 0 (omega arith))
    (some_cut_holds (λ c. f (t ∷ c)) s cut (omega arith) (λ q lt. le (suc q) (omega arith)) x)

all_below_holds : (f : ℕ → Bool) (n : ℕ) → ((q : ℕ) → q < n → f q ≡ true) → all_below f n ≡ true
all_below_holds f zero h = refl
all_below_holds f (suc n) h = rw (h n (le_refl (suc n))) (all_below_holds f n (λ q lt. h q (omega arith)))

cut_found : (may : History → ℕ → Bool) (s : State) (p i : ℕ) (cut : List ℕ)
    → length cut ≡ length s
    → ((q : ℕ) → q < length s → get_or cut q 0 ≤ length (history s q))
    → get_or cut p 0 ≡ i
    → ((q : ℕ) → q < length s → q ≢ p → may (history s q) (get_or cut q 0) ≡ true)
    → NoOrphan s cut
    → has_cut may s p i ≡ true
cut_found may s p i cut size within here others clean =
    some_cut_holds (λ c. all_below (fits may s p i c) (length s)) s cut size within (all_below_holds (fits may s p i cut) (length s) fit)
  where
    fit : (q : ℕ) → q < length s → fits may s p i cut q ≡ true
    fit q lt = rw none (go (ℕ_discrete q p))
      where
        none : any (orphan s cut q) (part s cut q) ≡ false
        none = none_any (orphan s cut q) (part s cut q) (clean q)

        go : Dec (q ≡ p) → (cond (eqb q p) (eqb (get_or cut q 0) i) (may (history s q) (get_or cut q 0)) && true) ≡ true
        go (yes y) = rw (y, here, eq-eqb p p refl) (rw (eq-eqb i i refl) refl)
        go (no ne) = rw (ne_eqb q p ne, others q lt ne) refl

-- a use of the checkpoint at a place that there is
uses_found : (s : State) (p i : ℕ) (cut : List ℕ) → i ≤ length (history s p) → Uses s p i cut → useful s p i ≡ true
uses_found s p i cut le U = cut_found (permitted false) s p i cut U.size within U.here U.others U.clean
  where
    within : (q : ℕ) → q < length s → get_or cut q 0 ≤ length (history s q)
    within q lt = go (ℕ_discrete q p)
      where
        go : Dec (q ≡ p) → get_or cut q 0 ≤ length (history s q)
        go (yes y) = rw (y, U.here) le
        go (no ne) = permitted_le (history s q) false (get_or cut q 0) (U.others q lt ne)

-- ---- idle saves

idle_save : (s : State) (p i : ℕ) (e : Event) → record_at i (history s p) ≡ some e → is_checkpoint e ≡ true → useful s p i ≡ false → Idle s p i
idle_save s p i e at saves none =
    record {
      e = e;
      there = at;
      saves = saves;
      idle = λ cut U. clash (useful s p i) (uses_found s p i cut within U) none;
    }
  where
    within : i ≤ length (history s p)
    within = let F = found (history s p) e i at in let l = older_length F.there in let z = F.place in omega arith

nowhere_lem : (s : State) (p i : ℕ) → reached s p i ≡ false → i ≤ length (history s p) → (cut : List ℕ) → Reaches s p i cut → ⊥
nowhere_lem s p i none le cut R =
    clash (reached s p i) (cut_found (λ h t. true) s p i cut R.of_each within R.at (λ q lt ne. refl) R.no_orphan) none
  where
    within : (q : ℕ) → q < length s → get_or cut q 0 ≤ length (history s q)
    within q lt = go (ℕ_discrete q p)
      where
        go : Dec (q ≡ p) → get_or cut q 0 ≤ length (history s q)
        go (yes y) = rw (y, R.at) le
        go (no ne) = R.within q lt ne

pub idle_saves : IdleSaves
unfolding layout decoded well_laid word
idle_saves =
    record {
      of_no_run = λ n E t p i I C. I.idle (cut_through (decoded t) p i) (every_save n E t C p i I.e I.there I.saves);
      laid = (refl, refl);
      idle = idle_save waiting 0 2 (basic 1) refl refl refl;
      nowhere = nowhere_lem waiting 0 2 refl (omega arith);
      laid_unforced = (refl, refl);
      idle_unforced = idle_save unforced 0 2 (basic 1) refl refl refl;
      idle_late = idle_save too_late 0 2 (basic 1) refl refl refl;
      left_late = refl;
    }
