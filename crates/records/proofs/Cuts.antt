-- Laws of cuts at one process: the first records of a history, saved and permitted positions, and positions that are lowered.
use mathlib.Core.Path.{◌≡◌, refl, sym, ◌∙◌, subst}
use mathlib.Core.Logic.{◌⊎◌, inl, inr}
use mathlib.Core.Bool.{Bool, true, false, not, cond, ◌&&◌, ◌||◌, and-eq-true_iff}
use mathlib.Core.List.Memᴰ
use mathlib.Core.List.{[], ◌∷◌, Memᴰ}
use Prim.Native.Nat.{ℕ, suc, ◌≤◌, ◌<◌, zero-le}
use native.Mathlib.Nat.{le_refl, le_trans}
use native.Mathlib.Omega.{arith}
use lib.Dec.{leb, eqb}
use lib.ListN.{length}
use borrow.Author.Tests.{leb-true, leb-false, lt-leb, le-leb, eqb-true, eq-eqb, ne_eqb}
use Rattle.rules.specs.Records.{Event, History}
use Rattle.rules.specs.Lines.{upto, is_checkpoint, saved, permitted}
use Rattle.rules.specs.FailureLine.{last_saved, any, before, lowered, top}
use Rattle.basics.proofs.Older.{Older, same, newer, older_trans, older_length}
use Rattle.basics.proofs.Booleans.{Test, passes, fails, test, or_false, clash, true_or, or_right}

-- ---- the first t records

upto_all : (h : History) → upto (length h) h ≡ h
upto_all [] = refl
upto_all (e ∷ h) = rw (le-leb (suc (length h)) (suc (length h)) (le_refl (suc (length h))))

pub upto_older : {g h : History} → Older g h → upto (length g) h ≡ g
upto_older {g} same = upto_all g
upto_older {g} (newer {e} {g = x} o) = let l = older_length o in rw (lt-leb (suc (length x)) (length g) (omega arith)) (upto_older o)

pub upto_is_older : (t : ℕ) (h : History) → Older (upto t h) h
upto_is_older t [] = same
upto_is_older t (e ∷ h) = go (leb (suc (length h)) t) (upto_is_older t h)
  where
    go : (b : Bool) → Older (upto t h) h → Older (cond b (e ∷ h) (upto t h)) (e ∷ h)
    go true o = same
    go false o = newer o

pub upto_length : (t : ℕ) (h : History) → length (upto t h) ≤ t
upto_length t [] = zero-le
upto_length t (e ∷ h) = go (test (leb (suc (length h)) t)) (upto_length t h)
  where
    go : Test (leb (suc (length h)) t) → length (upto t h) ≤ t → length (cond (leb (suc (length h)) t) (e ∷ h) (upto t h)) ≤ t
    go (passes x) l = rw x (leb-true (suc (length h)) t x)
    go (fails x) l = rw x l

pub upto_exact : (t : ℕ) (h : History) → t ≤ length h → length (upto t h) ≡ t
upto_exact t [] le = omega arith
upto_exact t (e ∷ h) le = go (test (leb (suc (length h)) t)) (upto_exact t h)
  where
    go : Test (leb (suc (length h)) t) → (t ≤ length h → length (upto t h) ≡ t)
        → length (cond (leb (suc (length h)) t) (e ∷ h) (upto t h)) ≡ t
    go (passes x) l = let y = leb-true (suc (length h)) t x in rw x (omega arith)
    go (fails x) l = let y = leb-false (suc (length h)) t x in rw x (l (omega arith))

pub upto_mono : (x t : ℕ) (h : History) → x ≤ t → Older (upto x h) (upto t h)
upto_mono x t [] le = same
upto_mono x t (e ∷ h) le = go (test (leb (suc (length h)) t)) (test (leb (suc (length h)) x)) (upto_mono x t h le)
  where
    go : Test (leb (suc (length h)) t) → Test (leb (suc (length h)) x) → Older (upto x h) (upto t h)
        → Older (cond (leb (suc (length h)) x) (e ∷ h) (upto x h)) (cond (leb (suc (length h)) t) (e ∷ h) (upto t h))
    go (passes y) (passes z) o = rw (y, z) same
    go (passes y) (fails z) o = rw (y, z) (newer (upto_is_older x h))
    go (fails y) (passes z) o = let a = leb-false (suc (length h)) t y in let b = leb-true (suc (length h)) x z in absurd (omega arith)
    go (fails y) (fails z) o = rw (y, z) o

-- ---- saved positions

pub saved_le : (h : History) (t : ℕ) → saved h t ≡ true → t ≤ length h
saved_le [] t e = let x = eqb-true t 0 e in omega arith
saved_le (x ∷ h) t e = go (test (eqb t (suc (length h)))) (saved_le h t)
  where
    go : Test (eqb t (suc (length h))) → (saved h t ≡ true → t ≤ length h) → t ≤ suc (length h)
    go (passes y) l = let z = eqb-true t (suc (length h)) y in omega arith
    go (fails y) l = let z = l (rw y at e) in omega arith

pub saved_older : {g h : History} → Older g h → (t : ℕ) → t ≤ length g → saved h t ≡ saved g t
saved_older same t le = refl
saved_older (newer {e} {g = y} o) t le = let l = older_length o in rw (ne_eqb t (suc (length y)) (omega arith)) (saved_older o t le)

pub last_le : (h : History) → last_saved h ≤ length h
last_le [] = zero-le
last_le (e ∷ h) = go (is_checkpoint e) (last_le h)
  where
    go : (b : Bool) → last_saved h ≤ length h → cond b (suc (length h)) (last_saved h) ≤ suc (length h)
    go true l = le_refl (suc (length h))
    go false l = omega arith

pub last_saved_lem : (h : History) → saved h (last_saved h) ≡ true
last_saved_lem [] = refl
last_saved_lem (e ∷ h) = go (test (is_checkpoint e)) (last_saved_lem h) (last_le h)
  where
    go : Test (is_checkpoint e) → saved h (last_saved h) ≡ true → last_saved h ≤ length h
        → saved (e ∷ h) (cond (is_checkpoint e) (suc (length h)) (last_saved h)) ≡ true
    go (passes x) s l = rw (x, eq-eqb (suc (length h)) (suc (length h)) refl)
    go (fails x) s l = rw (x, ne_eqb (last_saved h) (suc (length h)) (omega arith)) s

-- no saved position is later
pub last_latest : (h : History) (t : ℕ) → saved h t ≡ true → t ≤ last_saved h
last_latest [] t e = let x = eqb-true t 0 e in omega arith
last_latest (x ∷ h) t e = go (test (eqb t (suc (length h)))) (test (is_checkpoint x)) (saved_le (x ∷ h) t e) (last_latest h t)
  where
    go : Test (eqb t (suc (length h))) → Test (is_checkpoint x) → t ≤ suc (length h) → (saved h t ≡ true → t ≤ last_saved h)
        → t ≤ cond (is_checkpoint x) (suc (length h)) (last_saved h)
    go y (passes c) l r = rw c l
    go (passes y) (fails c) l r = clash false (sym c ∙ (rw y at e)) refl
    go (fails y) (fails c) l r = rw c (r (rw y at e))

-- ---- records before the first orphan

pub before_older : (o : Event → Bool) (h : History) → Older (before o h) h
before_older o [] = same
before_older o (e ∷ h) = go (o e || any o h) (before_older o h)
  where
    go : (b : Bool) → Older (before o h) h → Older (cond b (before o h) (e ∷ h)) (e ∷ h)
    go true r = newer r
    go false r = same

pub before_less : (o : Event → Bool) (h : History) → any o h ≡ true → length (before o h) < length h
before_less o [] e = clash false e refl
before_less o (x ∷ h) e = let l = older_length (before_older o h) in rw e (omega arith)

-- an older part without orphans is an older part of what was before the first one
pub before_keeps : (o : Event → Bool) {g h : History} → Older g h → any o g ≡ false → Older g (before o h)
before_keeps o {g = []} same e = same
before_keeps o {g = x ∷ g} same e = rw e same
before_keeps o {g} (newer {e = x} {g = y} r) e = go (o x || any o y) (before_keeps o r e)
  where
    go : (b : Bool) → Older g (before o y) → Older g (cond b (before o y) (x ∷ y))
    go true k = k
    go false k = newer r

pub any_none : (o : Event → Bool) (h : History) → any o h ≡ false → (e : Event) → Memᴰ e h → o e ≡ false
any_none o [] x e m = absurd (Memᴰ.not-nil m)
any_none o (y ∷ h) x e (Memᴰ.head q) = rw q (or_false (o y) (any o h) x).0
any_none o (y ∷ h) x e (Memᴰ.tail m) = any_none o h (or_false (o y) (any o h) x).1 e m

pub before_all : (o : Event → Bool) (h : History) → any o h ≡ false → before o h ≡ h
before_all o [] e = refl
before_all o (x ∷ h) e = rw e

pub any_older : (o : Event → Bool) {g h : History} → Older g h → any o h ≡ false → any o g ≡ false
any_older o same e = e
any_older o (newer {e = x} {g = y} r) e = any_older o r (or_false (o x) (any o y) e).1

before_none : (o : Event → Bool) (h : History) → any o (before o h) ≡ false
before_none o [] = refl
before_none o (x ∷ h) = go (test (o x || any o h)) (before_none o h)
  where
    go : Test (o x || any o h) → any o (before o h) ≡ false → any o (cond (o x || any o h) (before o h) (x ∷ h)) ≡ false
    go (passes y) n = rw y n
    go (fails y) n = rw y y

pub none_any : (o : Event → Bool) (h : History) → ((e : Event) → Memᴰ e h → o e ≡ false) → any o h ≡ false
none_any o [] f = refl
none_any o (y ∷ h) f = rw (f y (Memᴰ.head refl)) (none_any o h (λ e m. f e (Memᴰ.tail m)))

pub permitted_le : (h : History) (down : Bool) (x : ℕ) → permitted down h x ≡ true → x ≤ length h
permitted_le h down x ok = go (true_or (saved h x) (not down && eqb x (length h)) ok)
  where
    go : saved h x ≡ true ⊎ (not down && eqb x (length h)) ≡ true → x ≤ length h
    go (inl a) = saved_le h x a
    go (inr a) = let b = eqb-true x (length h) ((and-eq-true_iff (not down) (eqb x (length h))).0 a).1 in omega arith

-- ---- a position lowered for a test o

module _ (o : Event → Bool) (h : History) where
  pub lowered_le : (t : ℕ) → lowered o h t ≤ t
  lowered_le t = go (any o (upto t h))
    where
      go : (b : Bool) → cond b (last_saved (before o (upto t h))) t ≤ t
      go true = le_trans (last_le (before o (upto t h))) (le_trans (older_length (before_older o (upto t h))) (upto_length t h))
      go false = le_refl t

  -- a position with a record for which the test holds below it is lowered
  pub lowered_less : (t : ℕ) → any o (upto t h) ≡ true → lowered o h t < t
  lowered_less t x =
      let a = before_less o (upto t h) x in
      let b = last_le (before o (upto t h)) in
      let c = upto_length t h in
      rw x (omega arith)

  pub lowered_same : (t : ℕ) → lowered o h t ≡ t → any o (upto t h) ≡ false
  lowered_same t e = go (test (any o (upto t h)))
    where
      go : Test (any o (upto t h)) → any o (upto t h) ≡ false
      go (passes x) = let l = lowered_less t x in absurd (omega arith)
      go (fails x) = x

  -- below a lowered position the test holds for no record
  pub lowered_none : (t : ℕ) → any o (upto (lowered o h t) h) ≡ false
  lowered_none t = go (test (any o (upto t h)))
    where
      g : History
      g = before o (upto t h)

      o_g : Older g h
      o_g = older_trans (before_older o (upto t h)) (upto_is_older t h)

      -- what is up to a position of an older part is older than that part
      inside : Older (upto (last_saved g) h) g
      inside = subst (λ (x : History). Older (upto (last_saved g) h) x) (upto_older o_g) (upto_mono (last_saved g) (length g) h (last_le g))

      go : Test (any o (upto t h)) → any o (upto (cond (any o (upto t h)) (last_saved g) t) h) ≡ false
      go (passes x) = rw x (any_older o inside (before_none o (upto t h)))
      go (fails x) = rw x x

  pub lowered_permitted : (down : Bool) (t : ℕ) → permitted down h t ≡ true → permitted down h (lowered o h t) ≡ true
  lowered_permitted down t ok = go (any o (upto t h))
    where
      g : History
      g = before o (upto t h)

      is_saved : saved h (last_saved g) ≡ true
      is_saved = saved_older (older_trans (before_older o (upto t h)) (upto_is_older t h)) (last_saved g) (last_le g) ∙ last_saved_lem g

      go : (b : Bool) → permitted down h (cond b (last_saved g) t) ≡ true
      go true = rw is_saved
      go false = ok

  -- a permitted position below which the test holds for no record is not passed by
  pub lowered_keeps : (down : Bool) (x t : ℕ) → x ≤ t → permitted down h x ≡ true → any o (upto x h) ≡ false → x ≤ lowered o h t
  lowered_keeps down x t le ok none = go (test (any o (upto t h)))
    where
      stays : Older (upto x h) (before o (upto t h))
      stays = before_keeps o (upto_mono x t h le) none

      is : x < length h → saved h x ≡ true ⊎ (not down && eqb x (length h)) ≡ true → saved h x ≡ true
      is lt (inl q) = q
      is lt (inr q) = let b = eqb-true x (length h) ((and-eq-true_iff (not down) (eqb x (length h))).0 q).1 in absurd (omega arith)

      below : any o (upto t h) ≡ true → x ≤ last_saved (before o (upto t h))
      below y =
          let a = upto_exact x h (permitted_le h down x ok) in
          let b = older_length stays in
          let f : x ≤ length (before o (upto t h)) = omega arith in
          let less = before_less o (upto t h) y in
          let most = older_length (upto_is_older t h) in
          let at = is (omega arith) (true_or (saved h x) (not down && eqb x (length h)) ok) in
          last_latest (before o (upto t h)) x (sym (saved_older (older_trans (before_older o (upto t h)) (upto_is_older t h)) x f) ∙ at)

      go : Test (any o (upto t h)) → x ≤ lowered o h t
      go (passes y) = rw y (below y)
      go (fails y) = rw y le

-- ---- the latest permitted position

pub top_le : (down : Bool) (h : History) → top down h ≤ length h
top_le true h = last_le h
top_le false h = le_refl (length h)

pub top_permitted : (down : Bool) (h : History) → permitted down h (top down h) ≡ true
top_permitted true h = rw (last_saved_lem h)
top_permitted false h = or_right (saved h (length h)) (eqb (length h) (length h)) (eq-eqb (length h) (length h) refl)

pub top_latest : (down : Bool) (h : History) (t : ℕ) → permitted down h t ≡ true → t ≤ top down h
top_latest true h t e = last_latest h t (go (true_or (saved h t) false e))
  where
    go : saved h t ≡ true ⊎ false ≡ true → saved h t ≡ true
    go (inl a) = a
    go (inr a) = clash false a refl
top_latest false h t e = go (true_or (saved h t) (eqb t (length h)) e)
  where
    go : saved h t ≡ true ⊎ eqb t (length h) ≡ true → t ≤ length h
    go (inl a) = saved_le h t a
    go (inr a) = let b = eqb-true t (length h) a in omega arith
