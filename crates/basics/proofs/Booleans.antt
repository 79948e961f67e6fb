-- Laws of tests that are put together, and of values that a test picks.
use mathlib.Core.Path.{◌≡◌, refl, sym, ap, ◌∙◌}
use mathlib.Core.Logic.{◌⊎◌, inl, inr}
use mathlib.Core.Bool.{Bool, true, false, cond, ◌&&◌, ◌||◌, and-false, and-eq-true_iff}
use Prim.Native.Nat.{ℕ, zero, suc, ◌<◌}
use native.Mathlib.Nat.{not-suc-le-zero}
use native.Mathlib.Omega.{arith}
use native.Mathlib.Decide.{dec_lt}

-- what a test came to, with the equation
pub data Test (b : Bool) : Type 0 where
  passes : b ≡ true → Test b
  fails : b ≡ false → Test b

pub test : (b : Bool) → Test b
test true = passes refl
test false = fails refl

-- no test comes to both
pub clash : {A : Type 0} (b : Bool) → b ≡ true → b ≡ false → A
clash b t f = absurd (let z : ◌≡◌ {A = ℕ} 0 1 = cc in omega arith)

pub and_left : (a b : Bool) → (a && b) ≡ true → a ≡ true
and_left a b e = ((and-eq-true_iff a b).0 e).0

pub and_right : (a b : Bool) → (a && b) ≡ true → b ≡ true
and_right a b e = ((and-eq-true_iff a b).0 e).1

pub false_left : (x y : Bool) → x ≡ false → (x && y) ≡ false
false_left x y e = rw e

pub false_right : (x y : Bool) → y ≡ false → (x && y) ≡ false
false_right x y e = rw e (and-false x)

pub or_false : (a b : Bool) → (a || b) ≡ false → (a ≡ false) × (b ≡ false)
or_false true b e = clash true refl e
or_false false b e = (refl, e)

pub true_or : (a b : Bool) → (a || b) ≡ true → (a ≡ true) ⊎ (b ≡ true)
true_or true b e = inl refl
true_or false b e = inr e

pub or_right : (a b : Bool) → b ≡ true → (a || b) ≡ true
or_right true b e = refl
or_right false b e = e

-- two and two, the other way round
pub interchange : (a b c d : Bool) → ((a && b) && (c && d)) ≡ ((a && c) && (b && d))
interchange true true c d = refl
interchange true false c d = sym (and-false c)
interchange false b c d = refl

-- the value of a choice whose test is known
pub picks : {A : Type 0} {b : Bool} (x y : A) → b ≡ true → cond b x y ≡ x
picks x y e = ap (λ (c : Bool). cond c x y) e

pub skips : {A : Type 0} {b : Bool} (x y : A) → b ≡ false → cond b x y ≡ y
skips x y e = ap (λ (c : Bool). cond c x y) e

-- one value where either test holds
pub either : {A : Type 0} (x y : Bool) (u v : A) → cond x u (cond y u v) ≡ cond (x || y) u v
either true y u v = refl
either false y u v = refl

-- a test of all numbers below m that asks one after the other holds of each
pub each_below : (all f : ℕ → Bool) → ((m : ℕ) → all (suc m) ≡ (all m && f m)) → (m : ℕ) → all m ≡ true → (i : ℕ) → i < m → f i ≡ true
each_below all f step zero ok i lt = absurd (not-suc-le-zero lt)
each_below all f step (suc m) ok i lt = go (dec_lt i m) (each_below all f step m (and_left (all m) (f m) (sym (step m) ∙ ok)) i)
  where
    go : Dec (i < m) → (i < m → f i ≡ true) → f i ≡ true
    go (yes l) r = r l
    go (no l) r = ap f (let e : i ≡ m = omega arith in e) ∙ and_right (all m) (f m) (sym (step m) ∙ ok)
