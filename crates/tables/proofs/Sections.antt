-- The two parts of the sections' test put together.
use mathlib.Core.Path.{◌≡◌, refl, sym, ap, ◌∙◌}
use mathlib.Core.Bool.{Bool, true, false, ◌&&◌, and-eq-true_iff, false≢true, and_comm}
use Prim.Native.Nat.{ℕ, zero, suc, ◌+◌, ◌-◌, ◌*◌, ◌≤◌, ◌<◌}
use native.Mathlib.Nat.{mul-le-mul_right}
use native.Mathlib.Omega.{arith}
use lib.Dec.{eqb, leb}
use borrow.Author.Tests.{leb-true}
use Rattle.rules.specs.Records.{number, sends}
use Rattle.rules.specs.Table.{heading, width, start, zeros_at, sections_ok, section_ok, records_ok, records_at}
use Rattle.tables.specs.Sections.{every, rear_ok, front_ok}
use Rattle.basics.proofs.Booleans.{Test, passes, fails, test, interchange, each_below}

pub start_most : (e p n : ℕ) → p < n → start e (p + 1) ≤ start e n
start_most e p n l = let m = mul-le-mul_right {m = p + 1} {n = n} (heading + width * e) (omega arith) in omega arith

module _ (f : ℕ → Bool) where
  pub every_at : (m p : ℕ) → p < m → every f m ≡ true → f p ≡ true
  every_at m p lt e = each_below (every f) f (λ k. refl) m e p lt

  pub every_not : (m p : ℕ) → p < m → false ≡ f p → false ≡ every f m
  every_not m p lt g = go (test (every f m))
    where
      go : Test (every f m) → false ≡ every f m
      go (fails h) = sym h
      go (passes h) = absurd (false≢true (g ∙ every_at m p lt h))

pub rears_count : (e : ℕ) (w : ℕ → ℕ) (n p : ℕ) → p < n → every (λ q. rear_ok e w (start e q)) n ≡ true → w (start e p) ≤ e
rears_count e w n p lt h =
    let at = start e p in
    let ok = every_at (λ q. rear_ok e w (start e q)) n p lt h in
    leb-true (w at) e ((and-eq-true_iff (leb (w at) e) (zeros_at w (at + heading + width * w at) (width * (e - w at)))).0 ok).0

sections_parts : (n e : ℕ) (w : ℕ → ℕ) (m : ℕ)
    → sections_ok n e w m ≡ (every (λ p. rear_ok e w (start e p)) m && every (λ p. front_ok n e w p (start e p)) m)
sections_parts n e w zero = refl
sections_parts n e w (suc m) =
    let at = start e m in
    let rears = every (λ p. rear_ok e w (start e p)) m in
    let fronts = every (λ p. front_ok n e w p (start e p)) m in
    ap (λ (b : Bool). b && section_ok n e w m) (sections_parts n e w m)
    ∙ ap (λ (b : Bool). (rears && fronts) && b)
    (parts (leb (w at) e) (records_ok n e w m (at + heading) (w at)) (eqb (w (at + 1)) (number (records_at w (at + heading) (w at))))
    (eqb (w (at + 2)) (sends (records_at w (at + heading) (w at)))) (zeros_at w (at + heading + width * w at) (width * (e - w at))))
    ∙ interchange rears fronts (rear_ok e w at) (front_ok n e w m at)
  where
    parts : (l r x y z : Bool) → (l && r && x && y && z) ≡ ((l && z) && (r && x && y))
    parts false r x y z = refl
    parts true r x y z = and_comm (r && x && y) z

module _ (n e : ℕ) (w : ℕ → ℕ) where
  pub sections_rears : every (λ p. rear_ok e w (start e p)) n ≡ false → false ≡ sections_ok n e w n
  sections_rears h = sym (sections_parts n e w n ∙ rw h)

  pub sections_fronts : every (λ p. rear_ok e w (start e p)) n ≡ true → {x : Bool} → x ≡ every (λ p. front_ok n e w p (start e p)) n
      → x ≡ sections_ok n e w n
  sections_fronts h g = g ∙ sym (sections_parts n e w n ∙ rw h)
