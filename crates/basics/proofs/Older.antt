-- The older parts of a list whose newest element is first.
use mathlib.Core.Path.{◌≡◌, refl}
use mathlib.Core.List.{List, [], ◌∷◌}
use Prim.Native.Nat.{◌≤◌}
use native.Mathlib.Omega.{arith}
use native.Mathlib.Nat.{le_refl}
use lib.ListN.{length}

module _ {A : Type 0} where
  -- h is what a list was before its newest elements
  pub data Older (h : List A) : List A → Type 0 where
    same : Older h h
    newer : {e : A} {g : List A} → Older h g → Older h (e ∷ g)

  pub older_trans : {a b c : List A} → Older a b → Older b c → Older a c
  older_trans o same = o
  older_trans o (newer r) = newer (older_trans o r)

  pub older_length : {h g : List A} → Older h g → length h ≤ length g
  older_length {h} same = le_refl (length h)
  older_length (newer o) = let r = older_length o in omega arith

  pub none_older : (h : List A) → Older [] h
  none_older [] = same
  none_older (e ∷ h) = newer (none_older h)

  -- an older part that is as long is the whole
  pub older_whole : {g h : List A} → Older g h → length h ≤ length g → g ≡ h
  older_whole same le = refl
  older_whole (newer o) le = let l = older_length o in absurd (omega arith)

  -- what is shorter is older than the newest element too
  older_step : (e : A) (g : List A) {a b : List A} → Older a (e ∷ g) → length a ≤ length g → (Older a g → Older a b) → Older a b
  older_step e g same le f = absurd (omega arith)
  older_step e g (newer s) le f = f s

  -- of two older parts, the shorter is an older part of the longer
  pub older_of : {a b h : List A} → Older a h → Older b h → length a ≤ length b → Older a b
  older_of o same le = o
  older_of {a} {b} o (newer {e} {g} r) le = older_step e g o (let l = older_length r in omega arith) (λ s. older_of s r le)

  -- an older part is the whole, or there is an element right behind it
  pub data Ahead (g h : List A) : Type 0 where
    whole : g ≡ h → Ahead g h
    behind : (e : A) → Older (e ∷ g) h → Ahead g h

  pub ahead : {g h : List A} → Older g h → Ahead g h
  ahead same = whole refl
  ahead {g} (newer {e} {g = x} o) = go (ahead o)
    where
      go : Ahead g x → Ahead g (e ∷ x)
      go (whole y) = behind e (rw y same)
      go (behind d y) = behind d (newer y)
