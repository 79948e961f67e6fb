-- A receipt, with or without a checkpoint before it, is stored behind a section's records.
use mathlib.Core.Path.{◌≡◌, ap}
use mathlib.Core.Bool.{true, false, cond}
use mathlib.Core.List.{List, [], ◌∷◌}
use Prim.Native.Nat.{ℕ, suc, ◌+◌, ◌*◌}
use native.Mathlib.Omega.{arith}
use lib.Dec.{ltb}
use Rattle.xdr.specs.Words.{put_words}
use Rattle.rules.specs.Table.{heading, width}

behind : (t : List ℕ) (i a b c d : ℕ) (ws : List ℕ) → put_words t i (a ∷ b ∷ c ∷ d ∷ ws) ≡ put_words (put_words t i (a ∷ b ∷ c ∷ d ∷ [])) (i + width) ws
unfolding put_words
behind t i a b c d ws =
    let j : suc (suc (suc (suc i))) ≡ i + width = omega arith in
    ap (λ x. put_words (put_words t i (a ∷ b ∷ c ∷ d ∷ [])) x ws) j

module _ (t : List ℕ) (q k at c x s m : ℕ) where
  abbrev one : List ℕ
  one = put_words (put_words t at ((c + 1) ∷ x ∷ s ∷ [])) (at + heading + width * c) (4 ∷ q ∷ k ∷ m ∷ [])

  abbrev two : List ℕ
  two = put_words (put_words t at ((c + 2) ∷ m ∷ s ∷ [])) (at + heading + width * c) (2 ∷ m ∷ 0 ∷ 0 ∷ 4 ∷ q ∷ k ∷ m ∷ [])

  pub forced_behind : ltb x m ≡ true → (f : ℕ) {n e i : ℕ} {v w y z g r : List ℕ} → c + 1 + f ≡ c + 2 → n ≡ m → g ≡ 2 ∷ m ∷ 0 ∷ 0 ∷ [] → r ≡ 4 ∷ q ∷ k ∷ m ∷ [] → v ≡ put_words t at ((c + 1 + f) ∷ n ∷ s ∷ [])
      → e ≡ at + heading + width * c → w ≡ put_words v e g → y ≡ w → i ≡ e + width → z ≡ put_words y i r
      → z ≡ cond (ltb x m) two one
  forced_behind l _ f n g r v e w y i z =
      rw (l, z, y, i, w, e, v, f, n, g, r, behind (put_words t at ((c + 2) ∷ m ∷ s ∷ [])) (at + heading + width * c) 2 m 0 0 (4 ∷ q ∷ k ∷ m ∷ []))

  pub not_forced : ltb x m ≡ false → (f : ℕ) {n e i : ℕ} {v y z r : List ℕ} → c + 1 + f ≡ c + 1 → n ≡ x → r ≡ 4 ∷ q ∷ k ∷ m ∷ [] → v ≡ put_words t at ((c + 1 + f) ∷ n ∷ s ∷ [])
      → e ≡ at + heading + width * c → y ≡ v → i ≡ e → z ≡ put_words y i r
      → z ≡ cond (ltb x m) two one
  not_forced l _ f n r v e y i z = rw (l, z, y, i, v, e, f, n, r)
