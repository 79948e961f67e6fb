-- Sums over numbers and over pairs of numbers.
use Rattle.std.specs.Prelude.{ℕ, zero, suc, ◌+◌}

-- f 0 + f 1 + … + f (n - 1)
abbrev pub sum_below : (ℕ → ℕ) → ℕ → ℕ
sum_below f zero = 0
sum_below f (suc n) = sum_below f n + f n

-- f q k over all q below n and, for each, all k from 1 to m q
abbrev pub sum_pairs : (ℕ → ℕ → ℕ) → (ℕ → ℕ) → ℕ → ℕ
sum_pairs f m n = sum_below (λ q. sum_below (λ k. f q (suc k)) (m q)) n
