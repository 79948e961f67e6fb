-- The rows of a table from what was read of it, and a fresh table.
use mathlib.Core.Path.{◌≡◌}
use mathlib.Core.Logic.{◌≢◌}
use mathlib.Core.List.{List, [], ◌∷◌}
use mathlib.Core.Bool.{true, false}
use Prim.Native.Nat.{ℕ, ◌≤◌}
use lib.ListN.{length, replicate}
use borrow.Author.Tests.{le-ltb, eq-eqb, ne_eqb}
use Rattle.xdr.specs.Words.{word, put_words}
use Rattle.rules.specs.Table.{in_range, size, sections_ok, well_laid}
use Rattle.rules.specs.Calls.{outcome, first, table_rows, fresh_on}
use Rattle.tables.proofs.Ranges.{in_range_lem}
use Rattle.tables.proofs.Fresh.{fresh_layout}

-- ---- the rows of a table, from what was read of it

module _ (t : List ℕ) where
  module _ {n e : ℕ} (l : 8 ≤ length t) (a : n ≡ word t 0) (b : e ≡ word t 1) where
    pub row_laid : in_range n e ≡ true → length t ≡ size n e → sections_ok n e (word t) n ≡ false → 3 ≡ first (table_rows t)
    unfolding well_laid
    row_laid r z o = rw (le-ltb (length t) 8 l, ← a, ← b, r, eq-eqb (length t) (size n e) z, o)

    pub row_none : in_range n e ≡ true → length t ≡ size n e → sections_ok n e (word t) n ≡ true → 0 ≡ first (table_rows t)
    unfolding well_laid
    row_none r z o = rw (le-ltb (length t) 8 l, ← a, ← b, r, eq-eqb (length t) (size n e) z, o)

-- ---- a fresh table

module _ (t : List ℕ) (n e : ℕ) where
  pub fresh_range : in_range n e ≡ false → outcome 1 t [] ≡ fresh_on t n e
  unfolding fresh_on
  fresh_range r = rw r

  pub fresh_size : in_range n e ≡ true → length t ≢ size n e → outcome 2 t [] ≡ fresh_on t n e
  unfolding fresh_on
  fresh_size r z = rw (r, ne_eqb (length t) (size n e) z)

  pub fresh_done : in_range n e ≡ true → length t ≡ size n e → {u v : List ℕ} → u ≡ replicate (length t) 0 → v ≡ put_words u 0 (n ∷ e ∷ [])
      → outcome 0 v [] ≡ fresh_on t n e
  unfolding fresh_on put_words
  fresh_done r z c p = rw (r, eq-eqb (length t) (size n e) z, p, c, z, fresh_layout n e (in_range_lem n e r))
