-- Demand 2, failure lines: what document 01 gives is answered, and it is the latest permitted cut without orphans.
use mathlib.Core.Path.{◌≡◌, ap, ◌∙◌}
use mathlib.Core.Bool.{cond}
use mathlib.Core.List.{List, [], ◌∷◌, ◌++◌}
use Prim.Native.Nat.{ℕ, zero, suc, ◌+◌, ◌*◌, ◌^◌}
use native.Mathlib.Omega.{arith}
use lib.ListN.{length, length-append}
use lib.Count.{ones, ones-le}
use borrow.Author.Tests.{eq-eqb, lt-leb}
use Rattle.xdr.specs.Words.{word}
use Rattle.rules.specs.Table.{decoded}
use Rattle.rules.specs.Records.{State}
use Rattle.rules.specs.Lines.{goes_back_at, back_mask, mask_below}
use Rattle.rules.specs.FailureLine.{failure_line}
use Rattle.rules.specs.Calls.{outcome, first, table_rows, failure_rows, failure_answer, failed_on}
use Rattle.theorems.specs.Latest.{how_many, Latest}
use Rattle.xdr.proofs.Puts.{whole_put}
use Rattle.records.proofs.Rows.{none_met, first_append}
use Rattle.records.proofs.FailureLines.{failure_line_lem, failure_unique}
use Rattle.records.proofs.Masks.{mask_lt, mask_bits, mask_ones}
use Rattle.tables.proofs.WellLaid.{decoded_count}

module _ (mask : ℕ) (s : State) (cut : List ℕ) where
  ones_many : (n : ℕ) → ones (mask_below (goes_back_at mask s cut) n) ≡ how_many mask s cut n
  ones_many zero = let l = ones-le 0 0 (omega arith) in omega arith
  ones_many (suc n) = mask_ones (goes_back_at mask s cut) n ∙ ap (λ (x : ℕ). x + cond (goes_back_at mask s cut n) 1 0) (ones_many n)

pub latest : Latest
unfolding failed_on failure_answer
latest t a mask laid area within =
    let s = decoded t in
    let n = word t 0 in
    let cut = failure_line mask s in
    let m = decoded_count t in
    let wide : length a ≡ 4 * length (cut ++ (back_mask mask s cut ∷ ones (back_mask mask s cut) ∷ [])) =
    (let x = (failure_line_lem mask s).permit.size in let y = length-append cut (back_mask mask s cut ∷ ones (back_mask mask s cut) ∷ []) in omega arith)
    in
    let rows : first (table_rows t ++ failure_rows n mask (length a)) ≡ 0 =
    first_append (table_rows t) (failure_rows n mask (length a)) (none_met (table_rows t) tt laid)
    ∙ (rw (eq-eqb (length a) (4 * n + 8) area, lt-leb (2 ^ n) mask within))
    in
    record {
      cut = cut;
      back = back_mask mask s cut;
      left = rw rows (ap (outcome 0 t) (whole_put a (cut ++ (back_mask mask s cut ∷ ones (back_mask mask s cut) ∷ [])) wide));
      line = failure_line_lem mask s;
      only = λ other l. failure_unique mask s other cut l (failure_line_lem mask s);
      bits = λ p lt. rw m (mask_bits (goes_back_at mask s cut) n p lt);
      within = rw m (mask_lt (goes_back_at mask s cut) n);
      count = rw m (ones_many mask s cut n);
    }
