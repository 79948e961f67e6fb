-- Slip 1: what is listed to be sent again, the theorem stated in specs/SentAgain.antt.
use mathlib.Core.Path.{◌≡◌, refl, sym, ap, ◌∙◌}
use mathlib.Core.Logic.{◌⊎◌, inl, inr}
use mathlib.Core.Bool.{Bool, true, false, cond}
use mathlib.Core.List.Memᴰ
use mathlib.Core.List.{List, [], ◌∷◌, ◌++◌, Memᴰ}
use Prim.Native.Nat.{ℕ, zero, suc, ◌+◌, ◌*◌}
use native.Mathlib.Omega.{arith}
use lib.Dec.{ltb, eqb}
use lib.ListN.{length, drop}
use borrow.Author.Tests.{eqb-true, eq-eqb, lt-ltb, le-ltb}
use Rattle.xdr.specs.Words.{word, words, bytes}
use Rattle.xdr.proofs.Puts.{all_put}
use Rattle.rules.specs.Records.{State, sends, destination}
use Rattle.rules.specs.Table.{decoded}
use Rattle.rules.specs.Lines.{part}
use Rattle.rules.specs.Calls.{Row, outcome_with, row, first, table_rows}
use Rattle.rules.specs.Resend.{Message, message, got, unless_got, transit_of, transit_below, in_transit, messages_words, above, resend_rows, resend_on}
use Rattle.theorems.specs.SentAgain.{IsCut, Earlier, Ordered, entries, Listed, SentAgain}
use Rattle.basics.proofs.Booleans.{Test, passes, fails, test}
use Rattle.records.proofs.Rows.{none_met, first_append}
use Rattle.records.proofs.Transit.{of_mem, below_mem, unless_mem, transit_exactly, sum_transit, length_sum, none_above, above_none}
use Rattle.tables.proofs.WellLaid.{decoded_count}

-- ---- the order

ordered_append : (xs ys : List Message) → Ordered xs → Ordered ys
    → ((x y : Message) → Memᴰ x xs → Memᴰ y ys → Earlier x y) → Ordered (xs ++ ys)
ordered_append [] ys a b c = b
ordered_append (x ∷ xs) ys a b c = (
  λ other m. go other (Memᴰ.append_cases xs m),
  ordered_append xs ys a.1 b (λ y z my mz. c y z (Memᴰ.tail my) mz),
)
  where
    go : (other : Message) → Memᴰ other xs ⊎ Memᴰ other ys → Earlier x other
    go other (inl m) = a.0 other m
    go other (inr m) = c x other (Memᴰ.head refl) m

module _ (s : State) (cut : List ℕ) where
  unless_ordered : (q k : ℕ) → Ordered (unless_got s cut q k)
  unless_ordered q k = go (got s cut q k)
    where
      go : (b : Bool) → Ordered (cond b [] (message q k (destination (part s cut q) k) ∷ []))
      go true = tt
      go false = (λ other m. absurd (Memᴰ.not-nil m), tt)

  of_ordered : (q j : ℕ) → Ordered (transit_of s cut q j)
  of_ordered q zero = tt
  of_ordered q (suc j) = ordered_append (transit_of s cut q j) (unless_got s cut q (suc j)) (of_ordered q j) (unless_ordered q (suc j)) go
    where
      go : (x y : Message) → Memᴰ x (transit_of s cut q j) → Memᴰ y (unless_got s cut q (suc j)) → Earlier x y
      go (message r k p) (message r' k' p') a b =
          let l = of_mem s cut q j r k p a in
          let m = unless_mem s cut q (suc j) r' k' p' b in
          let x = l.1 in
          let y = m.1 in
          inr (l.0 ∙ sym m.0, omega arith)

  below_ordered : (q : ℕ) → Ordered (transit_below s cut q)
  below_ordered zero = tt
  below_ordered (suc q) =
      ordered_append (transit_below s cut q) (transit_of s cut q (sends (part s cut q))) (below_ordered q) (of_ordered q (sends (part s cut q))) go
    where
      go : (x y : Message) → Memᴰ x (transit_below s cut q) → Memᴰ y (transit_of s cut q (sends (part s cut q))) → Earlier x y
      go (message r k p) (message r' k' p') a b =
          let l = below_mem s cut q r k p a in
          let m = of_mem s cut q (sends (part s cut q)) r' k' p' b in
          let x = l.0 in
          let y = m.0 in
          inl (omega arith)

  transit_ordered : Ordered (in_transit s cut)
  unfolding in_transit
  transit_ordered = below_ordered (length s)

-- ---- the rows

module _ (t positions : List ℕ) (laid : first (table_rows t) ≡ 0) (len : ℕ) where
  abbrev rows : List Row
  rows = resend_rows (word t 0) (decoded t) positions len

  beyond : first (table_rows t ++ rows) ≡ first rows
  beyond = first_append (table_rows t) rows (none_met (table_rows t) tt laid)

  -- of a cut row 13 alone is left to decide
  cut_rows : IsCut t positions → first (table_rows t ++ rows) ≡ cond (ltb len (4 + 12 * length (in_transit (decoded t) (words positions)))) 13 0
  cut_rows C =
      beyond
      ∙ rw (eq-eqb (length positions) (4 * word t 0) C.size, none_above (decoded t) (words positions) (word t 0) C.within) (
      go (ltb len (4 + 12 * length (in_transit (decoded t) (words positions)))))
    where
      go : (b : Bool) → first (row 13 b ∷ []) ≡ cond b 13 0
      go true = refl
      go false = refl

  -- positions that don't meet row 12 are a cut
  other_rows : (IsCut t positions → ⊥) → first (table_rows t ++ rows) ≡ 12
  other_rows none = beyond ∙ go (test (eqb (length positions) (4 * word t 0))) (test (above (decoded t) (words positions) (word t 0)))
    where
      go : Test (eqb (length positions) (4 * word t 0)) → Test (above (decoded t) (words positions) (word t 0)) → first rows ≡ 12
      go (fails e) u = rw e
      go (passes e) (passes u) = rw (e, u)
      go (passes e) (fails u) =
          absurd (none (record { size = eqb-true (length positions) (4 * word t 0) e; within = above_none (decoded t) (words positions) (word t 0) u }))

-- ---- the theorem

entries_words : (ms : List Message) → messages_words ms ≡ entries ms
entries_words [] = refl
entries_words (message q k p ∷ ms) = ap (λ (ws : List ℕ). q ∷ k ∷ p ∷ ws) (entries_words ms)

entries_length : (ms : List Message) → 4 * length (length ms ∷ entries ms) ≡ 4 + 12 * length ms
entries_length [] = refl
entries_length (message q k p ∷ ms) = let r = entries_length ms in omega arith

pub at_cut : (t positions : List ℕ) → first (table_rows t) ≡ 0 → IsCut t positions → Listed t positions (decoded t) (word t 0) (words positions)
unfolding resend_on
at_cut t positions laid C =
    let s = decoded t in
    let cut = words positions in
    let list = in_transit s cut in
    let ws = length list ∷ entries list in
    let wide = entries_length list in
    record {
      list = list;
      left = λ a le. rw (cut_rows t positions laid (length a) C, le-ltb (length a) (4 + 12 * length list) le, entries_words list) (
          ap (λ (b : List ℕ). outcome_with 0 t b positions) (all_put a ws (omega arith) ∙ ap (λ (k : ℕ). bytes ws ++ drop k a) wide));
      short = λ a lt. rw (cut_rows t positions laid (length a) C, lt-ltb (length a) (4 + 12 * length list) lt);
      exactly = transit_exactly s cut;
      ordered = transit_ordered s cut;
      count = length_sum list ∙ rw (← decoded_count t) (sum_transit s cut (λ (m : Message). 1));
    }

-- its list is that of the rules
pub list_is : (t positions : List ℕ) (laid : first (table_rows t) ≡ 0) (C : IsCut t positions)
    → (at_cut t positions laid C).list ≡ in_transit (decoded t) (words positions)
unfolding in_transit at_cut
list_is t positions laid C = refl

no_cut : (t positions : List ℕ) → first (table_rows t) ≡ 0 → (IsCut t positions → ⊥) → (a : List ℕ) → resend_on t positions a ≡ outcome_with 12 t a positions
unfolding resend_on
no_cut t positions laid none a = rw (other_rows t positions laid (length a) none)

pub sent_again : SentAgain
sent_again t positions laid = record { cut = at_cut t positions laid; other = no_cut t positions laid }
