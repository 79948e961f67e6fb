-- Where a cut's positions stand in the table.
use mathlib.Core.Path.{◌≡◌, sym, ap, ◌∙◌}
use mathlib.Core.Bool.{true, false}
use mathlib.Core.List.{List}
use Prim.Native.Nat.{ℕ, ◌+◌, ◌*◌, ◌<◌, ◌≤◌}
use native.Mathlib.Numerals.{add-one}
use native.Mathlib.Omega.{arith}
use lib.ListN.{length, get_or}
use lib.Seq.{take_all}
use borrow.Author.Tests.{le-ltb}
use Rattle.xdr.specs.Words.{word, words}
use Rattle.xdr.proofs.Words.{words_get}
use Rattle.rules.specs.Records.{State, history, sends}
use Rattle.rules.specs.Lines.{part}
use Rattle.rules.specs.Resend.{above}
use Rattle.basics.proofs.Booleans.{Test, passes, fails, test}
use Rattle.records.proofs.Histories.{each_older}
use Rattle.records.proofs.Cuts.{upto_is_older}
use Rattle.records.proofs.Transit.{above_none}
use Rattle.tables.proofs.Laid.{Legal, Law, sends_length}
use Rattle.tables.proofs.WellLaid.{decoded_short}
use Rattle.layout.specs.declared.Table.{Table}
use Rattle.layout.specs.Tables.{state_of}
use Rattle.layout.proofs.Sections.{lawful, is_valid}
use Rattle.notes.specs.declared.cut.Cut.{Cut}
use Rattle.notes.specs.Noted.{state_at, places}

-- the positions as words
pub cut_at : (n : ℕ) (positions : List ℕ) → length positions ≡ 4 * n → (p : ℕ) → p < n → get_or (words positions) p 0 ≡ word positions p
cut_at n positions whole p lt =
    ap (λ (s : List ℕ). get_or (words s) p 0) (sym (take_all (4 * n) positions (omega arith))) ∙ words_get n positions p (omega arith) lt

-- positions above their counts, where one more is looked at
module _ (s : State) (n : ℕ) (positions : List ℕ) (whole : length positions ≡ 4 * n) (p : ℕ) (lt : p < n)
    {c x : ℕ} (k : c ≡ length (history s p)) (y : x ≡ word positions p) where
  here : get_or (words positions) p 0 ≡ x
  here = cut_at n positions whole p lt ∙ sym y

  pub above_next : x ≤ c → above s (words positions) p ≡ false → above s (words positions) (p + 1) ≡ false
  above_next le f = rw (add-one p, f, here, ← k, le-ltb c x le)

  pub above_found : c < x → above s (words positions) n ≡ true
  above_found less = go (test (above s (words positions) n))
    where
      go : Test (above s (words positions) n) → above s (words positions) n ≡ true
      go (passes e) = e
      go (fails e) = let w = above_none s (words positions) n e p lt in let h = here in absurd (omega arith)

-- none is
pub all_within : (s : State) (n : ℕ) (positions : List ℕ) → length positions ≡ 4 * n → above s (words positions) n ≡ false
    → (p : ℕ) → p < n → word positions p ≤ length (history s p)
all_within s n positions whole none p lt =
    let w = above_none s (words positions) n none p lt in
    let z = cut_at n positions whole p lt in
    omega arith

-- no process has more records, or sends, than there is room for; a part of its records is lawful as they are
module _ (t : Table) where
  pub short : (q : ℕ) → length (history (state_of t) q) ≤ t.e
  short q =
      let e = t.laid.2 in
      let l = decoded_short (word t.bytes.now 0) (word t.bytes.now 1) t.bytes.now (is_valid t).is q in
      omega arith

  pub sends_short : (q : ℕ) → sends (history (state_of t) q) ≤ t.e
  sends_short q =
      let s = short q in
      let l = sends_length (history (state_of t) q) in
      omega arith

  pub legal_part : (cut : List ℕ) (p : ℕ) → Legal t.n t.e p (part (state_of t) cut p)
  legal_part cut p = each_older (Law t.n t.e p) (upto_is_older (get_or cut p 0) (history (state_of t) p)) (lawful t p)

module _ (c : Cut) where
  pub part_legal : (p : ℕ) → Legal c.table.n c.table.e p (part (state_at c) (places c) p)
  part_legal = legal_part c.table (places c)

  pub position_small : (p : ℕ) → p < c.table.n → word c.positions.now p ≤ c.table.e
  position_small p lt = let w = c.within p lt in let s = short c.table p in omega arith
