-- What a call may take from the rows that it has passed, and an outcome from its parts.
use mathlib.Core.Path.{◌≡◌, sym, ap, ◌∙◌}
use mathlib.Core.List.{List, ◌++◌}
use Prim.Native.Nat.{ℕ, ◌+◌, ◌*◌, ◌≤◌, ◌<◌}
use native.Mathlib.Nat.{le_trans, mul-le-mul, mul-le-mul_right}
use native.Mathlib.Omega.{arith}
use lib.ListN.{length, get_or}
use borrow.Author.Tests.{ltb-false, not-false}
use Rattle.xdr.specs.Words.{word}
use Rattle.xdr.proofs.Words.{Bytes}
use Rattle.rules.specs.Records.{History, history, number, sends, carried}
use Rattle.rules.specs.Table.{heading, width, most_words, in_range, section_words, start, records_at, decoded}
use Rattle.rules.specs.Steps.{Call}
use Rattle.rules.specs.Calls.{area_length, first, table_rows, step_rows}
use Rattle.records.proofs.Rows.{none_met, split_zero}
use Rattle.records.proofs.Steps.{Accepted, accepted_met, area_met}
use Rattle.tables.specs.Sections.{SendsLaid}
use Rattle.tables.proofs.Laid.{legal_number, sends_length}
use Rattle.tables.proofs.Ranges.{product, in_range_lem}
use Rattle.tables.proofs.WellLaid.{sections_each, section_of_lem, decoded_at, decoded_words, decoded_short}
use Rattle.tables.proofs.OneCall.{Valid, valid, table_legal, legal_carried}

-- ---- a table that meets none of its own rows

pub long : (t : List ℕ) {r : ℕ} → r ≡ first (table_rows t) → r ≡ 0 → 8 ≤ length t
long t e z = ltb-false (length t) 8 (none_met (table_rows t) tt (sym e ∙ z)).0

pub sixteen : (t : List ℕ) {r : ℕ} → r ≡ first (table_rows t) → r ≡ 0 → word t 0 ≤ 16
sixteen t e z =
    (in_range_lem (word t 0) (word t 1) (not-false (in_range (word t 0) (word t 1)) (none_met (table_rows t) tt (sym e ∙ z)).1.0)).processes

-- of a process p below n, whose section starts at word `at`: the section lies in the table, and its words are those of p's history
pub record Head (t : List ℕ) (p E at : ℕ) : Type 0 where
  pub inside : 4 * (at + heading + width * E) ≤ length t
  pub near : at ≤ most_words
  pub most : E ≤ 1024
  pub count : word t at ≡ length (history (decoded t) p)
  pub current : word t (at + 1) ≡ number (history (decoded t) p)
  pub sent : word t (at + 2) ≡ sends (history (decoded t) p)
  pub events : records_at (word t) (at + heading) (word t at) ≡ history (decoded t) p
  pub told : SendsLaid (word t) (at + heading) (word t at)
  pub short : word t at ≤ E
  pub low : word t (at + 1) ≤ 16384
  pub few : word t (at + 2) ≤ 1024

pub head : (t : List ℕ) → Valid t → (p : ℕ) → p < word t 0 → {E at : ℕ} → E ≡ word t 1 → at ≡ start E p → Head t p E at
head t W p lt {E} {at} e s = rw (s, e) here
  where
    n : ℕ
    n = word t 0

    F : ℕ
    F = word t 1

    h : History
    h = history (decoded t) p

    a : (j : ℕ) → j < length (section_words F h) → word t (start F p + j) ≡ get_or (section_words F h) j 0
    a = decoded_words n F t W.is p lt

    count : word t (start F p) ≡ length h
    count = ap (word t) (let z : start F p ≡ start F p + 0 = omega arith in z) ∙ a 0 (omega arith)

    here : Head t p F (start F p)
    here =
        let m = mul-le-mul_right {m = p + 1} {n = n} (heading + width * F) (omega arith) in
        let l = W.is.whole in
        let r = W.range.records in
        let g = W.range.processes in
        let b = product n F g r in
        let d = mul-le-mul {n₁ = p} {m₁ = heading + width * F} {n₂ = 16} {m₂ = heading + width * 1024} (omega arith) (omega arith) in
        let k = sends_length h in
        let y = decoded_short n F t W.is p in
        let x = a 1 (omega arith) in
        let z = a 2 (omega arith) in
        let c = count in
        let low = le_trans (legal_number n F p h (table_legal n F t W.is p)) b in
        record {
          inside = omega arith;
          near = omega arith;
          most = r;
          count = c;
          current = x;
          sent = z;
          events = sym (decoded_at n F t W.is p lt);
          told = (section_of_lem n F (word t) p (sections_each n F (word t) n W.is.laid p lt)).told;
          short = omega arith;
          low = omega arith;
          few = omega arith;
        }

-- what a message carries
pub carried_low : (t : List ℕ) → Valid t → (q k : ℕ) → carried (history (decoded t) q) k ≤ 16384
carried_low t W q k =
    le_trans (legal_carried (word t 0) (word t 1) q (history (decoded t) q) k (table_legal (word t 0) (word t 1) t W.is q))
    (product (word t 0) (word t 1) W.range.processes W.range.records)

-- ---- a step that meets no row

pub record Passed (t : List ℕ) (p : ℕ) (call : Call) (len : ℕ) : Type 0 where
  pub table : Valid t
  pub accepted : Accepted (word t 0) (word t 1) (decoded t) p call
  pub area : len ≡ area_length call

pub passed : (t : List ℕ) → Bytes t → (p : ℕ) (call : Call) (len : ℕ)
    → first (table_rows t ++ step_rows (word t 0) (word t 1) (decoded t) p call len) ≡ 0 → Passed t p call len
passed t b p call len e =
    let n = word t 0 in
    let E = word t 1 in
    let s = decoded t in
    let z = split_zero (table_rows t) (step_rows n E s p call len) tt e in
    record {
      table = valid t b z.0;
      accepted = accepted_met n E s p call len z.1;
      area = area_met n E s p call len z.1;
    }
