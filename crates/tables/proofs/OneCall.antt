-- What one accepted call stores into any table, made or not, is the table that the rules say.
use mathlib.Core.Path.{◌≡◌, refl, sym}
use mathlib.Core.Bool.{Bool, true, false, cond}
use mathlib.Core.List.{List, [], ◌∷◌}
use Prim.Native.Nat.{ℕ, suc, ◌+◌, ◌*◌, ◌≤◌, ◌<◌, zero-le}
use native.Mathlib.Nat.{le_trans}
use native.Mathlib.Omega.{arith}
use native.Mathlib.Decide.{dec_lt}
use lib.Dec.{eqb}
use lib.ListN.{length, length-append}
use borrow.Author.Tests.{eqb-true, not-false}
use Rattle.rules.specs.Records.{basic, forced, sent, received, History, State, history, number, sends, carried, has_send}
use Rattle.rules.specs.Steps.{Call, checkpoint, send, receipt, forces, carries, added, stepped}
use Rattle.rules.specs.Calls.{table_rows, needed}
use Rattle.xdr.specs.Words.{word}
use Rattle.rules.specs.Table.{layout, sections_ok, decoded, size, in_range, well_laid}
use Rattle.records.proofs.Histories.{holds_held}
use Rattle.records.proofs.Rows.{NoneMet}
use Rattle.records.proofs.Steps.{Message, Accepted, grown_length}
use Rattle.tables.proofs.Laid.{Legal, legal_number, sends_length}
use Rattle.tables.proofs.Ranges.{InRange, product, in_range_lem}
use Rattle.tables.proofs.WellLaid.{IsTable, sections_each, section_of_lem, added_words, decoded_is, decoded_at, decoded_short, from_beyond}
use Rattle.tables.proofs.Stores.{head_words, stored, stored_layout}
use Rattle.xdr.proofs.Words.{Bytes, Small}

-- ---- a well laid table's records are within their ranges

pub table_legal : (n E : ℕ) (t : List ℕ) → IsTable n E t → (p : ℕ) → Legal n E p (history (decoded t) p)
table_legal n E t T p = go (dec_lt p n)
  where
    go : Dec (p < n) → Legal n E p (history (decoded t) p)
    go (yes lt) = rw (decoded_at n E t T p lt) (section_of_lem n E (word t) p (sections_each n E (word t) n T.laid p lt)).legal
    go (no l) = rw (decoded_is n E t T, from_beyond (word t) E 0 n p (omega arith)) tt

pub legal_carried : (n E p : ℕ) (h : History) (k : ℕ) → Legal n E p h → carried h k ≤ n * E
legal_carried n E p [] k L = zero-le
legal_carried n E p (basic m ∷ h) k L = legal_carried n E p h k L.1
legal_carried n E p (forced m ∷ h) k L = legal_carried n E p h k L.1
legal_carried n E p (received q j c ∷ h) k L = legal_carried n E p h k L.1
legal_carried n E p (sent q ∷ h) k L = go (eqb k (suc (sends h))) (legal_carried n E p h k L.1)
  where
    go : (b : Bool) → carried h k ≤ n * E → cond b (number h) (carried h k) ≤ n * E
    go true r = legal_number n E p h L.1
    go false r = r

-- ---- what an accepted call stores fits

module _ (n E : ℕ) (d : InRange n E) (s : State) (short : (q : ℕ) → length (history s q) ≤ E) (L : (q : ℕ) → Legal n E q (history s q)) where
  most : n * E ≤ 16384
  most = product n E d.processes d.records

  small_call : (p : ℕ) (call : Call) → Accepted n E s p call
      → Small (head_words (added (history s p) call (carries s call)) (history s p)) × Small (added_words (added (history s p) call (carries s call)) (history s p))
  small_call p call A = go call A.free A.message (le_trans (legal_number n E p h (L p)) most) (sends_length h) d.processes d.records
    where
      h : History
      h = history s p

      sent_few : (q k : ℕ) → has_send (history s q) p k ≡ true → k ≤ E
      sent_few q k e = le_trans (holds_held (history s q) p k e).counted (le_trans (sends_length (history s q)) (short q))

      received_small : (q k : ℕ) (b : Bool) → length h + cond b 2 1 ≤ E → q < n → k ≤ E → carried (history s q) k ≤ 16384
          → number h ≤ 16384 → sends h ≤ length h → n ≤ 16 → E ≤ 1024
          → Small (head_words (received q k (carried (history s q) k) ∷ cond b (forced (carried (history s q) k) ∷ []) []) h)
          × Small (added_words (received q k (carried (history s q) k) ∷ cond b (forced (carried (history s q) k) ∷ []) []) h)
      received_small q k true f m y c a z x g = (omega arith, omega arith)
      received_small q k false f m y c a z x g = (omega arith, omega arith)

      go : (call : Call) → length h + needed h call (carries s call) ≤ E → Message n s p call → number h ≤ 16384 → sends h ≤ length h → n ≤ 16 → E ≤ 1024
          → Small (head_words (added h call (carries s call)) h) × Small (added_words (added h call (carries s call)) h)
      go checkpoint f m a z x g = (omega arith, omega arith)
      go (send q) f m a z x g = let y = m.0 in (omega arith, omega arith)
      go (receipt q k) f m a z x g =
          received_small q k (forces h (carried (history s q) k)) f m.0 (sent_few q k m.2)
          (le_trans (legal_carried n E q (history s q) k (L q)) most) a z x g

-- ---- the call

-- a lent table that meets none of its own rows
pub record Valid (t : List ℕ) : Type 0 where
  pub range : InRange (word t 0) (word t 1)
  pub is : IsTable (word t 0) (word t 1) t

pub valid : (t : List ℕ) → Bytes t → NoneMet (table_rows t) → Valid t
unfolding well_laid
valid t b z =
    let n = word t 0 in
    let E = word t 1 in
    record {
      range = in_range_lem n E (not-false (in_range n E) z.1.0);
      is = record {
        bytes = b;
        whole = eqb-true (length t) (size n E) (not-false (eqb (length t) (size n E)) z.1.1.0);
        first = refl;
        second = refl;
        laid = not-false (sections_ok n E (word t) n) z.1.1.1.0;
      };
    }

-- Where a call is accepted, on any bytes, the table that the rules say is the one with the call's records stored into it.
pub step_stores : (t : List ℕ) → Valid t → (p : ℕ) (call : Call) → Accepted (word t 0) (word t 1) (decoded t) p call
    → layout (word t 0) (word t 1) (stepped (decoded t) p call)
    ≡ stored (word t 1) t p (history (decoded t) p) (added (history (decoded t) p) call (carries (decoded t) call))
step_stores t W p call A =
    let n = word t 0 in
    let E = word t 1 in
    let s = decoded t in
    let small = small_call n E W.range s (decoded_short n E t W.is) (table_legal n E t W.is) p call A in
    let h = history s p in
    let es = added h call (carries s call) in
    let room : length es + length h ≤ E =
    (let l = length-append es h in let g = grown_length h call (carries s call) in let f = A.free in omega arith)
    in
    sym (stored_layout n E t W.is p es A.within room small.0 small.1)
