-- Slip 1: each pulse is billed once, the theorem stated in specs/BilledOnce.antt.
use mathlib.Core.Path.{◌≡◌, refl, sym, ap, ap₂, ◌∙◌, subst}
use mathlib.Core.Logic.{◌≢◌, ◌⊎◌, inl, inr}
use mathlib.Core.Bool.{Bool, true, false, cond, ◌&&◌}
use mathlib.Core.List.{List, [], ◌∷◌, map, Memᴰ}
use Prim.Native.Nat.{ℕ, ◌+◌, ◌*◌, ◌^◌, ◌≤◌, ◌<◌}
use native.Mathlib.Nat.{zero-add}
use native.Mathlib.Omega.{arith}
use native.Mathlib.Decide.{dec_lt}
use lib.Dec.{leb, ltb, eqb}
use lib.ListN.{length, get_or, take, length-map}
use lib.Seq.{take_at}
use lib.Count.{ones}
use borrow.Author.Tests.{eqb-true, ltb-true, leb-true, eq-eqb, ne_eqb, not-false, lt-ltb, le-leb}
use Rattle.xdr.specs.Words.{word, words, bytes}
use Rattle.xdr.proofs.Words.{bytes_length, bytes_append, words_bytes, all_small}
use Rattle.basics.specs.Sums.{sum_below, sum_pairs}
use Rattle.basics.proofs.Booleans.{Test, passes, fails, test, clash, false_left, false_right, and_left, and_right, picks, skips}
use Rattle.basics.proofs.Sums.{sum_same, sum_none, sum_one, pairs_same, pairs_add, pairs_none, pairs_one, pairs_swap}
use Rattle.rules.specs.Records.{basic, forced, sent, received, History, State, history, sends, destination, has_send, has_receipt}
use Rattle.rules.specs.Table.{layout, decoded}
use Rattle.rules.specs.Lines.{part, NoOrphan, failed, numbered_line}
use Rattle.rules.specs.FailureLine.{sum}
use Rattle.rules.specs.Calls.{Outcome, first, table_rows, line_on, failed_on}
use Rattle.rules.specs.Resend.{got, in_transit}
use Rattle.theorems.specs.Latest.{Answered}
use Rattle.theorems.specs.SentAgain.{IsCut}
use Rattle.theorems.specs.BilledOnce.{amount_received, amount_listed, all_sent, all_received, all_listed, only, BilledAt, BilledOnce}
use Rattle.records.proofs.Histories.{Held, holds_held, Each, each_older}
use Rattle.records.proofs.Made.{New, Sound}
use Rattle.records.proofs.Cuts.{upto_is_older, permitted_le}
use Rattle.records.proofs.NumberedLines.{line_clean}
use Rattle.records.proofs.Rows.{first_none}
use Rattle.records.proofs.Transit.{part_beyond, sends_within, receipt_there, sum_transit}
use Rattle.tables.proofs.WellLaid.{decoded_count}
use Rattle.runs.proofs.Ways.{sound}
use Rattle.theorems.proofs.SentAgain.{at_cut, list_is}
use Rattle.theorems.proofs.Demand2.{latest}
use Rattle.theorems.proofs.Demand3.{unmet_rows, line_within, line_answered, Holds, made_holds}

-- ---- the receipts of a history, as a sum over messages

-- what counts for message (r, j) alone
one_other : (r j q k x : ℕ) → (q ≢ r) ⊎ (k ≢ j) → cond (eqb r q && eqb j k) x 0 ≡ 0
one_other r j q k x (inl ne) = skips x 0 (false_left (eqb r q) (eqb j k) (ne_eqb r q (λ e. ne (sym e))))
one_other r j q k x (inr ne) = skips x 0 (false_right (eqb r q) (eqb j k) (ne_eqb j k (λ e. ne (sym e))))

one_itself : (r j x : ℕ) → cond (eqb r r && eqb j j) x 0 ≡ x
one_itself r j x = rw (eq-eqb r r refl, eq-eqb j j refl)

same_pair : (r j q k : ℕ) → (eqb r q && eqb j k) ≡ true → (r ≡ q) × (j ≡ k)
same_pair r j q k e = (eqb-true r q (and_left (eqb r q) (eqb j k) e), eqb-true j k (and_right (eqb r q) (eqb j k) e))

module _ (v : ℕ → ℕ → ℕ) where
  abbrev only_of : ℕ → ℕ → ℕ → ℕ → ℕ
  only_of r j q k = cond (eqb r q && eqb j k) (v q k) 0

  -- the amount of (q, k) where the history has a receipt of it
  abbrev received_of : History → ℕ → ℕ → ℕ
  received_of h q k = cond (has_receipt h q k) (v q k) 0

  -- a history without a receipt twice, all of them of messages that the sum is over
  received_sum : (m : ℕ → ℕ) (n : ℕ) (h : History) → Each New h → ((q k c : ℕ) → Memᴰ (received q k c) h → (q < n) × (0 < k) × (k ≤ m q))
      → sum (map (amount_received v) h) ≡ sum_pairs (received_of h) m n
  received_sum m n [] N inside = sym (pairs_none m n (λ q k. 0) (λ q k a b c. refl))
  received_sum m n (basic x ∷ h) N inside = zero-add _ ∙ received_sum m n h N.1 (λ q k c e. inside q k c (Memᴰ.tail e))
  received_sum m n (forced x ∷ h) N inside = zero-add _ ∙ received_sum m n h N.1 (λ q k c e. inside q k c (Memᴰ.tail e))
  received_sum m n (sent d ∷ h) N inside = zero-add _ ∙ received_sum m n h N.1 (λ q k c e. inside q k c (Memᴰ.tail e))
  received_sum m n (received r j c ∷ h) N inside =
      let i = inside r j c (Memᴰ.head refl) in
      let one = pairs_one m n (only_of r j) r j i.0 i.1 i.2 (λ q k ne. one_other r j q k (v q k) ne) ∙ one_itself r j (v r j) in
      ap₂ ◌+◌ (sym one) (received_sum m n h N.1 (λ q k c e. inside q k c (Memᴰ.tail e)))
      ∙ pairs_add m n (only_of r j) (received_of h)
      ∙ pairs_same m n _ _ (λ q k a b c. go q k (test (eqb r q && eqb j k)))
    where
      go : (q k : ℕ) → Test (eqb r q && eqb j k) → only_of r j q k + received_of h q k ≡ received_of (received r j c ∷ h) q k
      go q k (passes e) =
          let i = same_pair r j q k e in
          let z : has_receipt h q k ≡ false = rw (← i.0, ← i.1) N.0 in
          rw (e, z) (omega arith)
      go q k (fails e) = rw e (omega arith)

-- ---- a cut without orphans

module _ (s : State) (cut : List ℕ) (clean : NoOrphan s cut) (new : (p : ℕ) → Each New (history s p)) where
  abbrev sends_of : ℕ → ℕ
  sends_of q = sends (part s cut q)

  -- a receipt inside is of a send inside, to the process that has the receipt
  send_inside : (p q k c : ℕ) → Memᴰ (received q k c) (part s cut p) → Held (part s cut q) p k
  send_inside p q k c m = holds_held (part s cut q) p k (not-false (has_send (part s cut q) p k) (clean p (received q k c) m))

  inside : (p q k c : ℕ) → Memᴰ (received q k c) (part s cut p) → (q < length s) × (0 < k) × (k ≤ sends_of q)
  inside p q k c m =
      let H = send_inside p q k c m in
      (sends_within s cut q k H.positive H.counted, H.positive, H.counted)

  -- so that only the destination has one
  by_destination : (q k x : ℕ) → sum_below (λ p. cond (has_receipt (part s cut p) q k) x 0) (length s) ≡ cond (got s cut q k) x 0
  by_destination q k x = go (dec_lt d (length s))
    where
      d : ℕ
      d = destination (part s cut q) k

      other : (p : ℕ) → p ≢ d → Test (has_receipt (part s cut p) q k) → cond (has_receipt (part s cut p) q k) x 0 ≡ 0
      other p ne (passes e) = let m = receipt_there (part s cut p) q k e in absurd (ne (sym (send_inside p q k m.0 m.1).to))
      other p ne (fails e) = skips x 0 e

      go : Dec (d < length s) → sum_below (λ p. cond (has_receipt (part s cut p) q k) x 0) (length s) ≡ cond (got s cut q k) x 0
      go (yes l) = sum_one _ (length s) d l (λ p lp ne. other p ne (test (has_receipt (part s cut p) q k)))
      go (no l) =
          sum_none _ (length s) (λ p lp. other p (omega arith) (test (has_receipt (part s cut p) q k)))
          ∙ sym (skips x 0 (ap (λ (h : History). has_receipt h q k) (part_beyond s cut d (omega arith))))

  received_all : (v : ℕ → ℕ → ℕ) → all_received s cut (length s) v ≡ sum_pairs (λ q k. cond (got s cut q k) (v q k) 0) sends_of (length s)
  received_all v =
      sum_same _ _ (length s)
      (λ p lp. received_sum v sends_of (length s) (part s cut p) (each_older New (upto_is_older (get_or cut p 0) (history s p)) (new p)) (inside p))
      ∙ pairs_swap sends_of (length s) (λ p. received_of v (part s cut p)) (length s)
      ∙ pairs_same sends_of (length s) _ _ (λ q k a b c. by_destination q k (v q k))

  amounts_inside : (v : ℕ → ℕ → ℕ) → all_sent s cut (length s) v ≡ all_received s cut (length s) v + all_listed (in_transit s cut) v
  amounts_inside v =
      sym
      (ap₂ ◌+◌ (received_all v) (sum_transit s cut (amount_listed v))
      ∙ pairs_add sends_of (length s) (λ q k. cond (got s cut q k) (v q k) 0) (λ q k. cond (got s cut q k) 0 (v q k))
      ∙ pairs_same sends_of (length s) _ _ (λ q k a b c. go (got s cut q k) (v q k)))
    where
      go : (b : Bool) (x : ℕ) → cond b x 0 + cond b 0 x ≡ x
      go true x = omega arith
      go false x = omega arith

  -- message (q, k) is sent inside once or not at all
  sent_once : (q k : ℕ) → all_sent s cut (length s) (only q k) ≡ cond (ltb 0 k && leb k (sends_of q)) 1 0
  sent_once q k = go (test (ltb 0 k && leb k (sends_of q)))
    where
      none : (r j : ℕ) → 0 < j → j ≤ sends_of r → (ltb 0 k && leb k (sends_of q)) ≡ false → Test (eqb q r && eqb k j) → only q k r j ≡ 0
      none r j pos le e (passes x) =
          let i = same_pair q k r j x in
          let a : ltb 0 k ≡ true = rw i.1 (lt-ltb 0 j pos) in
          let b : leb k (sends_of q) ≡ true = rw (i.0, i.1) (le-leb j (sends_of r) le) in
          clash (ltb 0 k && leb k (sends_of q)) (rw (a, b)) e
      none r j pos le e (fails x) = skips 1 0 x

      go : Test (ltb 0 k && leb k (sends_of q)) → all_sent s cut (length s) (only q k) ≡ cond (ltb 0 k && leb k (sends_of q)) 1 0
      go (passes e) =
          let pos = ltb-true 0 k (and_left (ltb 0 k) (leb k (sends_of q)) e) in
          let le = leb-true k (sends_of q) (and_right (ltb 0 k) (leb k (sends_of q)) e) in
          pairs_one sends_of (length s) (only q k) q k (sends_within s cut q k pos le) pos le (λ r j ne. one_other q k r j 1 ne)
          ∙ one_itself q k 1
          ∙ sym (picks 1 0 e)
      go (fails e) =
          pairs_none sends_of (length s) (only q k) (λ r j lr pos le. none r j pos le e (test (eqb q r && eqb k j)))
          ∙ sym (skips 1 0 e)

  once_inside : (q k : ℕ) → all_received s cut (length s) (only q k) + all_listed (in_transit s cut) (only q k) ≡ cond (ltb 0 k && leb k (sends_of q)) 1 0
  once_inside q k = sym (amounts_inside (only q k)) ∙ sent_once q k

-- ---- the theorem

billed_at : (t positions : List ℕ) → first (table_rows t) ≡ 0 → ((p : ℕ) → Each New (history (decoded t) p)) → IsCut t positions
    → NoOrphan (decoded t) (words positions) → BilledAt t positions
billed_at t positions laid new C clean =
    let s = decoded t in
    let cut = words positions in
    let m = decoded_count t in
    let is = list_is t positions laid C in
    record {
      listed = at_cut t positions laid C;
      once = λ q k. rw (is, ← m) (once_inside s cut clean new q k);
      amounts = λ v. rw (is, ← m) (amounts_inside s cut clean new v);
    }

module _ (n E : ℕ) (t : List ℕ) (H : Holds n E t) where
  abbrev s : State
  s = decoded t

  M : Sound n E s
  M = sound H.made

  laid : first (table_rows t) ≡ 0
  laid = subst (λ (x : List ℕ). first (table_rows x) ≡ 0) (sym H.is) (first_none (table_rows (layout n E s)) (unmet_rows n E H.range s M))

  processes : word t 0 ≡ n
  processes = sym (decoded_count t) ∙ M.size

  -- at a line whose words are answered
  at_line : (cut : List ℕ) → length cut ≡ n → ((p : ℕ) → p < n → get_or cut p 0 ≤ length (history s p)) → NoOrphan s cut → BilledAt t (bytes cut)
  at_line cut size within clean =
      let few = H.range.records in
      let is : words (bytes cut) ≡ cut =
      words_bytes cut (all_small cut (λ p lt. let a = within p (omega arith) in let b = M.short p in omega arith))
      in
      billed_at t (bytes cut) laid M.single
      (record { size = (let a = bytes_length cut in let b = processes in omega arith); within = λ p lt. rw is (within p (let b = processes in omega arith)) })
      (rw is clean)

  -- at the failure line that is answered
  at_answered : (mask : ℕ) (a : List ℕ) → Answered t a mask s (word t 0) → BilledAt t (take (4 * n) (failed_on t a mask).area)
  at_answered mask a A =
      let cut = A.cut in
      let rest = A.back ∷ ones A.back ∷ [] in
      let many = M.size in
      let size : length cut ≡ n = A.line.permit.size ∙ many in
      let wide : length (bytes cut) ≡ 4 * n = bytes_length cut ∙ ap (λ (k : ℕ). 4 * k) size in
      let is : take (4 * n) (failed_on t a mask).area ≡ bytes cut =
      ap (λ (o : Outcome). take (4 * n) o.area) A.left ∙ ap (take (4 * n)) (bytes_append cut rest) ∙ take_at (bytes cut) (bytes rest) (4 * n) wide
      in
      rw is (at_line cut size (λ p lt. permitted_le (history s p) (failed mask p) (get_or cut p 0) (A.line.permit.each p (omega arith))) A.line.clean)

  at_failure : (mask : ℕ) (a : List ℕ) → mask < 2 ^ n → length a ≡ 4 * n + 8 → BilledAt t (take (4 * n) (failed_on t a mask).area)
  at_failure mask a lt len = at_answered mask a (latest t a mask laid (rw processes len) (rw processes lt))

  at_numbered : (N : ℕ) (a : List ℕ) → length a ≡ 4 * n → (line_on t a N).returned ≡ 0 → BilledAt t (line_on t a N).area
  at_numbered N a len z =
      let A = line_answered n E H.range s M N a len (subst (λ (x : List ℕ). (line_on x a N).returned ≡ 0) H.is z) in
      let is : (line_on t a N).area ≡ bytes (numbered_line N s) = ap (λ (x : List ℕ). (line_on x a N).area) H.is ∙ ap (λ (o : Outcome). o.area) A.left in
      let many = M.size in
      rw is (at_line (numbered_line N s) (length-map s _ ∙ M.size) (λ p lp. line_within N s A.passed p (omega arith))
      (line_clean n E s M N A.passed))

pub billed_once : BilledOnce
billed_once n E t M =
    let H = made_holds n E t M in
    record { anywhere = λ positions. billed_at t positions (laid n E t H) (sound H.made).single; failure = at_failure n E t H; numbered = at_numbered n E t H }
