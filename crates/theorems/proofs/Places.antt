-- Slip 4: the places that a receipt answers, the theorem stated in specs/Places.antt.
use mathlib.Core.Path.{◌≡◌, refl, sym, ap, ap₂, ◌∙◌}
use mathlib.Core.Bool.{Bool, true, false, cond}
use mathlib.Core.List.{List, [], ◌∷◌, ◌++◌}
use mathlib.Core.Option.{some}
use Prim.Native.Nat.{ℕ, suc, ◌+◌, ◌<◌}
use native.Mathlib.Omega.{arith}
use lib.Dec.{ltb, eqb}
use lib.ListN.{length}
use Rattle.xdr.specs.Words.{word}
use Rattle.xdr.proofs.Puts.{whole_put}
use Rattle.rules.specs.Records.{sent, forced, History, history, number, sends, carried, send_place}
use Rattle.rules.specs.Table.{layout, decoded}
use Rattle.rules.specs.Steps.{receipt, grown, stepped}
use Rattle.rules.specs.Lines.{upto}
use Rattle.rules.specs.Calls.{first, table_rows, step_rows, answer, step_on}
use Rattle.theorems.specs.Places.{SendAt, Places, OneAnswer}
use Rattle.basics.proofs.Older.{same}
use Rattle.records.proofs.Histories.{at_older, found, of_send_at, carried_at, Held, holds_held, send_of}
use Rattle.records.proofs.Cuts.{upto_older}
use Rattle.records.proofs.Rows.{split_zero, judged_returned, judged_done}
use Rattle.records.proofs.Steps.{accepted_met, area_met, history_same, history_other, receipt_place}
use Rattle.tables.proofs.WellLaid.{decoded_count}

-- ---- the k-th send

module _ (h : History) (k : ℕ) where
  send_held : (p : ℕ) → Held h p k → SendAt h k p (send_place h k)
  send_held p H =
      let S = send_of h k H.positive H.counted in
      let place = of_send_at (λ g d. suc (length g)) S.there S.rank in
      record {
        there = rw place (at_older S.there ∙ ap (λ (d : ℕ). some (sent d)) H.to);
        rank = rw place (ap sends (upto_older S.there) ∙ sym S.rank);
      }

  number_held : (p : ℕ) → Held h p k → carried h k ≡ number (upto (send_place h k) h)
  number_held p H =
      let S = send_of h k H.positive H.counted in
      rw (of_send_at (λ g d. suc (length g)) S.there S.rank)
      (carried_at S.there S.rank ∙ sym (ap number (upto_older S.there)))

  send_at : (d i : ℕ) → SendAt h k d i → i ≡ send_place h k
  send_at d i S =
      let F = found h (sent d) i S.there in
      let u : upto i h ≡ sent d ∷ F.before = ap (λ (j : ℕ). upto j h) F.place ∙ upto_older F.there in
      let rank : k ≡ suc (sends F.before) = sym S.rank ∙ ap sends u in
      F.place ∙ sym (of_send_at (λ g q. suc (length g)) F.there rank)

-- ---- the receipt

one_is : (b : Bool) → eqb (cond b 1 0) 1 ≡ b
one_is true = refl
one_is false = refl

-- it has met no row
met : (t a : List ℕ) (p q k : ℕ) → (step_on t a p (receipt q k)).returned ≡ 0
    → first (table_rows t ++ step_rows (word t 0) (word t 1) (decoded t) p (receipt q k) (length a)) ≡ 0
unfolding step_on
met t a p q k z =
    sym (judged_returned (first (table_rows t ++ step_rows (word t 0) (word t 1) (decoded t) p (receipt q k) (length a))) t a
    (layout (word t 0) (word t 1) (stepped (decoded t) p (receipt q k))) (answer (decoded t) p (receipt q k)))
    ∙ z

pub places : Places
unfolding step_on
places t a p q k z =
    let s = decoded t in
    let e = met t a p q k z in
    let m = split_zero (table_rows t) (step_rows (word t 0) (word t 1) s p (receipt q k) (length a)) tt e in
    let A = accepted_met (word t 0) (word t 1) s p (receipt q k) (length a) m.1 in
    let size = area_met (word t 0) (word t 1) s p (receipt q k) (length a) m.1 in
    let H = holds_held (history s q) p k A.message.2 in
    let c = carried (history s q) k in
    let h = history s p in
    let inside : p < length s = (let l = decoded_count t in let w = A.within in omega arith) in
    let now = history_same s p (grown h (receipt q k) c) inside in
    record {
      carries = c;
      forces = cond (ltb (number h) c) 1 0;
      sent_at = send_place (history s q) k;
      received_at = length (grown h (receipt q k) c);
      after = stepped s p (receipt q k);
      size = size;
      left = sym (judged_done t a (layout (word t 0) (word t 1) (stepped s p (receipt q k))) (answer s p (receipt q k)) e refl
          (sym (whole_put a (answer s p (receipt q k)) size)));
      send = send_held (history s q) k p H;
      stays = history_other s p q (grown h (receipt q k) c) A.message.1;
      only = send_at (history s q) k;
      number_there = number_held (history s q) k p H;
      greater = refl;
      own = rw now (at_older {g = cond (ltb (number h) c) (forced c ∷ []) [] ++ h} same);
      last = receipt_place h q k c;
      behind = now ∙ rw (one_is (ltb (number h) c));
    }

pub one_answer : OneAnswer
one_answer t a p q k s A B =
    let sent_at_lem : A.sent_at ≡ B.sent_at = B.only p A.sent_at A.send in
    let carry : A.carries ≡ B.carries = A.number_there ∙ ap (λ (i : ℕ). number (upto i (history s q))) sent_at_lem ∙ sym B.number_there in
    let force : A.forces ≡ B.forces = A.greater ∙ ap (λ (c : ℕ). cond (ltb (number (history s p)) c) 1 0) carry ∙ sym B.greater in
    let received_at_lem : A.received_at ≡ B.received_at = A.last ∙ ap (λ (f : ℕ). length (history s p) + 1 + f) force ∙ sym B.last in
    ap₂ (λ (c f : ℕ). c ∷ f ∷ A.sent_at ∷ A.received_at ∷ []) carry force
    ∙ ap₂ (λ (i j : ℕ). B.carries ∷ B.forces ∷ i ∷ j ∷ []) sent_at_lem received_at_lem
