-- An accepted step's outcome, put together from what was read and stored.
use mathlib.Core.Path.{◌≡◌, refl, sym, ap, ap₂, subst, ◌∙◌}
use mathlib.Core.Bool.{Bool, true, false, cond}
use mathlib.Core.List.{List, [], ◌∷◌}
use Prim.Native.Nat.{ℕ, suc, ◌+◌, ◌*◌, ◌≤◌}
use native.Mathlib.Nat.{add_comm}
use native.Mathlib.Numerals.{add-one}
use native.Mathlib.Omega.{arith}
use lib.Dec.{ltb}
use lib.ListN.{length}
use Rattle.xdr.specs.Words.{word, put_word, put_words}
use Rattle.xdr.proofs.Words.{Bytes}
use Rattle.xdr.proofs.Puts.{one_put}
use Rattle.rules.specs.Records.{Event, basic, forced, sent, received, History, history, number, sends, carried}
use Rattle.rules.specs.Table.{heading, width, record_words, layout, start, decoded}
use Rattle.rules.specs.Steps.{Call, checkpoint, send, receipt, carries, added, grown, stepped}
use Rattle.rules.specs.Calls.{outcome, needed, answer, step_on}
use Rattle.records.proofs.Rows.{judged_done}
use Rattle.records.proofs.Steps.{receipt_place}
use Rattle.tables.proofs.Stores.{stored}
use Rattle.tables.proofs.OneCall.{step_stores}
use Rattle.tables.proofs.Outcomes.{head, Passed, passed}
use Rattle.std.specs.Prelude.{Result}
use Rattle.std.specs.Result.{IsErrAnd}
use Rattle.refusals.specs.Refusals.{number_of, returned}
use Rattle.refusals.specs.declared.Refusal.{Refusal}
use Rattle.layout.specs.declared.Section.{Section}
use Rattle.layout.proofs.Refused.{refused_outcome}
use Rattle.scans.specs.declared.Sent.{Sent}
use Rattle.rows.specs.Rows.{ActsIn, Reads, step_row}
use Rattle.store.specs.Added.{with_record, with_receipt, forces}

-- a refused step
pub stops : {A : Type 0} (r : Result A Refusal) (e : Refusal) → IsErrAnd r (λ y. y ≡ e) → (t a : List ℕ) (p : ℕ) (call : Call)
    → number_of e ≡ step_row t p call (length a) → outcome (returned r) t a ≡ step_on t a p call
unfolding step_on
stops r e h t a p call g =
    refused_outcome r e h t a [] (layout (word t 0) (word t 1) (stepped (decoded t) p call)) (answer (decoded t) p call) [] g

-- ---- records, stored

-- one
one_stored : (t : List ℕ) (p : ℕ) (h : History) (ev : Event) {at c x s : ℕ} {ws : List ℕ} → at ≡ start (word t 1) p → c ≡ length h
    → x ≡ number (ev ∷ h) → s ≡ sends (ev ∷ h) → ws ≡ record_words ev h
    → put_words (put_words t at ((c + 1) ∷ x ∷ s ∷ [])) (at + heading + width * c) ws ≡ stored (word t 1) t p h (ev ∷ [])
unfolding stored
one_stored t p h ev i c x s r = rw (c, add_comm (length h) 1, i, x, s, r)

-- the receipt of (q, k) that carries m, with the checkpoint that it forces
receipt_stored : (t : List ℕ) (p : ℕ) (h : History) (m q k : ℕ) {at c x s : ℕ} → at ≡ start (word t 1) p → c ≡ length h → x ≡ number h → s ≡ sends h
    → cond (ltb x m)
    (put_words (put_words t at ((c + 2) ∷ m ∷ s ∷ [])) (at + heading + width * c) (2 ∷ m ∷ 0 ∷ 0 ∷ 4 ∷ q ∷ k ∷ m ∷ []))
    (put_words (put_words t at ((c + 1) ∷ x ∷ s ∷ [])) (at + heading + width * c) (4 ∷ q ∷ k ∷ m ∷ []))
    ≡ stored (word t 1) t p h (received q k m ∷ cond (ltb (number h) m) (forced m ∷ []) [])
unfolding stored
receipt_stored t p h m q k {at} {c} {x} {s} i n y z = rw y (go (ltb (number h) m))
  where
    go : (b : Bool)
        → cond b (put_words (put_words t at ((c + 2) ∷ m ∷ s ∷ [])) (at + heading + width * c) (2 ∷ m ∷ 0 ∷ 0 ∷ 4 ∷ q ∷ k ∷ m ∷ []))
        (put_words (put_words t at ((c + 1) ∷ number h ∷ s ∷ [])) (at + heading + width * c) (4 ∷ q ∷ k ∷ m ∷ []))
        ≡ stored (word t 1) t p h (received q k m ∷ cond b (forced m ∷ []) [])
    go true = rw (n, z, add_comm (length h) 2, i)
    go false = one_stored t p h (received q k m) i n refl z refl

-- ---- an accepted step of process p

module _ (t : List ℕ) (bytes : Bytes t) (a : List ℕ) (p : ℕ) where
  abbrev h : History
  h = history (decoded t) p

  module _ (call : Call) (e : 0 ≡ step_row t p call (length a)) where
    goes : Passed t p call (length a)
    goes = passed t bytes p call (length a) (sym e)

    accepted : (ws : List ℕ) → ws ≡ answer (decoded t) p call
        → {u b : List ℕ} → u ≡ stored (word t 1) t p h (added h call (carries (decoded t) call)) → b ≡ put_words a 0 ws
        → outcome 0 u b ≡ step_on t a p call
    unfolding step_on
    accepted ws same s o =
        judged_done t a (layout (word t 0) (word t 1) (stepped (decoded t) p call)) (answer (decoded t) p call) (sym e)
        (s ∙ sym (step_stores t goes.table p call goes.accepted))
        (o ∙ ap (put_words a 0) same)

  module _ (S : Section) (acts : ActsIn t p S) where
    -- the room that a step needs
    room : (call : Call) → 0 ≡ step_row t p call (length a)
        → 4 * (S.at + heading + width * (S.count + needed h call (carries (decoded t) call))) ≤ length t
    room call e = fits (needed h call (carries (decoded t) call)) (goes call e).accepted.free
      where
        fits : (x : ℕ) → length h + x ≤ word t 1 → 4 * (S.at + heading + width * (S.count + x)) ≤ length t
        fits x f = omega (arith, f, acts.1.1, (head t (goes call e).table p acts.0 refl acts.1.0).inside)

    pub one_fits : (call : Call) → 0 ≡ step_row t p call (length a) → needed h call (carries (decoded t) call) ≡ 1
        → 4 * (S.at + heading + width * (S.count + 1)) ≤ length t
    one_fits call e n = subst (λ x. 4 * (S.at + heading + width * (S.count + x)) ≤ length t) n (room call e)

    pub checkpoint_does : 0 ≡ step_row t p checkpoint (length a) → {ws u b : List ℕ} → ws ≡ 1 ∷ (S.number + 1) ∷ 0 ∷ 0 ∷ []
        → u ≡ with_record t S (S.number + 1) S.sends ws → b ≡ put_word a 0 (S.number + 1)
        → outcome 0 u b ≡ step_on t a p checkpoint
    checkpoint_does e i v w =
        let n : S.number + 1 ≡ suc (number h) = ap (λ x. x + 1) acts.1.2 ∙ add-one (number h) in
        accepted checkpoint e ((S.number + 1) ∷ []) (ap (λ x. x ∷ []) n)
        (v ∙ one_stored t p h (basic (suc (number h))) acts.1.0 acts.1.1 n acts.1.3 (i ∙ ap (λ x. 1 ∷ x ∷ 0 ∷ 0 ∷ []) n)) (one_put a (S.number + 1) w)

    pub send_does : (q : ℕ) → 0 ≡ step_row t p (send q) (length a) → {ws u b : List ℕ} → ws ≡ 3 ∷ q ∷ (S.sends + 1) ∷ S.number ∷ []
        → u ≡ with_record t S S.number (S.sends + 1) ws → b ≡ put_words a 0 ((S.sends + 1) ∷ S.number ∷ [])
        → outcome 0 u b ≡ step_on t a p (send q)
    send_does q e i v w =
        let n : S.sends + 1 ≡ suc (sends h) = ap (λ x. x + 1) acts.1.3 ∙ add-one (sends h) in
        accepted (send q) e ((S.sends + 1) ∷ S.number ∷ []) (ap₂ (λ x y. x ∷ y ∷ []) n acts.1.2)
        (v ∙ one_stored t p h (sent q) acts.1.0 acts.1.1 acts.1.2 n (i ∙ ap₂ (λ x y. 3 ∷ q ∷ x ∷ y ∷ []) n acts.1.2)) w

    module _ (q k : ℕ) (e : 0 ≡ step_row t p (receipt q k) (length a)) (m : Sent) (R : Reads (history (decoded t) q) k m) where
      abbrev g : History
      g = history (decoded t) q

      is_forced : forces S m.carried ≡ ltb (number h) (carried g k)
      is_forced = ap₂ ltb acts.1.2 R.0

      pub receipt_fits : 4 * (S.at + heading + width * (S.count + cond (forces S m.carried) 2 1)) ≤ length t
      receipt_fits = subst (λ b. 4 * (S.at + heading + width * (S.count + cond b 2 1)) ≤ length t) (sym is_forced) (room (receipt q k) e)

      pub receipt_does : {d z : ℕ} {y : Bool} → y ≡ forces S m.carried → d ≡ S.count + 1 + cond y 1 0 → z ≡ cond y 1 0
          → {u b : List ℕ} → u ≡ with_receipt t S m.carried q k
          → b ≡ put_words a 0 (m.carried ∷ z ∷ m.place ∷ d ∷ [])
          → outcome 0 u b ≡ step_on t a p (receipt q k)
      receipt_does {d} {z} {y} n o i v w =
          let forced_too : y ≡ ltb (number h) (carried g k) = n ∙ is_forced in
          let place : d ≡ length (grown h (receipt q k) (carried g k)) =
          o ∙ ap₂ (λ c b. c + 1 + cond b 1 0) acts.1.1 forced_too ∙ sym (receipt_place h q k (carried g k))
          in
          accepted (receipt q k) e (m.carried ∷ z ∷ m.place ∷ d ∷ []) (rw (place, i, forced_too, R.0, R.1))
          (v ∙ receipt_stored t p h m.carried q k acts.1.0 acts.1.1 acts.1.2 acts.1.3
          ∙ ap (λ c. stored (word t 1) t p h (received q k c ∷ cond (ltb (number h) c) (forced c ∷ []) [])) R.0) w
