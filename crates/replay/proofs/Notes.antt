-- What is noted of sends, when one process makes its next call.
use mathlib.Core.Path.{◌≡◌, refl, sym, ap, ◌∙◌, subst}
use mathlib.Core.Logic.{◌≢◌, ◌⊎◌, inl, inr}
use mathlib.Core.Bool.{true, false, ◌&&◌, ◌||◌}
use mathlib.Core.List.{List, [], ◌∷◌}
use Prim.Native.Nat.{ℕ, suc, ◌+◌, ◌*◌, ◌≤◌, ◌<◌}
use native.Mathlib.Nat.{mul-le-mul_right}
use native.Mathlib.Omega.{arith}
use native.Mathlib.Decide.{ℕ_discrete, dec_lt}
use lib.Dec.{eqb}
use lib.ListN.{length, set}
use borrow.Author.Tests.{eqb-true, eq-eqb, ne_eqb}
use Rattle.xdr.specs.Words.{word, put_word}
use Rattle.xdr.proofs.Puts.{word_same, word_other}
use Rattle.rules.specs.Records.{basic, forced, sent, received, History, State, history, number, sends, carried, destination, has_send, has_receipt}
use Rattle.basics.proofs.Booleans.{Test, passes, fails, test, clash, true_or, and_left, and_right}
use Rattle.records.proofs.Histories.{holds_held}
use Rattle.records.proofs.Steps.{history_same, history_other, each_step}
use Rattle.records.proofs.Receipts.{Sourced}
use Rattle.records.proofs.Made.{Sound}
use Rattle.rules.specs.Table.{size}
use Rattle.tables.proofs.Laid.{sends_length}
use Rattle.replay.specs.Notes.{note_of, taken, noted, Noted}

-- ---- where the notes are

-- no two sends are noted at one word
apart : (E q k r j : ℕ) → 0 < k → k ≤ E → 0 < j → j ≤ E → (q ≡ r → k ≢ j) → q * E + k ≢ r * E + j
apart E q k r j kp kl jp jl ne e = here (ℕ_discrete q r)
  where
    order : q ≢ r → Dec (q < r) → ⊥
    order x (yes l) = let m = mul-le-mul_right {m = q + 1} {n = r} E (omega arith) in omega arith
    order x (no l) = let m = mul-le-mul_right {m = r + 1} {n = q} E (omega arith) in omega arith

    here : Dec (q ≡ r) → ⊥
    here (yes x) = let f = rw x at e in ne x (omega arith)
    here (no x) = order x (dec_lt q r)

-- there is room for each
pub note_room : (n E q k len : ℕ) → q < n → k ≤ E → len ≡ size n E → 4 * (q * E + k) + 4 ≤ len
note_room n E q k len lq le e =
    let m = mul-le-mul_right {m = q + 1} {n = n} E (omega arith) in
    omega arith

-- a receipt that is there has its send
sent_received : (s : State) (r : ℕ) (h : History) → Sourced s r h → (q k : ℕ) → has_receipt h q k ≡ true → has_send (history s q) r k ≡ true
sent_received s r [] S q k x = clash false x refl
sent_received s r (basic m ∷ h) S q k x = sent_received s r h S.1 q k x
sent_received s r (forced m ∷ h) S q k x = sent_received s r h S.1 q k x
sent_received s r (sent d ∷ h) S q k x = sent_received s r h S.1 q k x
sent_received s r (received i j c ∷ h) S q k x = go (true_or (eqb i q && eqb j k) (has_receipt h q k) x) (sent_received s r h S.1 q k)
  where
    go : ((eqb i q && eqb j k) ≡ true) ⊎ (has_receipt h q k ≡ true) → (has_receipt h q k ≡ true → has_send (history s q) r k ≡ true)
        → has_send (history s q) r k ≡ true
    go (inl e) f =
        rw (← eqb-true i q (and_left (eqb i q) (eqb j k) e), ← eqb-true j k (and_right (eqb i q) (eqb j k) e)) S.0.0
    go (inr e) f = f e

module _ {n E : ℕ} {c : State} (M : Sound n E c) (p : ℕ) (lt : p < n) where
  abbrev h : History
  h = history c p

  few : (q : ℕ) → sends (history c q) ≤ E
  few q = let a = sends_length (history c q) in let b = M.short q in omega arith

  inside : p < length c
  inside = let z = M.size in omega arith

  -- what is asked of a history that p's call doesn't change
  kept : {A : Type 0} (f : History → A) (g : History) → f g ≡ f h → (r : ℕ) → f (history (set c p g) r) ≡ f (history c r)
  kept f g e = each_step (λ (r : ℕ) (x : History). f x ≡ f (history c r)) c p g inside e (λ r ne. refl)

  -- the sends stay as they are
  pub record Silent (g : History) : Type 0 where
    pub count : sends g ≡ sends h
    pub to : (k : ℕ) → destination g k ≡ destination h k
    pub carry : (k : ℕ) → carried g k ≡ carried h k

  module _ {g : History} (S : Silent g) where
    noted_silent : (q k : ℕ) → has_receipt (history (set c p g) (destination (history c q) k)) q k ≡ has_receipt (history c (destination (history c q) k)) q k
        → noted (set c p g) q k ≡ noted c q k
    noted_silent q k r =
        rw (kept (λ x. destination x k) g (S.to k) q, kept (λ x. carried x k) g (S.carry k) q, r)

    there : (q k : ℕ) → k ≤ sends (history (set c p g) q) → k ≤ sends (history c q)
    there q k le = subst (λ (x : ℕ). k ≤ x) (kept sends g S.count q) le

    -- nothing is received
    pub noted_same : (notes : List ℕ) → Noted n E c notes → ((q k : ℕ) → has_receipt g q k ≡ has_receipt h q k) → Noted n E (set c p g) notes
    noted_same notes N r q k lq pos le =
        N q k lq pos (there q k le) ∙ sym (noted_silent q k (kept (λ x. has_receipt x q k) g (r q k) (destination (history c q) k)))

    -- send j of process r is received, whose note is struck
    module _ (r j : ℕ) (lr : r < n) (pos : 0 < j) (le : j ≤ sends (history c r)) (to : destination (history c r) j ≡ p)
        (got : (q k : ℕ) → has_receipt g q k ≡ ((eqb r q && eqb j k) || has_receipt h q k)) where
      struck_here : noted (set c p g) r j ≡ taken
      struck_here = rw (kept (λ x. destination x j) g (S.to j) r, to, history_same c p g inside, got r j, eq-eqb r r refl, eq-eqb j j refl)

      struck_other : (q k : ℕ) → (r ≡ q → j ≢ k) → has_receipt g q k ≡ has_receipt h q k
      struck_other q k ne = got q k ∙ go (ℕ_discrete r q)
        where
          go : Dec (r ≡ q) → ((eqb r q && eqb j k) || has_receipt h q k) ≡ has_receipt h q k
          go (yes e) = rw (eq-eqb r q e, ne_eqb j k (ne e))
          go (no x) = rw (ne_eqb r q x)

      pub noted_struck : (notes : List ℕ) → Noted n E c notes → length notes ≡ size n E → Noted n E (set c p g) (put_word notes (r * E + j) taken)
      noted_struck notes N room q k lq kp kl = go (test (eqb r q && eqb j k))
        where
          go : Test (eqb r q && eqb j k) → word (put_word notes (r * E + j) taken) (q * E + k) ≡ noted (set c p g) q k
          go (passes e) =
              let a : r ≡ q = eqb-true r q (and_left (eqb r q) (eqb j k) e) in
              let b : j ≡ k = eqb-true j k (and_right (eqb r q) (eqb j k) e) in
              let f = few r in
              let m = note_room n E r j (length notes) lr (omega arith) room in
              rw (← a, ← b) (word_same notes (r * E + j) taken (omega arith) (omega arith) ∙ sym struck_here)
          go (fails e) =
              let ne : r ≡ q → j ≢ k = λ a b. clash true refl (rw (eq-eqb r q a, eq-eqb j k b) at e) in
              let f = few r in
              let d = few q in
              let l = there q k kl in
              word_other notes (r * E + j) taken (q * E + k) (apart E q k r j kp (omega arith) pos (omega arith) (λ a b. ne (sym a) (sym b)))
              ∙ N q k lq kp (there q k kl)
              ∙ sym (noted_silent q k (kept (λ x. has_receipt x q k) g (struck_other q k ne) (destination (history c q) k)))

  -- a send, which is noted
  module _ (d : ℕ) (small : d < 16) (few_carried : number h ≤ 16384) (free : sends h < E) where
    abbrev g : History
    g = sent d ∷ h

    new : destination g (suc (sends h)) ≡ d
    new = rw (eq-eqb (suc (sends h)) (suc (sends h)) refl)

    new_carried : carried g (suc (sends h)) ≡ number h
    new_carried = rw (eq-eqb (suc (sends h)) (suc (sends h)) refl)

    -- nobody has it yet
    unreceived : (r : ℕ) → has_receipt (history c r) p (suc (sends h)) ≡ false
    unreceived r = go (test (has_receipt (history c r) p (suc (sends h))))
      where
        go : Test (has_receipt (history c r) p (suc (sends h))) → has_receipt (history c r) p (suc (sends h)) ≡ false
        go (fails x) = x
        go (passes x) =
            let s = sent_received c r (history c r) (M.sourced r) p (suc (sends h)) x in
            let l = (holds_held (history c p) r (suc (sends h)) s).counted in
            absurd (omega arith)

    pub noted_sent : (notes : List ℕ) → Noted n E c notes → length notes ≡ size n E
        → Noted n E (set c p g) (put_word notes (p * E + suc (sends h)) (note_of d (number h)))
    noted_sent notes N room q k lq kp kl = go (ℕ_discrete q p)
      where
        at : ℕ
        at = p * E + suc (sends h)

        older : (r : ℕ) → r < n → (r ≡ p → k ≢ suc (sends h)) → k ≤ sends (history c r)
            → destination (history (set c p g) r) k ≡ destination (history c r) k → carried (history (set c p g) r) k ≡ carried (history c r) k
            → word (put_word notes at (note_of d (number h))) (r * E + k) ≡ noted (set c p g) r k
        older r lr ne l a b =
            let f = few r in
            let e = kept (λ x. has_receipt x r k) g refl (destination (history c r) k) in
            word_other notes at (note_of d (number h)) (r * E + k) (apart E r k p (suc (sends h)) kp (omega arith) (omega arith) free ne)
            ∙ N r k lr kp l
            ∙ (rw (a, b, e))

        own : k ≤ suc (sends h) → Dec (k ≡ suc (sends h)) → word (put_word notes at (note_of d (number h))) (p * E + k) ≡ noted (set c p g) p k
        own l (yes e) =
            let m = note_room n E p (suc (sends h)) (length notes) lt free room in
            let r = kept (λ x. has_receipt x p (suc (sends h))) g refl d in
            rw (e, word_same notes at (note_of d (number h)) (omega arith) (omega arith), history_same c p g inside, new, new_carried, r, unreceived d)
        own l (no ne) = older p lt (λ x. ne) (omega arith)
            (ap (λ (x : History). destination x k) (history_same c p g inside) ∙ (rw (ne_eqb k (suc (sends h)) ne)))
            (ap (λ (x : History). carried x k) (history_same c p g inside) ∙ (rw (ne_eqb k (suc (sends h)) ne)))

        go : Dec (q ≡ p) → word (put_word notes at (note_of d (number h))) (q * E + k) ≡ noted (set c p g) q k
        go (yes e) = rw e (own (rw (e, history_same c p g inside) at kl) (ℕ_discrete k (suc (sends h))))
        go (no ne) =
            let o = history_other c p q g ne in
            older q lq (λ x. absurd (ne x)) (rw o at kl) (rw o) (rw o)
