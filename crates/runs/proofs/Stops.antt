-- Where no process can go on: if a run leaves s, it has gone all the way.
use mathlib.Core.Path.{◌≡◌, refl, ◌∙◌, subst}
use mathlib.Core.Logic.{◌⊎◌, inl, inr}
use mathlib.Core.Bool.{Bool, true, false, cond}
use mathlib.Core.List.{List, [], ◌∷◌, ◌++◌}
use Prim.Native.Nat.{ℕ, ◌≤◌, ◌<◌}
use native.Mathlib.Nat.{le_trans}
use native.Mathlib.Omega.{arith}
use native.Mathlib.Decide.{dec_le}
use lib.ListN.{length, length-set, length-replicate}
use Rattle.rules.specs.Records.{Event, forced, received, History, State, history, sends}
use Rattle.rules.specs.Table.{fresh}
use Rattle.rules.specs.Steps.{Call, checkpoint, send, receipt, forces, carries, grown, stepped}
use Rattle.rules.specs.Lists.{Entry, entry, accepts, after, run}
use Rattle.basics.proofs.Older.{Older, same, newer, none_older, older_trans, older_length, older_whole, older_of}
use Rattle.basics.proofs.Booleans.{Test, passes, fails, test}
use Rattle.records.proofs.Histories.{holds_held, sends_older}
use Rattle.records.proofs.Steps.{Accepted, accepts_met, run_keeps, after_length, history_same, history_fresh, each_step, stepped_older}
use Rattle.runs.proofs.Ways.{MadeState}

-- Process p can't go past `top`, a part of its history in s: that is the whole, or right behind it stands the receipt of a send that its
-- sender q has not reached at its own top.
pub data Stop (s : State) (top : ℕ → History) (p : ℕ) : Type 0 where
  ends : top p ≡ history s p → Stop s top p
  waits : (q k m : ℕ) → Older (received q k m ∷ top p) (history s p) → sends (top q) < k → Stop s top p

-- every history of a state goes at most up to there
abbrev Below : State → (ℕ → History) → Type 0
Below x top = (p : ℕ) → Older (history x p) (top p)

run_under : (n E : ℕ) (l : List Entry) (x : State) → length x ≡ n → (p : ℕ) → Older (history x p) (history (run n E x l) p)
run_under n E l x z p = (run_keeps (λ (y : State). (length y ≡ n) × Older (history x p) (history y p)) n E step x l (z, same)).1
  where
    step : (y : State) (r : ℕ) (call : Call) → (length y ≡ n) × Older (history x p) (history y p) → Accepted n E y r call
        → (length (stepped y r call) ≡ n) × Older (history x p) (history (stepped y r call) p)
    step y r call P A =
        let w = A.within in
        let z = P.0 in
        (length-set y r _ ∙ z, older_trans P.1 (stepped_older y r call (omega arith) p))

-- ---- a receipt that a call adds is that call's

newest : {h top : History} {a e : Event} → Older h top → Older (a ∷ top) (e ∷ h) → a ≡ e
newest o same = refl
newest o (newer r) = let l = older_length o in let m = older_length r in absurd (omega arith)

newest_two : {h top : History} {a e f : Event} → Older h top → Older (a ∷ top) (e ∷ f ∷ h) → (a ≡ e) ⊎ (a ≡ f)
newest_two o same = inl refl
newest_two o (newer r) = inr (newest o r)

added_receipt : (h top : History) (call : Call) (c q k m : ℕ) → Older h top → Older (received q k m ∷ top) (grown h call c) → call ≡ receipt q k
added_receipt h top checkpoint c q k m o r = absurd (let e = newest o r in let z : ◌≡◌ {A = ℕ} 0 1 = cc in omega arith)
added_receipt h top (send d) c q k m o r = absurd (let e = newest o r in let z : ◌≡◌ {A = ℕ} 0 1 = cc in omega arith)
added_receipt h top (receipt d j) c q k m o r = go (forces h c) r
  where
    two : (received q k m ≡ received d j c) ⊎ (received q k m ≡ forced c) → receipt d j ≡ receipt q k
    two (inl e) = cc
    two (inr e) = absurd (let z : ◌≡◌ {A = ℕ} 0 1 = cc in omega arith)

    go : (b : Bool) → Older (received q k m ∷ top) (received d j c ∷ (cond b (forced c ∷ []) [] ++ h)) → receipt d j ≡ receipt q k
    go true u = two (newest_two o u)
    go false u = two (inl (newest o u))

-- ---- the law

module _ (n E : ℕ) (s : State) (top : ℕ → History) (under : (p : ℕ) → Older (top p) (history s p)) (stops : (p : ℕ) → Stop s top p) where
  -- a call of a run to s doesn't take its process past its top
  step_below : (x : State) (p : ℕ) (call : Call) → Below x top → Accepted n E x p call → Older (grown (history x p) call (carries x call)) (history s p)
      → Older (grown (history x p) call (carries x call)) (top p)
  step_below x p call b A o = go (stops p)
    where
      g : History
      g = grown (history x p) call (carries x call)

      held : (d : Call) (q k : ℕ) → Accepted n E x p d → d ≡ receipt q k → k ≤ sends (top q)
      held checkpoint q k A e = absurd (let z : ◌≡◌ {A = ℕ} 0 1 = cc in omega arith)
      held (send r) q k A e = absurd (let z : ◌≡◌ {A = ℕ} 0 1 = cc in omega arith)
      held (receipt r j) q k A e =
          let a : r ≡ q = cc in
          let i : j ≡ k = cc in
          rw (← a, ← i) (le_trans (holds_held (history x r) p j A.message.2).counted (sends_older (b r)))

      go : Stop s top p → Older g (top p)
      go (ends e) = rw e o
      go (waits q k m r lt) = here (dec_le (length g) (length (top p)))
        where
          here : Dec (length g ≤ length (top p)) → Older g (top p)
          here (yes le) = older_of o (under p) le
          here (no more) =
              let u : Older (received q k m ∷ top p) g = older_of r o (omega arith) in
              let le = held call q k A (added_receipt (history x p) (top p) call (carries x call) q k m (b p) u) in
              absurd (omega arith)

  after_below : (x : State) (e : Entry) → length x ≡ n → Below x top → ((p : ℕ) → Older (history (after n E x e) p) (history s p))
      → Below (after n E x e) top
  after_below x (entry p call area) z b u = go (test (accepts n E x (entry p call area)))
    where
      step : Accepted n E x p call → ((r : ℕ) → Older (history (stepped x p call) r) (history s r)) → Below (stepped x p call) top
      step A v =
          let w = A.within in
          let lt : p < length x = omega arith in
          let g = grown (history x p) call (carries x call) in
          let o = subst (λ (h : History). Older h (history s p)) (history_same x p g lt) (v p) in
          each_step (λ (r : ℕ) (h : History). Older h (top r)) x p g lt (step_below x p call b A o) (λ r ne. b r)

      go : Test (accepts n E x (entry p call area)) → Below (after n E x (entry p call area)) top
      go (passes y) = rw y (step (accepts_met n E x p call area y) (rw y at u))
      go (fails y) = rw y b

  run_below : (l : List Entry) (x : State) → length x ≡ n → run n E x l ≡ s → Below x top → Below s top
  run_below [] x z e b = subst (λ (y : State). Below y top) e b
  run_below (a ∷ l) x z e b =
      let k = after_length n E x a ∙ z in
      run_below l (after n E x a) k e (after_below x a z b (λ p. rw (← e) (run_under n E l (after n E x a) k p)))

  -- all of it is below these parts
  pub stopped_whole : MadeState n E s → (p : ℕ) → top p ≡ history s p
  stopped_whole m p =
      let b = run_below m.list (fresh n) (length-replicate n []) m.leaves (λ q. rw (history_fresh n q) (none_older (top q))) in
      older_whole (under p) (older_length (b p))
