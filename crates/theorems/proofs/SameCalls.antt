-- The state after a list is fixed by each process's accepted calls, and fixes them.
use mathlib.Core.Path.{◌≡◌, refl, sym, ap, ap₂, ◌∙◌, subst, subst₂}
use mathlib.Core.Logic.{◌↔◌}
use mathlib.Core.Bool.{Bool, true, false, cond}
use mathlib.Core.List.{List, [], ◌∷◌, ◌++◌, reverse, reverse_aux, reverse_aux-append, reverse-reverse}
use Prim.Native.Nat.{ℕ, ◌≤◌, ◌<◌}
use native.Mathlib.Omega.{arith}
use lib.Dec.{eqb, leb}
use lib.ListN.{length, length-set, length-replicate, get_or-eq_default}
use lib.Seq.{ext_get_or}
use borrow.Author.Tests.{eqb-true, eqb-false, leb-true, leb-false}
use Rattle.rules.specs.Records.{basic, forced, sent, received, History, State, history}
use Rattle.rules.specs.Table.{layout, fresh}
use Rattle.rules.specs.Steps.{Call, checkpoint, send, receipt, forces, carries, grown, stepped}
use Rattle.rules.specs.Calls.{answer}
use Rattle.rules.specs.Lists.{Entry, entry, accepted_call, accepted_calls, check, accepts, after, run, said, said_all}
use Rattle.basics.proofs.Older.{Older, same, newer, older_trans}
use Rattle.basics.proofs.Booleans.{Test, passes, fails, test}
use Rattle.records.proofs.Steps.{Accepted, accepts_met, run_keeps, after_length, history_same, history_other, history_fresh, each_step, grown_older, stepped_older, carries_later}
use Rattle.records.proofs.Rows.{judged_returned}

-- the calls whose records a history has, the newest first
abbrev pub calls : History → List Call
calls [] = []
calls (basic m ∷ h) = checkpoint ∷ calls h
calls (forced m ∷ h) = calls h
calls (sent q ∷ h) = send q ∷ calls h
calls (received q k c ∷ h) = receipt q k ∷ calls h

pub calls_grown : (h : History) (call : Call) (c : ℕ) → calls (grown h call c) ≡ call ∷ calls h
calls_grown h checkpoint c = refl
calls_grown h (send q) c = refl
calls_grown h (receipt q k) c = go (forces h c)
  where
    go : (b : Bool) → receipt q k ∷ calls ((cond b (forced c ∷ []) [] ++ h)) ≡ receipt q k ∷ calls h
    go true = refl
    go false = refl

-- ---- the accepted calls of a process are the calls of its history

abbrev pub accepted : ℕ → ℕ → ℕ → State → List Entry → List Call
accepted p n E s l = accepted_calls p l (said_all n E s l)

pub said_returned : (n E : ℕ) (s : State) (e : Entry) → (said n E s e).returned ≡ check n E s e
unfolding said
said_returned n E s (entry p call area) =
    judged_returned (check n E s (entry p call area)) (layout n E s) area (layout n E (stepped s p call)) (answer s p call)

pub run_length : (n E : ℕ) (s : State) (l : List Entry) → length (run n E s l) ≡ length s
run_length n E s l = run_keeps (λ (t : State). length t ≡ length s) n E (λ t p call h A. length-set t p _ ∙ h) s l refl

after_calls : (n E : ℕ) (s : State) (e : Entry) (p : ℕ) → length s ≡ n
    → calls (history (after n E s e) p) ≡ reverse_aux (accepted_call p (check n E s e) e) (calls (history s p))
after_calls n E s (entry r call area) p size = go (test (accepts n E s (entry r call area)))
  where
    here : Accepted n E s r call → Test (eqb r p)
        → calls (history (stepped s r call) p) ≡ reverse_aux (cond (eqb r p) (call ∷ []) []) (calls (history s p))
    here A (passes e) =
        let w = A.within in
        rw (e, ← eqb-true r p e, history_same s r (grown (history s r) call (carries s call)) (omega arith)) (calls_grown (history s r) call (carries s call))
    here A (fails e) = rw (e, history_other s r p (grown (history s r) call (carries s call)) (λ x. eqb-false r p e (sym x)))

    go : Test (accepts n E s (entry r call area))
        → calls (history (after n E s (entry r call area)) p)
        ≡ reverse_aux (accepted_call p (check n E s (entry r call area)) (entry r call area)) (calls (history s p))
    go (passes e) = rw e (here (accepts_met n E s r call area e) (test (eqb r p)))
    go (fails e) = rw e

pub run_calls : (n E : ℕ) (l : List Entry) (s : State) (p : ℕ) → length s ≡ n
    → calls (history (run n E s l) p) ≡ reverse_aux (accepted p n E s l) (calls (history s p))
run_calls n E [] s p size = refl
run_calls n E (e ∷ l) s p size =
    run_calls n E l (after n E s e) p (after_length n E s e ∙ size)
    ∙ ap (reverse_aux (accepted p n E (after n E s e) l)) (after_calls n E s e p size)
    ∙ sym (reverse_aux-append (accepted_call p (check n E s e) e) (accepted p n E (after n E s e) l) (calls (history s p)))
    ∙ ap (λ (r : ℕ). reverse_aux (accepted_call p r e ++ accepted p n E (after n E s e) l) (calls (history s p))) (sym (said_returned n E s e))

fresh_calls : (n E : ℕ) (l : List Entry) (p : ℕ) → calls (history (run n E (fresh n) l) p) ≡ reverse (accepted p n E (fresh n) l)
fresh_calls n E l p = run_calls n E l (fresh n) p (length-replicate n [])
    ∙ ap (λ (h : History). reverse_aux (accepted p n E (fresh n) l) (calls h)) (history_fresh n p)

-- ---- a state that a list made is rebuilt from the calls of its histories

-- the history that calls, the newest first, give where the messages carry what they carry in the state f
abbrev pub rebuild : State → List Call → History
rebuild f [] = []
rebuild f (c ∷ cs) = grown (rebuild f cs) c (carries f c)

rebuild_older : (f : State) {a b : List Call} → Older a b → Older (rebuild f a) (rebuild f b)
rebuild_older f same = same
rebuild_older f (newer {e} {g} o) = older_trans (rebuild_older f o) (grown_older (rebuild f g) e (carries f e))

rebuild_grown : (f : State) (h : History) (call : Call) (c : ℕ) → h ≡ rebuild f (calls h) → carries f call ≡ c → grown h call c ≡ rebuild f (calls (grown h call c))
rebuild_grown f h call c e x = ap₂ (λ (g : History) (y : ℕ). grown g call y) e (sym x) ∙ sym (ap (rebuild f) (calls_grown h call c))

-- the histories of s are rebuilt from their calls, with what messages carry in f
abbrev pub Follows : State → State → Type 0
Follows s f = (p : ℕ) → history s p ≡ rebuild f (calls (history s p))

-- the histories of s are older parts of those of f
abbrev pub Before : State → State → Type 0
Before s f = (p : ℕ) → Older (history s p) (history f p)

follows_step : (n E : ℕ) (s f : State) (p : ℕ) (call : Call) → length s ≡ n → Accepted n E s p call → Before s f
    → Follows s f → Follows (stepped s p call) f
follows_step n E s f p call size A o h =
    let w = A.within in
    each_step (λ (r : ℕ) (g : History). g ≡ rebuild f (calls g)) s p (grown (history s p) call (carries s call)) (omega arith)
    (rebuild_grown f (history s p) call (carries s call) (h p) (carries_later n E s f p call A o)) (λ r ne. h r)

pub record Rebuilt (n : ℕ) (s : State) : Type 0 where
  pub size : length s ≡ n
  pub follows : (f : State) → Before s f → Follows s f

rebuilt_step : (n E : ℕ) (s : State) (p : ℕ) (call : Call) → Rebuilt n s → Accepted n E s p call → Rebuilt n (stepped s p call)
rebuilt_step n E s p call R A =
    let w = A.within in
    let z = R.size in
    record {
      size = length-set s p _ ∙ z;
      follows = λ f o.
          let b : Before s f = λ r. older_trans (stepped_older s p call (omega arith) r) (o r) in
          follows_step n E s f p call z A b (R.follows f b);
    }

pub rebuilt : (n E : ℕ) (l : List Entry) → Rebuilt n (run n E (fresh n) l)
rebuilt n E l = run_keeps (Rebuilt n) n E (rebuilt_step n E) (fresh n) l (record {
  size = length-replicate n [];
  follows = λ f o p. rw (history_fresh n p);
})

-- ---- a list whose calls end as those of f are goes the way of f

module _ (n E : ℕ) (f : State) (own : Follows f f) where
  older_calls : (s : State) → Follows s f → ((q : ℕ) → Older (calls (history s q)) (calls (history f q))) → Before s f
  older_calls s h o q = subst₂ Older (sym (h q)) (sym (own q)) (rebuild_older f (o q))

  reverse_older : (xs r : List Call) → Older r (reverse_aux xs r)
  reverse_older [] r = same
  reverse_older (x ∷ xs) r = older_trans (newer same) (reverse_older xs (x ∷ r))

  follow_after : (s : State) (e : Entry) → length s ≡ n → Before s f → Follows s f → Follows (after n E s e) f
  follow_after s (entry p call area) size o h = go (test (accepts n E s (entry p call area)))
    where
      go : Test (accepts n E s (entry p call area)) → Follows (after n E s (entry p call area)) f
      go (passes e) = rw e (follows_step n E s f p call size (accepts_met n E s p call area e) o h)
      go (fails e) = rw e h

  follow : (l : List Entry) (s : State) → length s ≡ n → ((q : ℕ) → calls (history (run n E s l) q) ≡ calls (history f q)) → Follows s f → Follows (run n E s l) f
  follow [] s size c h = h
  follow (e ∷ l) s size c h =
      let o : Before s f =
      older_calls s h (λ q. subst (Older (calls (history s q))) (sym (run_calls n E (e ∷ l) s q size) ∙ c q)
      (reverse_older (accepted q n E s (e ∷ l)) (calls (history s q))))
      in
      follow l (after n E s e) (after_length n E s e ∙ size) c (follow_after s e size o h)

-- ---- two lists

reverse_same : (xs ys : List Call) → reverse xs ≡ reverse ys → xs ≡ ys
reverse_same xs ys e = sym (reverse-reverse xs) ∙ ap reverse e ∙ reverse-reverse ys

module _ (n E : ℕ) (l₁ l₂ : List Entry) where
  abbrev s₁ : State
  s₁ = run n E (fresh n) l₁

  abbrev s₂ : State
  s₂ = run n E (fresh n) l₂

  beyond : (l : List Entry) (q : ℕ) → n ≤ q → history (run n E (fresh n) l) q ≡ []
  beyond l q le =
      let z = run_length n E (fresh n) l in
      let y : length (fresh n) ≡ n = length-replicate n [] in
      get_or-eq_default (run n E (fresh n) l) [] (omega arith)

  same_calls : ((p : ℕ) → p < n → accepted p n E (fresh n) l₁ ≡ accepted p n E (fresh n) l₂) → (q : ℕ) → calls (history s₁ q) ≡ calls (history s₂ q)
  same_calls h q = go (test (leb n q))
    where
      go : Test (leb n q) → calls (history s₁ q) ≡ calls (history s₂ q)
      go (passes e) = ap calls (beyond l₁ q (leb-true n q e) ∙ sym (beyond l₂ q (leb-true n q e)))
      go (fails e) = fresh_calls n E l₁ q ∙ ap reverse (h q (leb-false n q e)) ∙ sym (fresh_calls n E l₂ q)

  same_history : ((p : ℕ) → p < n → accepted p n E (fresh n) l₁ ≡ accepted p n E (fresh n) l₂) → (q : ℕ) → history s₁ q ≡ history s₂ q
  same_history h q =
      let own : Follows s₂ s₂ = (rebuilt n E l₂).follows s₂ (λ p. same) in
      follow n E s₂ own l₁ (fresh n) (length-replicate n []) (same_calls h) (λ p. rw (history_fresh n p)) q
      ∙ ap (rebuild s₂) (same_calls h q)
      ∙ sym (own q)

  pub same_state : (s₁ ≡ s₂) ↔ ((p : ℕ) → p < n → accepted p n E (fresh n) l₁ ≡ accepted p n E (fresh n) l₂)
  same_state = (
    λ e p lt. reverse_same _ _ (sym (fresh_calls n E l₁ p) ∙ ap (λ (s : State). calls (history s p)) e ∙ fresh_calls n E l₂ p),
    λ h. ext_get_or [] s₁ s₂ (run_length n E (fresh n) l₁ ∙ sym (run_length n E (fresh n) l₂)) (λ q lt. same_history h q),
  )
