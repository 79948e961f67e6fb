-- What holds of every state that a list of calls makes: sizes, numbers that never fall, receipts with their sends, each once, and no
-- checkpoint behind a receipt that carried its number or more.
use mathlib.Core.Path.{◌≡◌, refl, sym, ◌∙◌, subst}
use mathlib.Core.Logic.{◌≢◌, ◌⊎◌, inl, inr}
use mathlib.Core.Bool.{Bool, true, false, cond}
use mathlib.Core.List.{List, [], ◌∷◌, ◌++◌, map}
use Prim.Native.Nat.{ℕ, zero, suc, ◌+◌, ◌*◌, ◌≤◌, ◌<◌, zero-le}
use native.Mathlib.Nat.{le_refl, le_trans, suc-mul, not-suc-le-zero, le_of_suc-le-suc}
use native.Mathlib.Omega.{arith}
use lib.Dec.{eqb, ltb, leb}
use lib.ListN.{length, set, length-set, length-replicate}
use borrow.Author.Tests.{ltb-true, ltb-false, leb-false, eqb-true}
use Rattle.rules.specs.Records.{Event, basic, forced, sent, received, History, State, history, number, sends, carried, has_send, has_receipt}
use Rattle.rules.specs.Table.{fresh}
use Rattle.rules.specs.Steps.{Call, checkpoint, send, receipt, forces, carries, grown, stepped}
use Rattle.rules.specs.FailureLine.{sum}
use Rattle.rules.specs.Calls.{Row, row, first, step_rows}
use Rattle.rules.specs.Lists.{Entry, entry, check, after, run}
use Rattle.basics.proofs.Older.{older_length}
use Rattle.basics.proofs.Booleans.{Test, passes, fails, test}
use Rattle.records.proofs.Histories.{holds_older, Each, each_all, Rising}
use Rattle.records.proofs.Receipts.{Source, Sourced, source_later, SavedFirst, grown_saved_first}
use Rattle.records.proofs.Steps.{Accepted, run_keeps, after_keeps, history_fresh, each_step, grown_older, grown_length, stepped_older, carries_later}

-- ---- sends and receipts name another process

abbrev pub Name : ℕ → ℕ → Event → History → Type 0
Name n p (basic m) h = Unit {0}
Name n p (forced m) h = Unit {0}
Name n p (sent q) h = (q < n) × (q ≢ p)
Name n p (received q k c) h = (q < n) × (q ≢ p)

grown_named : (n E : ℕ) (s : State) (p : ℕ) (call : Call) → Accepted n E s p call → (h : History) (c : ℕ) → Each (Name n p) h → Each (Name n p) (grown h call c)
grown_named n E s p checkpoint A h c N = (tt, N)
grown_named n E s p (send q) A h c N = ((A.message.0, A.message.1), N)
grown_named n E s p (receipt q k) A h c N = ((A.message.0, A.message.1), go (forces h c))
  where
    go : (b : Bool) → Each (Name n p) ((cond b (forced c ∷ []) [] ++ h))
    go true = (tt, N)
    go false = N

-- ---- no receipt twice

abbrev pub New : Event → History → Type 0
New (basic m) h = Unit {0}
New (forced m) h = Unit {0}
New (sent q) h = Unit {0}
New (received q k c) h = has_receipt h q k ≡ false

-- by row 8
grown_new : (n E : ℕ) (s : State) (p : ℕ) (call : Call) → Accepted n E s p call → (c : ℕ) → Each New (history s p) → Each New (grown (history s p) call c)
grown_new n E s p checkpoint A c N = (tt, N)
grown_new n E s p (send q) A c N = (tt, N)
grown_new n E s p (receipt q k) A c N = go (forces (history s p) c)
  where
    go : (b : Bool) → Each New (received q k c ∷ (cond b (forced c ∷ []) [] ++ history s p))
    go true = (A.message.3, (tt, N))
    go false = (A.message.3, N)

-- ---- the number carried is at most the sender's number

pub carried_le : (h : History) (k : ℕ) → Rising h → carried h k ≤ number h
carried_le [] k r = zero-le
carried_le (basic m ∷ h) k r = le_trans (carried_le h k r.1) r.0
carried_le (forced m ∷ h) k r = le_trans (carried_le h k r.1) r.0
carried_le (received q j c ∷ h) k r = carried_le h k r.1
carried_le (sent q ∷ h) k r = go (eqb k (suc (sends h))) (carried_le h k r.1)
  where
    go : (b : Bool) → carried h k ≤ number h → cond b (number h) (carried h k) ≤ number h
    go true l = le_refl (number h)
    go false l = l

-- ---- how many records there are in all

unfoldable pub total : State → ℕ
total s = sum (map length s)

pub total_set : (s : State) (p : ℕ) (g : History) → p < length s → total (set s p g) + length (history s p) ≡ total s + length g
unfolding total
total_set [] p g lt = absurd (not-suc-le-zero lt)
total_set (h ∷ s) zero g lt = omega arith
total_set (h ∷ s) (suc p) g lt = let r = total_set s p g (le_of_suc-le-suc lt) in omega arith

total_le : (s : State) (E : ℕ) → ((p : ℕ) → length (history s p) ≤ E) → total s ≤ length s * E
unfolding total
total_le [] E h = zero-le
total_le (x ∷ s) E h =
    let r = total_le s E (λ p. h (suc p)) in
    let a = h 0 in
    omega (arith, suc-mul (length s) E)

-- ---- the invariant

-- what every state has that a list of calls makes
pub record Sound (n E : ℕ) (s : State) : Type 0 where
  pub size : length s ≡ n
  pub short : (p : ℕ) → length (history s p) ≤ E
  pub rising : (p : ℕ) → Rising (history s p)
  pub sourced : (p : ℕ) → Sourced s p (history s p)
  pub saved_first : (p : ℕ) → Each SavedFirst (history s p)
  pub named : (p : ℕ) → Each (Name n p) (history s p)
  pub single : (p : ℕ) → Each New (history s p)
  pub bounded : (p : ℕ) → number (history s p) ≤ total s

grown_rising : (h : History) (call : Call) (c : ℕ) → Rising h → Rising (grown h call c)
grown_rising h checkpoint c r = (omega arith, r)
grown_rising h (send q) c r = (le_refl (number h), r)
grown_rising h (receipt q k) c r = go (test (forces h c))
  where
    go : Test (forces h c) → Rising (received q k c ∷ (cond (forces h c) (forced c ∷ []) [] ++ h))
    go (passes e) = rw e (le_refl c, (let l = ltb-true (number h) c e in omega arith, r))
    go (fails e) = rw e (le_refl (number h), r)

grown_sourced : (f : State) (p : ℕ) (h : History) (call : Call) (c : ℕ) → carries f call ≡ c
    → ((q k : ℕ) → call ≡ receipt q k → has_send (history f q) p k ≡ true) → Sourced f p h → Sourced f p (grown h call c)
grown_sourced f p h checkpoint c x m S = (tt, S)
grown_sourced f p h (send q) c x m S = (tt, S)
grown_sourced f p h (receipt q k) c x m S = go (test (forces h c))
  where
    go : Test (forces h c) → Sourced f p (received q k c ∷ (cond (forces h c) (forced c ∷ []) [] ++ h))
    go (passes e) = rw e ((m q k refl, sym x, le_refl c), (tt, S))
    go (fails e) = rw e ((m q k refl, sym x, ltb-false (number h) c e), S)

grown_number : (h : History) (call : Call) (c t : ℕ) → number h ≤ t → c ≤ t → number (grown h call c) + length h ≤ t + length (grown h call c)
grown_number h checkpoint c t a b = omega arith
grown_number h (send q) c t a b = omega arith
grown_number h (receipt q k) c t a b = go (forces h c)
  where
    go : (x : Bool) → number ((cond x (forced c ∷ []) [] ++ h)) + length h ≤ t + suc (length ((cond x (forced c ∷ []) [] ++ h)))
    go true = omega arith
    go false = omega arith

carries_le : (n E : ℕ) (s : State) → Sound n E s → (call : Call) → carries s call ≤ total s
carries_le n E s M checkpoint = zero-le
carries_le n E s M (send q) = zero-le
carries_le n E s M (receipt q k) = le_trans (carried_le (history s q) k (M.rising q)) (M.bounded q)

message_held : (n E : ℕ) (s : State) (p : ℕ) (call : Call) → Accepted n E s p call → (q k : ℕ) → call ≡ receipt q k → has_send (history s q) p k ≡ true
message_held n E s p checkpoint A q k e = absurd (let z : ◌≡◌ {A = ℕ} 0 1 = cc in omega arith)
message_held n E s p (send r) A q k e = absurd (let z : ◌≡◌ {A = ℕ} 0 1 = cc in omega arith)
message_held n E s p (receipt r j) A q k e =
    let a : r ≡ q = cc in
    let b : j ≡ k = cc in
    rw (← a, ← b) A.message.2

pub made_step : (n E : ℕ) (s : State) (p : ℕ) (call : Call) → Sound n E s → Accepted n E s p call → Sound n E (stepped s p call)
made_step n E s p call M A =
    let w = A.within in
    let z = M.size in
    let h = history s p in
    let c = carries s call in
    let g = grown h call c in
    let f = stepped s p call in
    let lt : p < length s = omega arith in
    let o = stepped_older s p call lt in
    let len = grown_length h call c in
    let t = total_set s p g lt in
    let longer = older_length (grown_older h call c) in
    record {
      size = length-set s p g ∙ z;
      short = each_step (λ (r : ℕ) (x : History). length x ≤ E) s p g lt (rw len A.free) (λ r ne. M.short r);
      rising = each_step (λ (r : ℕ) (x : History). Rising x) s p g lt (grown_rising h call c (M.rising p)) (λ r ne. M.rising r);
      sourced = each_step (λ (r : ℕ) (x : History). Sourced f r x) s p g lt
          (grown_sourced f p h call c (carries_later n E s f p call A o)
          (λ q k e. holds_older (o q) p k (message_held n E s p call A q k e)) (each_all (Source s p) (Source f p) (source_later s f o p) h (M.sourced p)))
          (λ r ne. each_all (Source s r) (Source f r) (source_later s f o r) (history s r) (M.sourced r));
      saved_first = each_step (λ (r : ℕ) (x : History). Each SavedFirst x) s p g lt (grown_saved_first s p h call c (M.rising p) (M.sourced p) (M.saved_first p)) (λ r ne. M.saved_first r);
      named = each_step (λ (r : ℕ) (x : History). Each (Name n r) x) s p g lt (grown_named n E s p call A h c (M.named p)) (λ r ne. M.named r);
      single = each_step (λ (r : ℕ) (x : History). Each New x) s p g lt (grown_new n E s p call A c (M.single p)) (λ r ne. M.single r);
      bounded = each_step (λ (r : ℕ) (x : History). number x ≤ total f) s p g lt
          (let a = grown_number h call c (total s) (M.bounded p) (carries_le n E s M call) in omega arith)
          (λ r ne. let a = M.bounded r in omega arith);
    }

pub made_fresh : (n E : ℕ) → Sound n E (fresh n)
made_fresh n E =
    record {
      size = length-replicate n [];
      short = λ p. rw (history_fresh n p) zero-le;
      rising = λ p. rw (history_fresh n p) tt;
      sourced = λ p. rw (history_fresh n p) tt;
      saved_first = λ p. rw (history_fresh n p) tt;
      named = λ p. rw (history_fresh n p) tt;
      single = λ p. rw (history_fresh n p) tt;
      bounded = λ p. rw (history_fresh n p) zero-le;
    }

pub made_after : (n E : ℕ) (s : State) (e : Entry) → Sound n E s → Sound n E (after n E s e)
made_after n E s e M = after_keeps (Sound n E) n E (made_step n E) s e M

pub made : (n E : ℕ) (l : List Entry) → Sound n E (run n E (fresh n) l)
made n E l = run_keeps (Sound n E) n E (made_step n E) (fresh n) l (made_fresh n E)

-- ---- no number is above n × E, and row 10 is never met

pub number_le : (n E : ℕ) (s : State) → Sound n E s → (p : ℕ) → number (history s p) ≤ n * E
number_le n E s M p = le_trans (M.bounded p) (subst (λ (m : ℕ). total s ≤ m * E) M.size (total_le s E M.short))

-- a row with the number r is the first that is met
abbrev Meets : ℕ → List Row → Type 0
Meets r [] = ⊥
Meets r (row x m ∷ rs) = ((m ≡ true) × (x ≡ r)) ⊎ ((m ≡ false) × Meets r rs)

first_meets : (r : ℕ) (rs : List Row) → first rs ≡ suc r → Meets (suc r) rs
first_meets r [] e = absurd (omega arith)
first_meets r (row x true ∷ rs) e = inl (refl, e)
first_meets r (row x false ∷ rs) e = inr (refl, first_meets r rs e)

-- no row has the number 10
abbrev Lacks : List Row → Type 0
Lacks [] = Unit {0}
Lacks (row r m ∷ rs) = (r ≢ 10) × Lacks rs

not_there : (rs : List Row) → Lacks rs → Meets 10 rs → ⊥
not_there [] l m = m
not_there (row r b ∷ rs) l (inl y) = l.0 y.1
not_there (row r b ∷ rs) l (inr y) = not_there rs l.1 y.1

pub never_ten : (n E : ℕ) (s : State) (e : Entry) → Sound n E s → check n E s e ≢ 10
unfolding check
never_ten n E s (entry p checkpoint area) M x = step (first_meets 9 (step_rows n E s p checkpoint (length area)) x)
  where
    full : leb n p ≡ false → ltb E (length (history s p) + 1) ≡ false → eqb (number (history s p)) (n * E) ≡ true → ⊥
    full a b c =
        let w = leb-false n p a in
        let room = ltb-false E (length (history s p) + 1) b in
        let is = eqb-true (number (history s p)) (n * E) c in
        let z = M.size in
        let lt : p < length s = omega arith in
        let f = set s p (grown (history s p) checkpoint 0) in
        let t = total_set s p (grown (history s p) checkpoint 0) lt in
        let up = total_le f E (each_step (λ (r : ℕ) (y : History). length y ≤ E) s p (grown (history s p) checkpoint 0) lt (omega arith) (λ r ne. M.short r)) in
        let size : length f ≡ n = length-set s p _ ∙ z in
        let up' : total f ≤ n * E = subst (λ (m : ℕ). total f ≤ m * E) size up in
        let b = M.bounded p in
        omega arith

    four : leb n p ≡ false → ltb E (length (history s p) + 1) ≡ false → Meets 10 (row 10 (eqb (number (history s p)) (n * E)) ∷ []) → ⊥
    four a b (inl y) = full a b y.0
    four a b (inr y) = y.1

    three : leb n p ≡ false → Meets 10 (row 9 (ltb E (length (history s p) + 1)) ∷ row 10 (eqb (number (history s p)) (n * E)) ∷ []) → ⊥
    three a (inl y) = let z = y.1 in omega arith
    three a (inr y) = four a y.0 y.1

    two : Meets 10 (row 5 (leb n p) ∷ row 9 (ltb E (length (history s p) + 1)) ∷ row 10 (eqb (number (history s p)) (n * E)) ∷ []) → ⊥
    two (inl y) = let z = y.1 in omega arith
    two (inr y) = three y.0 y.1

    step : Meets 10 (step_rows n E s p checkpoint (length area)) → ⊥
    step (inl y) = let z = y.1 in omega arith
    step (inr y) = two y.1
never_ten n E s (entry p (send q) area) M x = not_there (step_rows n E s p (send q) (length area)) (omega arith)
    (first_meets 9 (step_rows n E s p (send q) (length area)) x)
never_ten n E s (entry p (receipt q k) area) M x = not_there (step_rows n E s p (receipt q k) (length area)) (omega arith)
    (first_meets 9 (step_rows n E s p (receipt q k) (length area)) x)
