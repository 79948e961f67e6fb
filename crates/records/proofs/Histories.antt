-- Laws of a history's number, sends and messages: what later records leave as it was.
use mathlib.Core.Path.{◌≡◌, refl, ◌∙◌}
use mathlib.Core.Bool.{true, ◌&&◌, and-eq-true_iff}
use mathlib.Core.List.{[], ◌∷◌}
use mathlib.Core.Option.{some, none-ne-some, some-injective}
use Prim.Native.Nat.{ℕ, suc, ◌≤◌, ◌<◌}
use native.Mathlib.Nat.{le_refl, le_trans}
use native.Mathlib.Omega.{arith}
use lib.Dec.{leb, ltb, eqb}
use lib.ListN.{length}
use borrow.Author.Tests.{ltb-true, leb-true, eqb-true, eqb-false, lt-ltb, le-leb, eq-eqb, ne_eqb}
use Rattle.rules.specs.Records.{Event, basic, forced, sent, received, History, record_at, number, sends, of_send, carried, destination, has_send}
use Rattle.basics.proofs.Older.{Older, same, newer, older_length}
use Rattle.basics.proofs.Booleans.{Test, passes, fails, test}

-- ---- a record and its place

pub at_older : {e : Event} {g h : History} → Older (e ∷ g) h → record_at (suc (length g)) h ≡ some e
at_older {g} same = rw (eq-eqb (suc (length g)) (suc (length g)) refl)
at_older {g} (newer {g = x} o) = let l = older_length o in rw (ne_eqb (suc (length g)) (suc (length x)) (omega arith)) (at_older o)

-- a record that is at place i, with those before it
pub record Found (h : History) (e : Event) (i : ℕ) : Type 0 where
  pub before : History
  pub there : Older (e ∷ before) h
  pub place : i ≡ suc (length before)

found_later : {h : History} {e x : Event} {i : ℕ} → Found h e i → Found (x ∷ h) e i
found_later F = record { before = F.before; there = newer F.there; place = F.place }

pub found : (h : History) (e : Event) (i : ℕ) → record_at i h ≡ some e → Found h e i
found [] e i a = absurd (none-ne-some e a)
found (x ∷ h) e i a = go (test (eqb i (suc (length h)))) (found h e i)
  where
    go : Test (eqb i (suc (length h))) → (record_at i h ≡ some e → Found h e i) → Found (x ∷ h) e i
    go (passes p) r =
        let same_event : x ≡ e = some-injective x e (rw p at a) in
        record { before = h; there = rw same_event same; place = eqb-true i (suc (length h)) p }
    go (fails p) r = found_later (r (rw p at a))

-- ---- sends

sends_cons : (e : Event) (h : History) → sends h ≤ sends (e ∷ h)
sends_cons (basic m) h = le_refl (sends h)
sends_cons (forced m) h = le_refl (sends h)
sends_cons (sent q) h = omega arith
sends_cons (received q k c) h = le_refl (sends h)

pub sends_older : {h g : History} → Older h g → sends h ≤ sends g
sends_older {h} same = le_refl (sends h)
sends_older (newer {e} {g} o) = le_trans (sends_older o) (sends_cons e g)

-- what is asked of the k-th send stays what it was
module _ (f : History → ℕ → ℕ) where
  of_send_cons : (e : Event) (h : History) (k : ℕ) → k ≤ sends h → of_send f (e ∷ h) k ≡ of_send f h k
  of_send_cons (basic m) h k le = refl
  of_send_cons (forced m) h k le = refl
  of_send_cons (sent q) h k le = rw (ne_eqb k (suc (sends h)) (omega arith))
  of_send_cons (received q j c) h k le = refl

  of_send_older : {h g : History} → Older h g → (k : ℕ) → k ≤ sends h → of_send f g k ≡ of_send f h k
  of_send_older same k le = refl
  of_send_older (newer {e} {g} o) k le = of_send_cons e g k (le_trans le (sends_older o)) ∙ of_send_older o k le

  -- of a send that is there with the records before it
  pub of_send_at : {q : ℕ} {before h : History} → Older (sent q ∷ before) h → {k : ℕ} → k ≡ suc (sends before) → of_send f h k ≡ f before q
  of_send_at {before} o {k} e = of_send_older o k (omega arith) ∙ rw (eq-eqb k (suc (sends before)) e)

pub carried_older : {h g : History} → Older h g → (k : ℕ) → k ≤ sends h → carried g k ≡ carried h k
carried_older = of_send_older (λ before q. number before)

pub carried_at : {q : ℕ} {before h : History} → Older (sent q ∷ before) h → {k : ℕ} → k ≡ suc (sends before) → carried h k ≡ number before
carried_at = of_send_at (λ before q. number before)

pub destination_older : {h g : History} → Older h g → (k : ℕ) → k ≤ sends h → destination g k ≡ destination h k
destination_older = of_send_older (λ before q. q)

-- ---- a message that is held

pub record Held (h : History) (p k : ℕ) : Type 0 where
  pub positive : 0 < k
  pub counted : k ≤ sends h
  pub to : destination h k ≡ p

pub holds_held : (h : History) (p k : ℕ) → has_send h p k ≡ true → Held h p k
holds_held h p k e =
    let a = (and-eq-true_iff (ltb 0 k && leb k (sends h)) (eqb (destination h k) p)).0 e in
    let b = (and-eq-true_iff (ltb 0 k) (leb k (sends h))).0 a.0 in
    record { positive = ltb-true 0 k b.0; counted = leb-true k (sends h) b.1; to = eqb-true (destination h k) p a.1 }

pub held_holds : (h : History) (p k : ℕ) → Held h p k → has_send h p k ≡ true
held_holds h p k H = rw (lt-ltb 0 k H.positive, le-leb k (sends h) H.counted, eq-eqb (destination h k) p H.to)

-- a send that is held stays held
pub holds_older : {h g : History} → Older h g → (p k : ℕ) → has_send h p k ≡ true → has_send g p k ≡ true
holds_older {h} {g} o p k e =
    let H = holds_held h p k e in
    held_holds g p k (record {
      positive = H.positive;
      counted = le_trans H.counted (sends_older o);
      to = destination_older o k H.counted ∙ H.to;
    })

-- ---- the k-th send, with what was before it

pub record SendOf (h : History) (k : ℕ) : Type 0 where
  pub rest : History
  pub there : Older (sent (destination h k) ∷ rest) h
  pub rank : k ≡ suc (sends rest)

abbrev send_later : (e : Event) (h : History) (k : ℕ) → k ≤ sends h → SendOf h k → SendOf (e ∷ h) k
send_later e h k le S =
    record { rest = S.rest; there = rw (of_send_cons (λ before q. q) e h k le) (newer S.there); rank = S.rank }

pub send_of : (h : History) (k : ℕ) → 0 < k → k ≤ sends h → SendOf h k
send_of [] k pos le = absurd (omega arith)
send_of (basic m ∷ h) k pos le = send_later (basic m) h k le (send_of h k pos le)
send_of (forced m ∷ h) k pos le = send_later (forced m) h k le (send_of h k pos le)
send_of (received q j c ∷ h) k pos le = send_later (received q j c) h k le (send_of h k pos le)
send_of (sent q ∷ h) k pos le = go (test (eqb k (suc (sends h)))) (send_of h k pos)
  where
    go : Test (eqb k (suc (sends h))) → (k ≤ sends h → SendOf h k) → SendOf (sent q ∷ h) k
    go (passes e) r = record { rest = h; there = rw e same; rank = eqb-true k (suc (sends h)) e }
    go (fails e) r =
        let ne = eqb-false k (suc (sends h)) e in
        let l : k ≤ sends h = omega arith in
        send_later (sent q) h k l (r l)

-- ---- what holds of each record, with those before it

abbrev pub Each : (Event → History → Type 0) → History → Type 0
Each P [] = Unit {0}
Each P (e ∷ h) = P e h × Each P h

pub each_older : (P : Event → History → Type 0) {h g : History} → Older h g → Each P g → Each P h
each_older P same r = r
each_older P (newer o) r = each_older P o r.1

pub each_all : (P Q : Event → History → Type 0) → ((e : Event) (h : History) → P e h → Q e h) → (h : History) → Each P h → Each Q h
each_all P Q f [] r = tt
each_all P Q f (e ∷ h) r = (f e h r.0, each_all P Q f h r.1)

-- ---- numbers never fall

abbrev pub Rising : History → Type 0
Rising = Each (λ (e : Event) (h : History). number h ≤ number (e ∷ h))

pub rising_older : {h g : History} → Older h g → Rising g → number h ≤ number g
rising_older {h} same r = le_refl (number h)
rising_older (newer o) r = le_trans (rising_older o r.1) r.0
