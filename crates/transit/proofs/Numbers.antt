-- How many the messages in transit may be, and how they are written.
use mathlib.Core.Path.{◌≡◌, refl, ap}
use mathlib.Core.Bool.{Bool, true, false, cond}
use mathlib.Core.List.{List, [], ◌∷◌, ◌++◌}
use Prim.Native.Nat.{ℕ, zero, suc, ◌+◌, ◌*◌, ◌≤◌, zero-le}
use native.Mathlib.Nat.{le_refl}
use native.Mathlib.Omega.{arith}
use lib.ListN.{length, length-append, get_or}
use Rattle.xdr.specs.Words.{put_words}
use Rattle.xdr.proofs.Puts.{put_append}
use Rattle.rules.specs.Records.{State, history, sends, destination}
use Rattle.rules.specs.Lines.{part}
use Rattle.rules.specs.Resend.{Message, message, got, unless_got, transit_of, transit_below, messages_words}
use Rattle.transit.specs.Transit.{sends_below}
use Rattle.records.proofs.Histories.{sends_older}
use Rattle.records.proofs.Cuts.{upto_is_older}

module _ (s : State) (cut : List ℕ) where
  of_length : (q k : ℕ) → length (transit_of s cut q k) ≤ k
  of_length q zero = zero-le
  of_length q (suc k) =
      let r = of_length q k in
      let l = length-append (transit_of s cut q k) (unless_got s cut q (suc k)) in
      let o = one (got s cut q (suc k)) in
      omega arith
    where
      one : (b : Bool) → length (cond b [] (message q (suc k) (destination (part s cut q) (suc k)) ∷ [])) ≤ 1
      one true = zero-le
      one false = omega arith

  -- no more than were sent
  pub transit_sends : (q : ℕ) → length (transit_below s cut q) ≤ sends_below s q
  transit_sends zero = zero-le
  transit_sends (suc q) =
      let r = transit_sends q in
      let l = length-append (transit_below s cut q) (transit_of s cut q (sends (part s cut q))) in
      let a = of_length q (sends (part s cut q)) in
      let b = sends_older (upto_is_older (get_or cut q 0) (history s q)) in
      omega arith

  -- the messages of those before are among all
  pub below_mono : (q x : ℕ) → length (transit_below s cut q) ≤ length (transit_below s cut (q + x))
  below_mono q zero = let e : q + 0 ≡ q = omega arith in rw e (le_refl (length (transit_below s cut q)))
  below_mono q (suc x) =
      let e : q + suc x ≡ suc (q + x) = omega arith in
      let r = below_mono q x in
      let l = length-append (transit_below s cut (q + x)) (transit_of s cut (q + x) (sends (part s cut (q + x)))) in
      rw e (omega arith)

-- ---- written

messages_length : (ms : List Message) → length (messages_words ms) ≡ 3 * length ms
messages_length [] = refl
messages_length (message q k p ∷ ms) = let r = messages_length ms in omega arith

messages_append : (ms ns : List Message) → messages_words (ms ++ ns) ≡ messages_words ms ++ messages_words ns
messages_append [] ns = refl
messages_append (message q k p ∷ ms) ns = ap (λ (l : List ℕ). q ∷ k ∷ p ∷ l) (messages_append ms ns)

-- more messages, behind those that are written
pub put_more : (a : List ℕ) (i : ℕ) {j : ℕ} (ms ns : List Message) → j ≡ i + 3 * length ms → {u v : List ℕ} → u ≡ put_words a i (messages_words ms)
    → v ≡ put_words u j (messages_words ns) → v ≡ put_words a i (messages_words (ms ++ ns))
put_more a i {j} ms ns e f g =
    let x : j ≡ i + length (messages_words ms) = (let l = messages_length ms in omega arith) in
    rw (g, f, messages_append ms ns) (put_append a i (messages_words ms) (messages_words ns) x)
