-- In a made state a cut that splits every history at one number has no orphan.
use mathlib.Core.Path.{◌≡◌, refl}
use mathlib.Core.Logic.{◌⊎◌, inl, inr}
use mathlib.Core.Bool.{true, false}
use mathlib.Core.List.Memᴰ
use mathlib.Core.List.{List, [], ◌∷◌, Memᴰ}
use Prim.Native.Nat.{ℕ, suc, ◌≤◌, ◌<◌}
use native.Mathlib.Omega.{arith}
use native.Mathlib.Decide.{dec_le}
use lib.ListN.{length, get_or}
use borrow.Author.Tests.{eq-eqb}
use Rattle.rules.specs.Records.{Event, basic, forced, sent, received, History, State, history, number, sends, carried, destination, has_send}
use Rattle.rules.specs.Lines.{part, orphan, NoOrphan}
use Rattle.basics.proofs.Older.{Older, same, newer, older_of, older_trans}
use Rattle.records.proofs.Histories.{Held, carried_at, holds_held, held_holds, holds_older, send_of, SendOf, Each, each_older, Rising, rising_older}
use Rattle.records.proofs.Receipts.{Source, Sourced, Less}
use Rattle.records.proofs.Made.{Sound}
use Rattle.records.proofs.Cuts.{upto_is_older}

-- What is kept of history h splits it at N: receipts in it carried less than N, and the number there is N or more, or nothing is behind it.
-- In a made state, where numbers don't fall, the sends behind it carry N or more then.
pub record Splits (N : ℕ) (h kept : History) : Type 0 where
  pub low : Each (Less N) kept
  pub high : (N ≤ number kept) ⊎ (kept ≡ h)

module _ (n E : ℕ) (s : State) (M : Sound n E s) (N : ℕ) (cut : List ℕ) (split : (p : ℕ) → Splits N (history s p) (part s cut p)) where
  -- a send that carried less than N is kept: behind the cut there is none
  send_kept : (p q k : ℕ) → has_send (history s q) p k ≡ true → carried (history s q) k < N → has_send (part s cut q) p k ≡ true
  send_kept p q k e lt = holds_older (kept (split q).high) p k (held_holds (sent to ∷ S.rest) p k held)
    where
      h : History
      h = history s q

      to : ℕ
      to = destination h k

      H : Held h p k
      H = holds_held h p k e

      S : SendOf h k
      S = send_of h k H.positive H.counted

      held : Held (sent to ∷ S.rest) p k
      held = let y = S.rank in record { positive = H.positive; counted = omega arith; to = rw (eq-eqb k (suc (sends S.rest)) y) H.to }

      inside : Older (part s cut q) h
      inside = upto_is_older (get_or cut q 0) h

      kept : (N ≤ number (part s cut q)) ⊎ (part s cut q ≡ h) → Older (sent to ∷ S.rest) (part s cut q)
      kept (inr x) = rw x S.there
      kept (inl l) = go (dec_le (suc (length S.rest)) (length (part s cut q)))
        where
          go : Dec (suc (length S.rest) ≤ length (part s cut q)) → Older (sent to ∷ S.rest) (part s cut q)
          go (yes y) = older_of S.there inside y
          go (no y) =
              let R : Rising (sent to ∷ S.rest) = each_older _ S.there (M.rising q) in
              let a = rising_older (older_of inside (older_trans (newer same) S.there) (omega arith)) R.1 in
              let b = carried_at S.there S.rank in
              absurd (omega arith)

  here : (p : ℕ) (e : Event) (h : History) → Source s p e h → Less N e h → orphan s cut p e ≡ false
  here p (basic m) h S l = refl
  here p (forced m) h S l = refl
  here p (sent q) h S l = refl
  here p (received q k c) h S l = let a = S.1 in rw (send_kept p q k S.0 (omega arith))

  clean_part : (p : ℕ) (h : History) → Sourced s p h → Each (Less N) h → (e : Event) → Memᴰ e h → orphan s cut p e ≡ false
  clean_part p [] S l e m = absurd (Memᴰ.not-nil m)
  clean_part p (x ∷ h) S l e (Memᴰ.head eq) = rw eq (here p x h S.0 l.0)
  clean_part p (x ∷ h) S l e (Memᴰ.tail m) = clean_part p h S.1 l.1 e m

  pub split_clean : NoOrphan s cut
  split_clean p e m =
      clean_part p (part s cut p) (each_older (Source s p) (upto_is_older (get_or cut p 0) (history s p)) (M.sourced p)) (split p).low e m
