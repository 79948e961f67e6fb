-- Every checkpoint of a made state is used by a cut without orphans.
use mathlib.Core.Path.{◌≡◌, refl, ap, ◌∙◌}
use mathlib.Core.Logic.{◌≢◌, inl}
use mathlib.Core.Bool.{true, false}
use mathlib.Core.List.{List, ◌∷◌, map}
use mathlib.Core.Option.{Option, none, some, none-ne-some}
use Prim.Native.Nat.{ℕ, ◌<◌}
use native.Mathlib.Nat.{le_refl}
use native.Mathlib.Omega.{arith}
use native.Mathlib.Decide.{ℕ_discrete, dec_lt}
use lib.Dec.{eqb}
use lib.ListN.{length, get_or, length-map, length-set}
use lib.Seq.{get_or-set_same, get_or-set_other}
use borrow.Author.Tests.{eq-eqb}
use Rattle.rules.specs.Records.{Event, basic, forced, sent, received, History, State, history, record_at, number}
use Rattle.rules.specs.Lines.{upto, part, NoOrphan, saved, is_checkpoint, permitted, numbered, position_or}
use Rattle.rules.specs.Saves.{cut_through}
use Rattle.basics.proofs.Older.{Older, same}
use Rattle.basics.proofs.Booleans.{clash, or_right}
use Rattle.records.proofs.Histories.{Found, found, Each, each_older}
use Rattle.records.proofs.Receipts.{Less, SavedFirst}
use Rattle.records.proofs.Made.{Sound}
use Rattle.records.proofs.Cuts.{upto_older}
use Rattle.records.proofs.FailureLines.{beyond}
use Rattle.records.proofs.Splits.{Splits, split_clean}
use Rattle.records.proofs.NumberedLines.{position, in_line, in_line_saved, in_line_splits, none_splits}

-- ---- where each process is

-- another process: its position in line N, or its count where it has none
abbrev other : ℕ → History → ℕ
other N h = position_or (length h) (numbered N h)

other_permitted : (N : ℕ) (h : History) → permitted false h (other N h) ≡ true
other_permitted N h = go (numbered N h) refl
  where
    go : (o : Option ℕ) → numbered N h ≡ o → permitted false h (position_or (length h) o) ≡ true
    go (some t) f = rw (in_line_saved (in_line N h t f))
    go none f = or_right (saved h (length h)) (eqb (length h) (length h)) (eq-eqb (length h) (length h) refl)

module _ (s : State) (p i : ℕ) where
  -- the checkpoint's number
  abbrev N : ℕ
  N = number (upto i (history s p))

  abbrev cut : List ℕ
  cut = cut_through s p i

  pub cut_size : length cut ≡ length s
  cut_size = length-set (map (other N) s) p i ∙ length-map s (other N)

  at_other : (q : ℕ) → q ≢ p → get_or cut q 0 ≡ other N (history s q)
  at_other q ne = get_or-set_other (map (other N) s) p q i 0 ne ∙ position length refl N s q

  pub cut_others : (q : ℕ) → q < length s → q ≢ p → permitted false (history s q) (get_or cut q 0) ≡ true
  cut_others q lt ne = rw (at_other q ne) (other_permitted N (history s q))

  module _ (e : Event) (at : record_at i (history s p) ≡ some e) where
    pub cut_here : get_or cut p 0 ≡ i
    cut_here = go (dec_lt p (length s))
      where
        go : Dec (p < length s) → get_or cut p 0 ≡ i
        go (yes lt) = get_or-set_same (map (other N) s) p i 0 (let l = length-map s (other N) in omega arith)
        go (no ge) = let z = beyond s p (omega arith) in absurd (none-ne-some e (rw z at at))

    -- ---- in a made state

    module _ (n E : ℕ) (M : Sound n E s) (is : is_checkpoint e ≡ true) where
      F : Found (history s p) e i
      F = found (history s p) e i at

      kept : upto i (history s p) ≡ e ∷ F.before
      kept = ap (λ (t : ℕ). upto t (history s p)) F.place ∙ upto_older F.there

      low : (x : Event) (h : History) → is_checkpoint x ≡ true → Each SavedFirst (x ∷ h) → Each (Less (number (x ∷ h))) (x ∷ h)
      low (basic m) h y S = (tt, S.0)
      low (forced m) h y S = (tt, S.0)
      low (sent q) h y S = clash false y refl
      low (received q k c) h y S = clash false y refl

      here_splits : Splits N (history s p) (upto i (history s p))
      here_splits =
          rw kept (record {
            low = low e F.before is (each_older SavedFirst F.there (M.saved_first p));
            high = inl (le_refl (number (e ∷ F.before)));
          })

      other_splits : (q : ℕ) → Splits N (history s q) (upto (other N (history s q)) (history s q))
      other_splits q = go (numbered N (history s q)) refl
        where
          h : History
          h = history s q

          go : (o : Option ℕ) → numbered N h ≡ o → Splits N h (upto (position_or (length h) o) h)
          go (some t) f = in_line_splits n E s M q (in_line N h t f)
          go none f = let o : Older h h = same in rw (upto_older o) (none_splits n E s M q f)

      pub cut_clean : NoOrphan s cut
      cut_clean = split_clean n E s M N cut (λ q. go q (ℕ_discrete q p))
        where
          go : (q : ℕ) → Dec (q ≡ p) → Splits N (history s q) (part s cut q)
          go q (yes y) = rw (y, cut_here) here_splits
          go q (no ne) = rw (at_other q ne) (other_splits q)
