-- Document 01, "Lines", with document 02, slips 2 and 8: cuts, orphans, numbered lines and failure lines.
use Rattle.std.specs.Prelude.{◌≡◌, Bool, true, false, not, cond, ◌||◌, ◌&&◌, ℕ, zero, suc, ◌+◌, ◌^◌, ◌/◌, ◌%◌, ◌≤◌, ◌<◌, leb, ltb, eqb, length, get_or}
use mathlib.Core.List.{List, [], ◌∷◌, map, Memᴰ}
use Rattle.std.proofs.Math.Option.{Option, none, some}
use Rattle.rules.specs.Records.{Event, basic, forced, sent, received, History, State, history, has_send}

-- ---- cuts

-- the first t records of a history
abbrev pub upto : ℕ → History → History
upto t [] = []
upto t (e ∷ h) = cond (leb (suc (length h)) t) (e ∷ h) (upto t h)

-- A cut is a list of positions, one for each process. What of process p has happened in it:
abbrev pub part : State → List ℕ → ℕ → History
part s cut p = upto (get_or cut p 0) (history s p)

-- A record of process p is an orphan: it is a receipt, and the cut of its sender doesn't hold that send with p as its destination.
abbrev pub orphan : State → List ℕ → ℕ → Event → Bool
orphan s cut p (basic m) = false
orphan s cut p (forced m) = false
orphan s cut p (sent q) = false
orphan s cut p (received q k c) = not (has_send (part s cut q) p k)

-- no receipt inside the cut is an orphan
abbrev pub NoOrphan : State → List ℕ → Type 0
NoOrphan s cut = (p : ℕ) (e : Event) → Memᴰ e (part s cut p) → orphan s cut p e ≡ false

-- ---- numbered lines

-- the record is a checkpoint with a number of N or more
abbrev pub at_least : ℕ → Event → Bool
at_least N (basic m) = leb N m
at_least N (forced m) = leb N m
at_least N (sent q) = false
at_least N (received q k c) = false

-- the first of two positions that is there
abbrev pub or_else : Option ℕ → Option ℕ → Option ℕ
or_else (some t) o = some t
or_else none o = o

-- the position of the first checkpoint with a number of N or more, the initial checkpoint included, whose number is 0
abbrev pub numbered : ℕ → History → Option ℕ
numbered N [] = cond (leb N 0) (some 0) none
numbered N (e ∷ h) = or_else (numbered N h) (cond (at_least N e) (some (suc (length h))) none)

abbrev pub is_none : Option ℕ → Bool
is_none (some t) = false
is_none none = true

-- some process has no saved checkpoint of that number or more
abbrev pub lacking : ℕ → State → Bool
lacking N [] = false
lacking N (h ∷ s) = is_none (numbered N h) || lacking N s

-- the position that is there, else d
abbrev pub position_or : ℕ → Option ℕ → ℕ
position_or d (some t) = t
position_or d none = d

-- the positions of line N, which is refused where a process has none
abbrev pub numbered_line : ℕ → State → List ℕ
numbered_line N s = map (λ h. position_or 0 (numbered N h)) s

-- ---- failure lines

-- bit p of the mask is set: process p failed
abbrev pub failed : ℕ → ℕ → Bool
failed mask p = eqb (mask / 2 ^ p % 2) 1

abbrev pub is_checkpoint : Event → Bool
is_checkpoint (basic m) = true
is_checkpoint (forced m) = true
is_checkpoint (sent q) = false
is_checkpoint (received q k c) = false

-- position t is saved: it is 0, or a checkpoint's
abbrev pub saved : History → ℕ → Bool
saved [] t = eqb t 0
saved (e ∷ h) t = cond (eqb t (suc (length h))) (is_checkpoint e) (saved h t)

-- a failed process may be at 0 or a checkpoint; another may also be at its count
abbrev pub permitted : Bool → History → ℕ → Bool
permitted down h t = saved h t || (not down && eqb t (length h))

pub record Permitted (mask : ℕ) (s : State) (cut : List ℕ) : Type 0 where
  pub size : length cut ≡ length s
  pub each : (p : ℕ) → p < length s → permitted (failed mask p) (history s p) (get_or cut p 0) ≡ true

-- The failure line, as document 01 says it: of all permitted cuts without orphans, the one that is at least as late as each of
-- the others at every process.
pub record IsFailureLine (mask : ℕ) (s : State) (cut : List ℕ) : Type 0 where
  pub permit : Permitted mask s cut
  pub clean : NoOrphan s cut
  pub latest : (other : List ℕ) → Permitted mask s other → NoOrphan s other → (p : ℕ) → p < length s → get_or other p 0 ≤ get_or cut p 0

-- ---- going back

-- a process goes back when it has failed (`down`) or its position t is below its count
abbrev pub goes_back : Bool → History → ℕ → Bool
goes_back down h t = down || ltb t (length h)

-- process p goes back, at this cut, where those of the mask failed
abbrev pub goes_back_at : ℕ → State → List ℕ → ℕ → Bool
goes_back_at mask s cut p = goes_back (failed mask p) (history s p) (get_or cut p 0)

-- the mask that has the bits below p for which a test holds
abbrev pub mask_below : (ℕ → Bool) → ℕ → ℕ
mask_below f zero = 0
mask_below f (suc p) = mask_below f p + cond (f p) (2 ^ p) 0

-- the mask of the processes that go back
abbrev pub back_mask : ℕ → State → List ℕ → ℕ
back_mask mask s cut = mask_below (goes_back_at mask s cut) (length s)
