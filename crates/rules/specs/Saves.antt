-- Document 02, slip 9: a cut that uses a checkpoint, and a search of all cuts for one.
use Rattle.std.specs.Prelude.{Bool, true, false, not, cond, ◌||◌, ◌&&◌, List, [], ◌∷◌, map, ℕ, zero, suc, eqb, length, get_or, set}
use Rattle.rules.specs.Records.{History, State, history, number}
use Rattle.rules.specs.Lines.{upto, part, orphan, numbered, position_or, permitted}
use Rattle.rules.specs.FailureLine.{any}

-- The cut through the checkpoint at place i of process p: p is there, and each other process is at its position in line N, or at its count
-- where it has none. N is the checkpoint's number. In a made state this cut has no orphan, which is what slip 9 asks for.
abbrev pub cut_through : State → ℕ → ℕ → List ℕ
cut_through s p i =
    let N = number (upto i (history s p)) in
    set (map (λ h. position_or (length h) (numbered N h)) s) p i

-- ---- tried: all cuts, which have each process at 0, 1, up to its count

-- a test holds for some number up to m
abbrev pub some_upto : (ℕ → Bool) → ℕ → Bool
some_upto f zero = f zero
some_upto f (suc m) = f (suc m) || some_upto f m

-- a test holds for some cut
abbrev pub some_cut : (List ℕ → Bool) → State → Bool
some_cut f [] = f []
some_cut f (h ∷ s) = some_upto (λ t. some_cut (λ cut. f (t ∷ cut)) s) (length h)

-- a test holds for all numbers below n
abbrev pub all_below : (ℕ → Bool) → ℕ → Bool
all_below f zero = true
all_below f (suc n) = f n && all_below f n

-- process q is at i if it is p, else where another may be, and none of its receipts is an orphan
abbrev pub fits : (History → ℕ → Bool) → State → ℕ → ℕ → List ℕ → ℕ → Bool
fits may s p i cut q =
    cond (eqb q p) (eqb (get_or cut q 0) i) (may (history s q) (get_or cut q 0)) && not (any (orphan s cut q) (part s cut q))

-- some cut without orphans has process p at i and each other process where it may be
abbrev pub has_cut : (History → ℕ → Bool) → State → ℕ → ℕ → Bool
has_cut may s p i = some_cut (λ cut. all_below (fits may s p i cut) (length s)) s

-- some cut uses the checkpoint at place i of process p
abbrev pub useful : State → ℕ → ℕ → Bool
useful s p i = has_cut (permitted false) s p i

-- some cut without orphans has process p at i, and the others anywhere
abbrev pub reached : State → ℕ → ℕ → Bool
reached s p i = has_cut (λ h t. true) s p i
