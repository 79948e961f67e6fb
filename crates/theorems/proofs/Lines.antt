-- Slip 8: which numbered lines there are: the theorems stated in specs/Lines.antt.
use mathlib.Core.Path.{◌≡◌, refl, sym, ap, ◌∙◌}
use mathlib.Core.Bool.{Bool, true, false, not, cond, ◌&&◌, ◌||◌, and-true, or-false}
use mathlib.Core.List.{List, [], ◌∷◌}
use mathlib.Core.Option.{Option, none, some}
use Prim.Native.Nat.{ℕ, suc, ◌+◌, ◌*◌, ◌≤◌, ◌<◌, min, max}
use native.Mathlib.Omega.{arith}
use lib.Dec.{leb, ltb}
use lib.ListN.{length, replicate}
use borrow.Author.Tests.{leb-true, leb-false, ltb-true, ltb-false, le-ltb, lt-ltb, not-false}
use Rattle.xdr.specs.Words.{word, bytes}
use Rattle.rules.specs.Records.{basic, forced, sent, received, History, State, history, number}
use Rattle.rules.specs.Table.{in_range, start, decoded}
use Rattle.rules.specs.Lines.{or_else, numbered, is_none, lacking, numbered_line}
use Rattle.rules.specs.Calls.{outcome, first, table_rows, line_on}
use Rattle.theorems.specs.Lines.{largest, last_line, Line, WhichLines, MadeLines}
use Rattle.basics.proofs.Booleans.{Test, passes, fails, test}
use Rattle.records.proofs.Histories.{Rising}
use Rattle.records.proofs.Rows.{NoneMet, none_met}
use Rattle.records.proofs.NumberedLines.{numbered_zero, all_in_line, in_line_saved, in_line_enough, in_line_before}
use Rattle.tables.proofs.WellLaid.{decoded_count}
use Rattle.tables.proofs.Laid.{layout_number}
use Rattle.tables.proofs.Ranges.{in_range_lem}
use Rattle.runs.proofs.Ways.{sound}
use Rattle.theorems.proofs.Demand3.{line_outcome, made_holds}

-- ---- one process

none_or : (o : Option ℕ) (b : Bool) (x : ℕ) → is_none (or_else o (cond b (some x) none)) ≡ (is_none o && not b)
none_or (some t) b x = refl
none_or none true x = refl
none_or none false x = refl

-- the larger of two numbers is below N when both are
below_max : (N m l : ℕ) → (ltb l N && not (leb N m)) ≡ ltb (max m l) N
below_max N m l = go (test (ltb l N)) (test (leb N m))
  where
    go : Test (ltb l N) → Test (leb N m) → (ltb l N && not (leb N m)) ≡ ltb (max m l) N
    go (fails x) y = let a = ltb-false l N x in rw x (sym (le-ltb (max m l) N (omega arith)))
    go (passes x) (passes y) = let a = leb-true N m y in rw (x, y) (sym (le-ltb (max m l) N (omega arith)))
    go (passes x) (fails y) = let a = ltb-true l N x in let b = leb-false N m y in rw (x, y) (sym (lt-ltb (max m l) N (omega arith)))

-- the smaller of two numbers is below N when one of them is
below_min : (N m l : ℕ) → (ltb m N || ltb l N) ≡ ltb (min m l) N
below_min N m l = go (test (ltb m N)) (test (ltb l N))
  where
    go : Test (ltb m N) → Test (ltb l N) → (ltb m N || ltb l N) ≡ ltb (min m l) N
    go (passes x) y = let a = ltb-true m N x in rw x (sym (lt-ltb (min m l) N (omega arith)))
    go (fails x) (passes y) = let a = ltb-true l N y in rw (x, y) (sym (lt-ltb (min m l) N (omega arith)))
    go (fails x) (fails y) = let a = ltb-false m N x in let b = ltb-false l N y in rw (x, y) (sym (le-ltb (min m l) N (omega arith)))

-- it lacks such a checkpoint where its largest number is smaller
none_largest : (N : ℕ) (h : History) → is_none (numbered N h) ≡ ltb (largest h) N
none_largest N [] = go (test (leb N 0))
  where
    go : Test (leb N 0) → is_none (cond (leb N 0) (some 0) none) ≡ ltb 0 N
    go (passes y) = rw (y, le-ltb 0 N (leb-true N 0 y))
    go (fails y) = rw (y, lt-ltb 0 N (leb-false N 0 y))
none_largest N (basic m ∷ h) = none_or (numbered N h) (leb N m) (suc (length h)) ∙ rw (none_largest N h) (below_max N m (largest h))
none_largest N (forced m ∷ h) = none_or (numbered N h) (leb N m) (suc (length h)) ∙ rw (none_largest N h) (below_max N m (largest h))
none_largest N (sent q ∷ h) = none_or (numbered N h) false (suc (length h)) ∙ and-true (is_none (numbered N h)) ∙ none_largest N h
none_largest N (received q k c ∷ h) = none_or (numbered N h) false (suc (length h)) ∙ and-true (is_none (numbered N h)) ∙ none_largest N h

-- where numbers don't fall, the largest is the last
rising_largest : (h : History) → Rising h → largest h ≡ number h
rising_largest [] r = refl
rising_largest (basic m ∷ h) r = let a = rising_largest h r.1 in let b = r.0 in omega arith
rising_largest (forced m ∷ h) r = let a = rising_largest h r.1 in let b = r.0 in omega arith
rising_largest (sent q ∷ h) r = rising_largest h r.1
rising_largest (received q k c ∷ h) r = rising_largest h r.1

-- ---- all processes

lacks_above : (N : ℕ) (s : State) → 0 < length s → lacking N s ≡ ltb (last_line s) N
lacks_above N [] lt = absurd (omega arith)
lacks_above N (h ∷ []) lt = or-false (is_none (numbered N h)) ∙ none_largest N h
lacks_above N (h ∷ g ∷ s) lt =
    rw (none_largest N h, lacks_above N (g ∷ s) (omega arith)) (below_min N (largest h) (last_line (g ∷ s)))

line_zero : (s : State) → (lacking 0 s ≡ false) × (numbered_line 0 s ≡ replicate (length s) 0)
line_zero [] = (refl, refl)
line_zero (h ∷ s) = let r = line_zero s in rw (numbered_zero 0 refl h) (r.0, ap (λ (ts : List ℕ). 0 ∷ ts) r.1)

module _ (t a : List ℕ) (laid : first (table_rows t) ≡ 0) (exact : length a ≡ 4 * word t 0) where
  abbrev s : State
  s = decoded t

  unmet : NoneMet (table_rows t)
  unmet = none_met (table_rows t) tt laid

  many : length s ≡ word t 0
  many = decoded_count t

  some_process : 0 < length s
  some_process =
      let a = (in_range_lem (word t 0) (word t 1) (not-false (in_range (word t 0) (word t 1)) unmet.1.0)).some_process in
      let m = many in
      omega arith

  said : (N : ℕ) → line_on t a N ≡ cond (lacking N s) (outcome 15 t a) (outcome 0 t (bytes (numbered_line N s)))
  said N = line_outcome t a N unmet exact many

  passed : (N : ℕ) → N ≤ last_line s → lacking N s ≡ false
  passed N le = lacks_above N s some_process ∙ le-ltb (last_line s) N le

  line : (N : ℕ) → Line t a N (word t 0) s
  line N = record {
    answered = λ le. said N ∙ rw (passed N le) refl;
    positions = λ le p lt.
        let F = all_in_line N s (passed N le) p (let m = many in omega arith) in
        record { is_saved = in_line_saved F; enough = in_line_enough F; before = in_line_before F };
    refused = λ gt. said N ∙ rw (lacks_above N s some_process ∙ lt-ltb (last_line s) N gt) refl;
  }

  zero_line : line_on t a 0 ≡ outcome 0 t (bytes (replicate (word t 0) 0))
  zero_line = let z = line_zero s in said 0 ∙ rw (z.0, z.1, many) refl

pub which_lines : WhichLines
which_lines t a laid exact = (zero_line t a laid exact, line t a laid exact)

-- ---- a made table

pub made_lines : MadeLines
made_lines n E t C p lt =
    let H = made_holds n E t C in
    let M = sound H.made in
    ap (λ (x : List ℕ). word x (start E p + 1)) H.is
    ∙ layout_number n E H.range (decoded t) M p lt
    ∙ sym (rising_largest (history (decoded t) p) (M.rising p))
