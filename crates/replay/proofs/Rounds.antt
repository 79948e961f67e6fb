-- What a round leaves: how many records are left, and that no process goes on where none has.
use mathlib.Core.Path.{◌≡◌, refl, sym, ap, ◌∙◌, subst}
use mathlib.Core.Logic.{◌↔◌, ◌⊎◌, inl, inr, ⊎_elim}
use mathlib.Core.Bool.{Bool, true, false, ◌&&◌}
use mathlib.Core.List.{List, []}
use Prim.Native.Nat.{ℕ, suc, ◌+◌, ◌-◌, ◌≤◌, ◌<◌}
use native.Mathlib.Nat.{le_refl}
use Rattle.tables.proofs.Ranges.{product}
use native.Mathlib.Omega.{arith}
use native.Mathlib.Decide.{ℕ_discrete, dec_lt}
use lib.ListN.{length, set, length-set, replicate, get_or-replicate}
use Rattle.std.proofs.lemmas.List.{get_or_past}
use lib.Seq.{ext_get_or, set-get_or, get_or-set_same, get_or-set_other}
use Rattle.std.proofs.Math.Option.{Option, none, some}
use Rattle.basics.specs.Sums.{sum_below}
use Rattle.basics.proofs.Sums.{sum_same, sum_none, sum_but, sum_zero, sum_most}
use Rattle.basics.proofs.Booleans.{clash}
use Rattle.basics.proofs.Older.{Older, same, older_whole}
use Rattle.rules.specs.Records.{Event, basic, forced, sent, received, History, State, history, record_at}
use Rattle.rules.specs.Table.{fresh}
use Rattle.rules.specs.Lines.{upto}
use Rattle.records.proofs.Steps.{history_fresh}
use lib.Dec.{eqb}
use borrow.Author.Tests.{eqb-true, eq-eqb}
use Rattle.xdr.specs.Words.{word}
use Rattle.rules.specs.Audit.{audited}
use Rattle.runs.proofs.Tables.{same_answer}
use Rattle.runs.proofs.Rules.{settled}
use Rattle.runs.proofs.Ways.{MadeState, sound, ruled, reached_fresh}
use Rattle.runs.proofs.Turns.{past, top_older}
use Rattle.runs.proofs.Stops.{Stop, ends, stopped_whole}
use Rattle.layout.specs.declared.Table.{Table}
use Rattle.layout.specs.Tables.{state_of}
use Rattle.layout.proofs.Sections.{is_valid, processes, section}
use Rattle.std.specs.Prelude.{Result, Ok, Err, MatchResult}
use Rattle.std.specs.Result.{is_ok}
use Rattle.replay.specs.declared.Unmade.{Unmade}
use Rattle.replay.specs.declared.Done.{Done}
use Rattle.replay.specs.declared.Replay.{Replay}
use Rattle.replay.specs.Way.{Made, done_at, Way, top, Stops, Rests, remaining, Going, Kept, Came}
use Rattle.replay.proofs.Ways.{same_top, top_whole}

-- ---- one process

module _ (t : Table) (p : ℕ) (lt : p < t.n) (done : List Done) (wide : length done ≡ 16) where
  inside : p < length done
  inside = let m = t.laid.3 in omega arith

  pub fewer : (d : Done) → (done_at done p).records ≤ d.records → d.records ≤ length (history (state_of t) p)
      → remaining t (set done p d) + (d.records - (done_at done p).records) ≡ remaining t done
  fewer d a b =
      let left = λ (l : List Done) (q : ℕ). length (history (state_of t) q) - (done_at l q).records in
      let e = sum_but (left (set done p d)) (left done) t.n p lt (λ i l ne. ap (λ (x : Done). length (history (state_of t) i) - x.records) (get_or-set_other done p i d _ ne)) in
      let f : (done_at (set done p d) p).records ≡ d.records = ap (λ (x : Done). x.records) (get_or-set_same done p d _ inside) in
      omega arith

-- the way goes on from where p has come as far as it is kept
pub kept_done : (t : Table) (p : ℕ) {done : List Done} {notes : List ℕ} → Way t done notes → Way t (set done p (done_at done p)) notes
kept_done t p {done} {notes} W = subst (λ (l : List Done). Way t l notes) (sym (set-get_or done p _)) W

-- a process that has made all its calls has stopped
pub whole_stops : (t : Table) {done : List Done} {notes : List ℕ} (W : Way t done notes) (p : ℕ) → p < t.n
    → (done_at done p).records ≡ length (history (state_of t) p) → Stops t done p
whole_stops t W p lt e = ends (top_whole t W p lt e)

-- what p's turn leaves, once it has come as far as d
module _ (t : Table) (p : ℕ) (lt : p < t.n) (done : List Done) {left : ℕ} (e : left ≡ remaining t done) (d : Done) {notes : List ℕ}
    (W : Way t (set done p d) notes) (le : d.records ≤ length (history (state_of t) p))
    (grows : (d ≡ done_at done p) ⊎ ((done_at done p).records < d.records)) where
  wide : length done ≡ 16
  wide = sym (length-set done p d) ∙ W.sixteen

  forward : (done_at done p).records ≤ d.records
  forward = ⊎_elim (λ x. rw x (le_refl _)) (λ l. omega arith) grows

  fewer_here : remaining t (set done p d) + (d.records - (done_at done p).records) ≡ remaining t done
  fewer_here = fewer t p lt done wide d forward le

  fits : d.records - (done_at done p).records ≤ left
  fits = let f = fewer_here in omega arith

  left_then : left - (d.records - (done_at done p).records) ≡ remaining t (set done p d)
  left_then = let f = fewer_here in omega arith

  stayed : left - (d.records - (done_at done p).records) ≡ left → set done p d ≡ done
  stayed z = go grows
    where
      go : (d ≡ done_at done p) ⊎ ((done_at done p).records < d.records) → set done p d ≡ done
      go (inl x) = ap (set done p) x ∙ set-get_or done p _
      go (inr l) = let f = fits in absurd (omega arith)

-- ---- as functions have it

module _ (r s : Replay) (K : Kept r s) (p : ℕ) (d : Done) where
  -- where the notes stay too
  pub came_kept : s.notes.now ≡ r.notes.now → Came r p d → Stops r.table (set r.done p d) p → Came s p d × Stops s.table (set s.done p d) p
  came_kept e C S = ((rw (K.0, K.1, e) C.0, rw K.0 C.1, rw K.1 C.2), rw (K.0, K.1) S)

  module _ (G : Going r) (lt : p < r.table.n) (C : Came s p d) where
    inside_table : p < s.table.n
    inside_table = rw K.0 lt

    -- it has no record left
    pub came_whole : length (history (state_of r.table) p) ≤ d.records → Stops s.table (set s.done p d) p
    came_whole le =
        let w = sym (length-set s.done p d) ∙ C.0.sixteen in
        let e : (done_at (set s.done p d) p).records ≡ d.records = ap (λ (x : Done). x.records) (get_or-set_same s.done p d _ (inside s.table p inside_table s.done w)) in
        let f : length (history (state_of s.table) p) ≡ length (history (state_of r.table) p) = ap (λ (t : Table). length (history (state_of t) p)) K.0 in
        let l = C.1 in
        whole_stops s.table C.0 p inside_table (omega arith)

    left_here : s.left ≡ remaining s.table s.done
    left_here = rw (K.0, K.1, K.2) G.1

    pub turn_fits : d.records - (done_at s.done p).records ≤ s.left
    turn_fits = fits s.table p inside_table s.done left_here d C.0 C.1 C.2

    -- p's turn is over
    pub turned : Stops s.table (set s.done p d) p
        → (Way s.table (set s.done p d) s.notes.now × (s.left - (d.records - (done_at s.done p).records) ≡ remaining s.table (set s.done p d)))
        × Stops s.table (set s.done p d) p
        × (s.left - (d.records - (done_at s.done p).records) ≤ r.left)
        × (s.left - (d.records - (done_at s.done p).records) ≡ r.left → set s.done p d ≡ r.done)
    turned S =
        let b = K.2 in (
          (C.0, left_then s.table p inside_table s.done left_here d C.0 C.1 C.2),
          S,
          omega arith,
          λ z. stayed s.table p inside_table s.done left_here d C.0 C.1 C.2 (z ∙ sym b) ∙ K.1,
        )

-- ---- a round

pub rests_next : (r s : Replay) → s.table ≡ r.table → s.done ≡ r.done → {p : ℕ} → Rests r.table r.done p → Stops s.table s.done p → Rests s.table s.done (p + 1)
rests_next r s a b {p} R S q lt = go (ℕ_discrete q p)
  where
    go : Dec (q ≡ p) → Stops s.table s.done q
    go (yes x) = rw x S
    go (no ne) = rw (a, b) (R q (omega arith))

-- ---- nothing is made yet

pub none_done : (p : ℕ) → done_at (replicate 16 (record { records = 0; number = 0; sends = 0 })) p ≡ record { records = 0; number = 0; sends = 0 }
none_done p = go (dec_lt p 16)
  where
    go : Dec (p < 16) → done_at (replicate 16 (record { records = 0; number = 0; sends = 0 })) p ≡ record { records = 0; number = 0; sends = 0 }
    go (yes l) = get_or-replicate 16 p _ _ l
    go (no l) = get_or_past (replicate 16 (record { records = 0; number = 0; sends = 0 })) p _ (omega arith)

-- no table has more records than a word counts
pub few_records : (t : Table) → sum_below (λ p. length (history (state_of t) p)) t.n ≤ 16384
few_records t =
    let m = product t.n t.e t.laid.3 t.laid.4 in
    let l = sum_most (λ p. length (history (state_of t) p)) t.e t.n (λ p lt. let H = section t p lt refl in let a = H.short in let b = H.count in omega arith) in
    omega arith

pub start_left : (t : Table) → sum_below (λ p. length (history (state_of t) p)) t.n ≡ remaining t (replicate 16 (record { records = 0; number = 0; sends = 0 }))
start_left t = sum_same _ _ t.n (λ p lt. let e : (done_at (replicate 16 (record { records = 0; number = 0; sends = 0 })) p).records ≡ 0 = ap (λ (d : Done). d.records) (none_done p) in omega arith)

pub start : (t : Table) (done : List Done) (notes : List ℕ) → length done ≡ 16
    → ((p : ℕ) → done_at done p ≡ record { records = 0; number = 0; sends = 0 }) → Way t done notes
start t done notes wide zeros =
    record {
      state = fresh t.n;
      reached = reached_fresh t.n t.e (state_of t);
      sixteen = wide;
      stands = λ p lt. rw (zeros p, history_fresh t.n p) (refl, refl, refl);
      noting = λ q k lq pos le. absurd (let x : k ≤ 0 = rw (history_fresh t.n q) at le in omega arith);
    }

-- ---- where no process goes on

-- no forced checkpoint is the last record
past_whole : (o : Option Event) {h g : History} → past o h ≡ g → settled g ≡ true → h ≡ g
past_whole none e x = e
past_whole (some (basic m)) e x = e
past_whole (some (forced m)) e x = clash false (ap settled e ∙ x) refl
past_whole (some (sent q)) e x = e
past_whole (some (received q k m)) e x = e

module _ (t : Table) {done : List Done} {notes : List ℕ} (W : Way t done notes) (r : Rests t done t.n) where
  abbrev c : State
  c = W.state

  abbrev s : State
  s = state_of t

  -- beyond the last process there is nothing
  nothing : (p : ℕ) → t.n ≤ p → history s p ≡ []
  nothing p le = get_or_past s p [] (let z = processes t in omega arith)

  none_top : (p : ℕ) → t.n ≤ p → top t done p ≡ history s p
  none_top p le = ap (λ (h : History). past (record_at (suc (done_at done p).records) h) (upto (done_at done p).records h)) (nothing p le) ∙ sym (nothing p le)

  stops : (p : ℕ) → Stop s (top t done) p
  stops p = go (dec_lt p t.n)
    where
      go : Dec (p < t.n) → Stop s (top t done) p
      go (yes l) = r p l
      go (no l) = ends (none_top p (omega arith))

  under : (p : ℕ) → Older (top t done p) (history s p)
  under p = go (dec_lt p t.n)
    where
      go : Dec (p < t.n) → Older (top t done p) (history s p)
      go (yes l) = rw (same_top t W p l) (top_older t.n t.e s c W.reached p)
      go (no l) = rw (none_top p (omega arith)) same

  whole_made : remaining t done ≡ 0 → Made t
  whole_made e =
      let z = (sound W.reached.made).size in
      let y = processes t in
      subst (MadeState t.n t.e) (ext_get_or [] c s (z ∙ sym y) (λ p lt.
      let a = sum_zero (λ (q : ℕ). length (history s q) - (done_at done q).records) t.n e p (omega arith) in
      let b = (W.stands p (omega arith)).0 in
      older_whole (W.reached.under p) (omega arith))) W.reached.made

  made_whole : Made t → remaining t done ≡ 0
  made_whole M = sum_none (λ (q : ℕ). length (history s q) - (done_at done q).records) t.n (λ p lt.
      let all = stopped_whole t.n t.e s (top t done) under stops M p in
      let e : history c p ≡ history s p = past_whole (record_at (suc (length (history c p))) (history s p)) (sym (same_top t W p lt) ∙ all) ((ruled M).ends p) in
      let a = ap length e in
      let b = (W.stands p lt).0 in
      omega arith)

  pub ended : {l : ℕ} → l ≡ remaining t done → (l ≡ 0) ↔ Made t
  ended e = (λ z. whole_made (sym e ∙ z), λ M. e ∙ made_whole M)

-- ---- the test

module _ (t : Table) where
  made_table : Made t ↔ MadeState (word t.bytes.now 0) (word t.bytes.now 1) (state_of t)
  made_table = rw (← t.laid.1, ← t.laid.2) (λ M. M, λ M. M)

  same_test : {b : Bool} → (b ≡ true) ↔ Made t → b ≡ audited t.bytes.now
  same_test {b} D = sym (same_answer t.bytes.now (is_valid t) b (λ e. made_table.0 (D.0 e), λ M. D.1 (made_table.1 M)))

  -- by how the rounds ended, and how many records are left
  pub answers : (r : Result Unit Unmade) (left : ℕ) → MatchResult r (λ _. (left ≡ 0) ↔ Made t) (λ _. ¬ Made t)
      → (is_ok r && eqb left 0) ≡ audited t.bytes.now
  answers (Ok x) left D = same_test (λ e. D.0 (eqb-true left 0 e), λ M. eq-eqb left 0 (D.1 M))
  answers (Err x) left N = same_test (λ e. clash false e refl, λ M. absurd (N M))
