-- Made once more, the calls that a state's records name leave that state exactly when some run leaves it.
use mathlib.Core.Path.{◌≡◌, refl, sym, ap, ◌∙◌, subst}
use mathlib.Core.Logic.{◌↔◌, ◌⊎◌, inl, inr}
use mathlib.Core.List.{[], ◌∷◌, map}
use Prim.Native.Nat.{ℕ, zero, suc, ◌+◌, ◌≤◌, ◌<◌, zero-le}
use native.Mathlib.Nat.{le_refl}
use native.Mathlib.Omega.{arith}
use native.Mathlib.Decide.{ℕ_discrete, dec_lt}
use lib.ListN.{length, get_or-eq_default}
use lib.Seq.{ext_get_or}
use Rattle.rules.specs.Records.{State, history}
use Rattle.rules.specs.Table.{fresh}
use Rattle.rules.specs.Steps.{Call, carries, grown, stepped}
use Rattle.rules.specs.FailureLine.{sum}
use Rattle.rules.specs.Audit.{due, with_area, advance, sweep, sweeps, replayed}
use Rattle.basics.proofs.Older.{Older, older_length}
use Rattle.records.proofs.Made.{total, total_set}
use Rattle.records.proofs.Steps.{grown_longer}
use Rattle.runs.proofs.Ways.{MadeState, sound, none_made, made_more, Reached, reached_fresh, inside}
use Rattle.runs.proofs.Stops.{Stop, ends, waits, stopped_whole}
use Rattle.runs.proofs.Turns.{past_sends, top, top_older, top_ended, Turn, ended, waiting, gone, turn}

-- ---- a run leaves what is made once more, whatever the state

sweep_made : (n E : ℕ) (s : State) (m : ℕ) (c : State) → MadeState n E c → MadeState n E (sweep n E s m c)
unfolding sweep advance
sweep_made n E s zero c M = M
sweep_made n E s (suc p) c M =
    let d = sweep n E s p c in
    made_more n E d (map (with_area p) (due (history s p) (length (history d p)))) (sweep_made n E s p c M)

sweeps_made : (n E : ℕ) (s : State) (k : ℕ) (c : State) → MadeState n E c → MadeState n E (sweeps k n E s c)
unfolding sweeps
sweeps_made n E s zero c M = M
sweeps_made n E s (suc k) c M = sweeps_made n E s k (sweep n E s n c) (sweep_made n E s n c M)

pub replayed_made : (n E : ℕ) (s : State) → MadeState n E (replayed n E s)
unfolding replayed
replayed_made n E s = sweeps_made n E s (sum (map length s)) (fresh n) (none_made n E)

-- ---- how many records there are on the way

total_under : (c s : State) → length c ≡ length s → ((p : ℕ) → Older (history c p) (history s p)) → total c ≤ total s
unfolding total
total_under [] [] z o = zero-le
total_under [] (h ∷ s) z o = absurd (omega arith)
total_under (g ∷ c) [] z o = absurd (omega arith)
total_under (g ∷ c) (h ∷ s) z o =
    let a = older_length (o 0) in
    let b = total_under c s (omega arith) (λ p. o (suc p)) in
    omega arith

module _ {n E : ℕ} {s : State} (M : MadeState n E s) where
  reached_total : {c : State} → Reached n E s c → total c ≤ total s
  reached_total {c} R =
      let a = (sound R.made).size in
      let b = (sound M).size in
      total_under c s (omega arith) R.under

  -- d is further on the way than c
  abbrev Further : State → State → Type 0
  Further c d = Reached n E s d × (total c < total d)

  step_total : {c : State} → Reached n E s c → (p : ℕ) → p < n → (call : Call) → total c < total (stepped c p call)
  step_total {c} R p lt call =
      let g = grown (history c p) call (carries c call) in
      let a = total_set c p g (inside R p lt) in
      let b = grown_longer (history c p) call (carries c call) in
      omega arith

  turn_further : {c : State} (p : ℕ) → Reached n E s c → p < n → Turn n E s c p → (advance n E s c p ≡ c) ⊎ Further c (advance n E s c p)
  turn_further p R lt (ended e a) = inl a
  turn_further p R lt (waiting q k m o l a) = inl a
  turn_further p R lt (gone call a r) = inr (rw a (r, step_total R p lt call))

  -- the first m processes have nothing to do
  abbrev Rests : ℕ → State → Type 0
  Rests m c = (p : ℕ) → p < m → advance n E s c p ≡ c

  rests_more : (m : ℕ) (c : State) → Rests m c → advance n E s c m ≡ c → Rests (suc m) c
  rests_more m c r e p lt = go (ℕ_discrete p m)
    where
      go : Dec (p ≡ m) → advance n E s c p ≡ c
      go (yes x) = rw x e
      go (no x) = r p (omega arith)

  -- a sweep finds them at rest, or goes further
  sweep_further : (m : ℕ) → m ≤ n → {c : State} → Reached n E s c
      → ((sweep n E s m c ≡ c) × Rests m c) ⊎ Further c (sweep n E s m c)
  unfolding sweep
  sweep_further zero le R = inl (refl, λ p lt. absurd (omega arith))
  sweep_further (suc m) le {c} R = go (sweep_further m (omega arith) R)
    where
      rest : (sweep n E s m c ≡ c) → Rests m c → (advance n E s c m ≡ c) ⊎ Further c (advance n E s c m)
          → ((advance n E s (sweep n E s m c) m ≡ c) × Rests (suc m) c) ⊎ Further c (advance n E s (sweep n E s m c) m)
      rest e r (inl x) = inl (rw e x, rests_more m c r x)
      rest e r (inr x) = inr (rw e x)

      on : Further c (sweep n E s m c) → (advance n E s (sweep n E s m c) m ≡ (sweep n E s m c)) ⊎ Further (sweep n E s m c) (advance n E s (sweep n E s m c) m) → Further c (advance n E s (sweep n E s m c) m)
      on x (inl e) = rw e x
      on x (inr y) = let a = x.1 in let b = y.1 in (y.0, omega arith)

      go : ((sweep n E s m c ≡ c) × Rests m c) ⊎ Further c (sweep n E s m c) → ((advance n E s (sweep n E s m c) m ≡ c) × Rests (suc m) c) ⊎ Further c (advance n E s (sweep n E s m c) m)
      go (inl x) = rest x.0 x.1 (turn_further m R le (turn M R m le))
      go (inr x) = inr (on x (turn_further m x.0 le (turn M x.0 m le)))

  sweeps_fixed : (k : ℕ) (c : State) → sweep n E s n c ≡ c → sweeps k n E s c ≡ c
  unfolding sweeps
  sweeps_fixed zero c e = refl
  sweeps_fixed (suc k) c e = ap (sweeps k n E s) e ∙ sweeps_fixed k c e

  -- as many sweeps as there are records left come to rest
  sweeps_rest : (k : ℕ) {c : State} → Reached n E s c → total s ≤ total c + k → Reached n E s (sweeps k n E s c) × Rests n (sweeps k n E s c)
  unfolding sweeps
  sweeps_rest zero {c} R le = (R, λ p lt. go p (turn_further p R lt (turn M R p lt)))
    where
      go : (p : ℕ) → (advance n E s c p ≡ c) ⊎ Further c (advance n E s c p) → advance n E s c p ≡ c
      go p (inl e) = e
      go p (inr x) = let a = reached_total x.0 in let b = x.1 in absurd (omega arith)
  sweeps_rest (suc k) {c} R le = go (sweep_further n (le_refl n) R) (λ r l. sweeps_rest k r l)
    where
      go : ((sweep n E s n c ≡ c) × Rests n c) ⊎ Further c (sweep n E s n c)
          → (Reached n E s (sweep n E s n c) → total s ≤ total (sweep n E s n c) + k
          → Reached n E s (sweeps k n E s (sweep n E s n c)) × Rests n (sweeps k n E s (sweep n E s n c)))
          → Reached n E s (sweeps k n E s (sweep n E s n c)) × Rests n (sweeps k n E s (sweep n E s n c))
      go (inl x) r = let f = sweeps_fixed k c x.0 in rw (x.0, f) (R, x.1)
      go (inr x) r = let b = x.1 in r x.0 (omega arith)

  -- ---- at rest, all of it is there

  module _ {c : State} (R : Reached n E s c) (rests : Rests n c) where
    stays : (p : ℕ) → p < n → (call : Call) → advance n E s c p ≡ stepped c p call → ⊥
    stays p lt call a =
        let e : total (stepped c p call) ≡ total c = ap total (sym a ∙ rests p lt) in
        let l = step_total R p lt call in
        omega arith

    stop : (p : ℕ) → p < n → Turn n E s c p → Stop s (top s c) p
    stop p lt (ended e a) = ends (top_ended s c p e)
    stop p lt (waiting q k m o l a) = waits q k m o (rw past_sends l)
    stop p lt (gone call a r) = absurd (stays p lt call a)

    beyond : (p : ℕ) → n ≤ p → history c p ≡ history s p
    beyond p le =
        let a = (sound R.made).size in
        let b = (sound M).size in
        get_or-eq_default c [] (omega arith) ∙ sym (get_or-eq_default s [] (omega arith))

    stops : (p : ℕ) → Stop s (top s c) p
    stops p = go (dec_lt p n)
      where
        go : Dec (p < n) → Stop s (top s c) p
        go (yes lt) = stop p lt (turn M R p lt)
        go (no l) = ends (top_ended s c p (beyond p (omega arith)))

    all_there : (p : ℕ) → p < n → Turn n E s c p → history c p ≡ history s p
    all_there p lt (ended e a) = e
    all_there p lt (waiting q k m o l a) =
        let w = ap length (stopped_whole n E s (top s c) (λ r. top_older n E s c R r) stops M p) in
        let y = older_length o in
        absurd (omega arith)
    all_there p lt (gone call a r) = absurd (stays p lt call a)

    rests_whole : c ≡ s
    rests_whole =
        let a = (sound R.made).size in
        let b = (sound M).size in
        ext_get_or [] c s (a ∙ sym b) (λ p lt. let w : p < n = omega arith in all_there p w (turn M R p w))

  replayed_whole : replayed n E s ≡ s
  unfolding replayed total
  replayed_whole =
      let r = sweeps_rest (sum (map length s)) (reached_fresh n E s) (omega arith) in
      rests_whole r.0 r.1

pub replays : (n E : ℕ) (s : State) → (replayed n E s ≡ s) ↔ MadeState n E s
replays n E s = (λ e. subst (MadeState n E) e (replayed_made n E s), λ M. replayed_whole M)
