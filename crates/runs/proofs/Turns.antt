-- What a process's turn does on the way to a state that a run leaves: nothing where it has gone all the way or a message isn't there yet,
-- else one accepted call.
use mathlib.Core.Path.{◌≡◌, refl, ◌∙◌}
use mathlib.Core.Bool.{false}
use mathlib.Core.List.{List, [], ◌∷◌, map}
use mathlib.Core.Option.{Option, none, some}
use Prim.Native.Nat.{ℕ, suc, ◌≤◌, ◌<◌}
use native.Mathlib.Omega.{arith}
use native.Mathlib.Decide.{dec_le}
use lib.ListN.{length}
use borrow.Author.Tests.{le-ltb, ne_eqb}
use Rattle.rules.specs.Records.{Event, basic, forced, sent, received, History, State, history, record_at, number, sends}
use Rattle.rules.specs.Steps.{Call, checkpoint, send, receipt, forces, carries, grown, stepped}
use Rattle.rules.specs.Lists.{accepts, run}
use Rattle.rules.specs.Audit.{due, with_area, advance}
use Rattle.basics.proofs.Older.{Older, same, Ahead, whole, behind, ahead}
use Rattle.basics.proofs.Booleans.{Test, passes, fails, test}
use Rattle.records.proofs.Histories.{at_older, holds_held, each_older}
use Rattle.records.proofs.Receipts.{Source}
use Rattle.records.proofs.Made.{Name}
use Rattle.records.proofs.Steps.{Message, accepts_met}
use Rattle.runs.proofs.Ways.{MadeState, sound, accepted_accepts, Reached, goes_on, acceptable}
use Rattle.runs.proofs.Next.{Forced, next_basic, next_received, next_forced}

-- there is no record behind the last
at_beyond : (i : ℕ) (h : History) → length h < i → record_at i h ≡ none
at_beyond i [] lt = refl
at_beyond i (e ∷ h) lt = rw (ne_eqb i (suc (length h)) (omega arith)) (at_beyond i h (omega arith))

-- where a process stands when the record behind h is this one: a forced checkpoint comes with the receipt behind it
abbrev pub past : Option Event → History → History
past none h = h
past (some (basic m)) h = h
past (some (forced m)) h = forced m ∷ h
past (some (sent q)) h = h
past (some (received q k m)) h = h

pub past_sends : (o : Option Event) (h : History) → sends (past o h) ≡ sends h
past_sends none h = refl
past_sends (some (basic m)) h = refl
past_sends (some (forced m)) h = refl
past_sends (some (sent q)) h = refl
past_sends (some (received q k m)) h = refl

-- where process p stands in c, on the way to s
abbrev pub top : State → State → ℕ → History
top s c p = past (record_at (suc (length (history c p))) (history s p)) (history c p)

pub top_ended : (s c : State) (p : ℕ) → history c p ≡ history s p → top s c p ≡ history s p
top_ended s c p e = rw (← e, at_beyond (suc (length (history c p))) (history c p) (omega arith))

pub top_older : (n E : ℕ) (s c : State) → Reached n E s c → (p : ℕ) → Older (top s c p) (history s p)
top_older n E s c R p = here (ahead (R.under p))
  where
    by : (e : Event) → Older (e ∷ history c p) (history s p) → Older (past (some e) (history c p)) (history s p)
    by (basic m) o = R.under p
    by (forced m) o = o
    by (sent q) o = R.under p
    by (received q k m) o = R.under p

    here : Ahead (history c p) (history s p) → Older (top s c p) (history s p)
    here (whole e) = rw (top_ended s c p e) same
    here (behind e o) = rw (at_older o) (by e o)

-- p's turn: all its records are there; or a message isn't, and the call is refused; or one call more is made
pub data Turn (n E : ℕ) (s c : State) (p : ℕ) : Type 0 where
  ended : history c p ≡ history s p → advance n E s c p ≡ c → Turn n E s c p
  waiting : (q k m : ℕ) → Older (received q k m ∷ top s c p) (history s p) → sends (history c q) < k → advance n E s c p ≡ c → Turn n E s c p
  gone : (call : Call) → advance n E s c p ≡ stepped c p call → Reached n E s (stepped c p call) → Turn n E s c p

module _ {n E : ℕ} {s c : State} (M : MadeState n E s) (R : Reached n E s c) (p : ℕ) (lt : p < n) where
  abbrev h : History
  h = history c p

  short : length (history s p) ≤ E
  short = (sound M).short p

  -- the call that is due
  takes : (calls : List Call) → due (history s p) (length h) ≡ calls → advance n E s c p ≡ run n E c (map (with_area p) calls)
  unfolding advance
  takes calls e = rw e

  -- it is made, where its message is there
  makes : (call : Call) {g : History} → due (history s p) (length h) ≡ call ∷ [] → grown h call (carries c call) ≡ g → Message n c p call
      → Older g (history s p) → Turn n E s c p
  makes call {g} d e m o =
      let o' : Older (grown h call (carries c call)) (history s p) = rw e o in
      let A = acceptable R p lt call m short o' in
      gone call (takes (call ∷ []) d ∙ rw (accepted_accepts n E c (sound R.made) p call A)) (goes_on R p lt call refl m short o')

  -- it is refused, where its message isn't there
  refused : (q k : ℕ) → due (history s p) (length h) ≡ receipt q k ∷ [] → sends (history c q) < k → advance n E s c p ≡ c
  refused q k d less = takes (receipt q k ∷ []) d ∙ go (test (accepts n E c (with_area p (receipt q k))))
    where
      go : Test (accepts n E c (with_area p (receipt q k))) → run n E c (with_area p (receipt q k) ∷ []) ≡ c
      go (fails e) = rw e
      go (passes e) =
          let A = accepts_met n E c p (receipt q k) _ e in
          let H = (holds_held (history c q) p k A.message.2).counted in
          absurd (omega arith)

  -- sends and receipts name another process
  names : {e : Event} {g : History} → Older (e ∷ g) (history s p) → Name n p e g
  names o = (each_older (Name n p) o ((sound M).named p)).0

  -- a receipt that isn't behind a forced checkpoint doesn't force
  unforced : {q k m : ℕ} → Older (received q k m ∷ h) (history s p) → forces h m ≡ false
  unforced {q} {k} {m} o = le-ltb (number h) m (each_older (Source s p) o ((sound M).sourced p)).0.2

  pub turn : Turn n E s c p
  turn = here (ahead (R.under p))
    where
      receives : (q k m : ℕ) → Older (received q k m ∷ h) (history s p) → Turn n E s c p
      receives q k m o = go (dec_le k (sends (history c q)))
        where
          at : record_at (suc (length h)) (history s p) ≡ some (received q k m)
          at = at_older o

          go : Dec (k ≤ sends (history c q)) → Turn n E s c p
          go (yes le) =
              let T = next_received M R p o le in
              let N = names o in
              makes (receipt q k) (rw at) (rw (← T.carries, unforced o)) (N.0, N.1, T.held, T.first) o
          go (no more) = let less : sends (history c q) < k = omega arith in waiting q k m (rw at o) less (refused q k (rw at) less)

      forced_by : (m : ℕ) → Older (forced m ∷ h) (history s p) → Turn n E s c p
      forced_by m o = go (dec_le F.k (sends (history c F.q)))
        where
          F : Forced h (history s p) m
          F = next_forced M R p o

          at : record_at (suc (length h)) (history s p) ≡ some (forced m)
          at = at_older o

          then : record_at (suc (suc (length h))) (history s p) ≡ some (received F.q F.k m)
          then = at_older F.behind

          go : Dec (F.k ≤ sends (history c F.q)) → Turn n E s c p
          go (yes le) =
              let T = next_received M R p F.behind le in
              let N = names F.behind in
              makes (receipt F.q F.k) (rw (at, then)) (rw (← T.carries, F.greater)) (N.0, N.1, T.held, T.first) F.behind
          go (no more) =
              let less : sends (history c F.q) < F.k = omega arith in
              waiting F.q F.k m (rw at F.behind) less (refused F.q F.k (rw (at, then)) less)

      by : (e : Event) → Older (e ∷ h) (history s p) → Turn n E s c p
      by (basic m) o = makes checkpoint (rw (at_older o)) (rw (← next_basic M R p o)) tt o
      by (forced m) o = forced_by m o
      by (sent q) o = let N = names o in makes (send q) (rw (at_older o)) refl (N.0, N.1) o
      by (received q k m) o = receives q k m o

      here : Ahead h (history s p) → Turn n E s c p
      here (whole e) = ended e (takes [] (rw (← e, at_beyond (suc (length h)) h (omega arith))))
      here (behind e o) = by e o
