-- What holds on the way to a table: the parts that were made, and what a note says.
use mathlib.Core.Path.{◌≡◌, sym, ap, ◌∙◌}
use mathlib.Core.Bool.{true, false}
use mathlib.Core.List.{List, ◌∷◌}
use Prim.Native.Nat.{ℕ, suc, ◌+◌, ◌*◌, ◌≤◌, ◌<◌}
use native.Mathlib.Omega.{arith}
use lib.ListN.{length}
use Rattle.xdr.specs.Words.{word}
use Rattle.rules.specs.Records.{Event, History, State, history, record_at, number, sends, carried, destination, has_send, has_receipt}
use Rattle.rules.specs.Lines.{upto}
use Rattle.basics.proofs.Older.{Older, older_trans, older_length, older_whole}
use Rattle.basics.proofs.Booleans.{Test, passes, fails, test}
use Rattle.records.proofs.Histories.{holds_held, held_holds, send_of, each_older}
use Rattle.records.proofs.Cuts.{upto_older}
use Rattle.tables.proofs.Ranges.{product}
use Rattle.tables.proofs.Laid.{Law, legal_number}
use Rattle.runs.proofs.Turns as runs
use Rattle.runs.proofs.Turns.{past, past_sends}
use Rattle.layout.specs.declared.Table.{Table}
use Rattle.layout.specs.Tables.{state_of}
use Rattle.layout.proofs.Sections.{lawful}
use Rattle.replay.specs.declared.Done.{Done}
use Rattle.replay.specs.Notes.{note_of, taken, noted}
use Rattle.replay.specs.Way.{done_at, Way, top}

module _ (t : Table) {done : List Done} {notes : List ℕ} (W : Way t done notes) where
  abbrev c : State
  c = W.state

  abbrev s : State
  s = state_of t

  pub done_within : (p : ℕ) → p < t.n → (done_at done p).records ≤ length (history s p)
  done_within p lt = let a = (W.stands p lt).0 in let l = older_length (W.reached.under p) in omega arith

  pub few : t.n * t.e ≤ 16384
  few = product t.n t.e t.laid.3 t.laid.4

  pub law : (p : ℕ) {e : Event} {g : History} → Older (e ∷ g) (history s p) → Law t.n t.e p e g
  law p o = (each_older (Law t.n t.e p) o (lawful t p)).0

  pub numbers : (p : ℕ) → number (history c p) ≤ 16384
  numbers p = let l = legal_number t.n t.e p (history c p) (each_older (Law t.n t.e p) (W.reached.under p) (lawful t p)) in let f = few in omega arith

  module _ (p q k : ℕ) (lp : p < t.n) (lq : q < t.n) (pos : 0 < k) (le : k ≤ (done_at done q).sends) where
    pub inside : k ≤ sends (history c q)
    inside = rw ((W.stands q lq).2) at le

    goes_to : destination (history c q) k < 16
    goes_to =
        let S = send_of (history c q) k pos inside in
        let l = (law q (older_trans S.there (W.reached.under q))).0 in
        let m = t.laid.3 in
        omega arith

    -- the note of a message to p that carries x: it is in c, and p hasn't received it
    pub record Open (x : ℕ) : Type 0 where
      pub there : has_send (history c q) p k ≡ true
      pub carries : x ≡ carried (history c q) k
      pub unreceived : has_receipt (history c p) q k ≡ false

    pub note_open : (x : ℕ) → x ≤ 16384 → word notes (q * t.e + k) ≡ note_of p x → Open x
    note_open x most e = go (test (has_receipt (history c (destination (history c q) k)) q k)) (sym e ∙ W.noting q k lq pos inside)
      where
        go : Test (has_receipt (history c (destination (history c q) k)) q k) → note_of p x ≡ noted c q k → Open x
        go (passes y) f = let m = t.laid.3 in let g : note_of p x ≡ taken = rw y at f in absurd (omega arith)
        go (fails y) f =
            let m = t.laid.3 in
            let d = goes_to in
            let g : note_of p x ≡ note_of (destination (history c q) k) (carried (history c q) k) = rw y at f in
            let same_process : destination (history c q) k ≡ p = omega arith in
            record {
              there = held_holds (history c q) p k (record { positive = pos; counted = inside; to = same_process });
              carries = omega arith;
              unreceived = rw same_process at y;
            }

    pub open_note : {x : ℕ} → Open x → word notes (q * t.e + k) ≡ note_of p x
    open_note {x} O =
        let e = (holds_held (history c q) p k O.there).to in
        W.noting q k lq pos inside ∙ (rw (e, O.unreceived, O.carries))

  -- ---- how far a process may come without a send that isn't made

  pub same_top : (p : ℕ) → p < t.n → top t done p ≡ runs.top s c p
  same_top p lt = rw (W.stands p lt).0 (ap (past (record_at (suc (length (history c p))) (history s p))) (upto_older (W.reached.under p)))

  pub top_sends : (p : ℕ) → p < t.n → sends (top t done p) ≡ sends (history c p)
  top_sends p lt = ap sends (same_top p lt) ∙ past_sends (record_at (suc (length (history c p))) (history s p)) (history c p)

  -- a process that has made all its calls
  pub top_whole : (p : ℕ) → p < t.n → (done_at done p).records ≡ length (history s p) → top t done p ≡ history s p
  top_whole p lt e =
      same_top p lt ∙ runs.top_ended s c p (older_whole (W.reached.under p) (let a = (W.stands p lt).0 in omega arith))
