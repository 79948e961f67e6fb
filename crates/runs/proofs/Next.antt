-- On the way to a state that a run leaves, what a process's next records are.
use mathlib.Core.Path.{◌≡◌, refl, sym, ap, ◌∙◌, subst}
use mathlib.Core.Bool.{true, false}
use mathlib.Core.List.{◌∷◌}
use Prim.Native.Nat.{ℕ, ◌≤◌}
use Rattle.rules.specs.Records.{Event, basic, forced, sent, received, History, State, history, sends, carried, has_send, has_receipt}
use Rattle.rules.specs.Steps.{next_number, forces}
use Rattle.basics.proofs.Older.{Older, Ahead, whole, behind, ahead}
use Rattle.basics.proofs.Booleans.{clash}
use Rattle.records.proofs.Histories.{holds_held, held_holds, carried_older, destination_older, each_older}
use Rattle.records.proofs.Receipts.{Source}
use Rattle.records.proofs.Made.{New}
use Rattle.runs.proofs.Rules.{Rule, settled}
use Rattle.runs.proofs.Ways.{MadeState, sound, ruled, Reached}

-- the receipt of a message whose send is there
pub record Taken (c : State) (p q k m : ℕ) (h : History) : Type 0 where
  pub held : has_send (history c q) p k ≡ true
  pub carries : m ≡ carried (history c q) k
  pub first : has_receipt h q k ≡ false

-- a forced checkpoint numbered m, with the receipt that forced it
pub record Forced (h g : History) (m : ℕ) : Type 0 where
  pub greater : forces h m ≡ true
  pub q : ℕ
  pub k : ℕ
  pub behind : Older (received q k m ∷ forced m ∷ h) g

module _ {n E : ℕ} {s c : State} (M : MadeState n E s) (R : Reached n E s c) (p : ℕ) where
  abbrev h : History
  h = history c p

  rule : {e : Event} {g : History} → Older (e ∷ g) (history s p) → Rule e g
  rule o = (each_older Rule o ((ruled M).ruled p)).0

  pub next_basic : {m : ℕ} → Older (basic m ∷ h) (history s p) → m ≡ next_number h
  next_basic o = (rule o).0

  pub next_received : {q k m : ℕ} {g : History} → Older (received q k m ∷ g) (history s p) → k ≤ sends (history c q) → Taken c p q k m g
  next_received {q} {k} {m} {g} o le =
      let S = (each_older (Source s p) o ((sound M).sourced p)).0 in
      let H = holds_held (history s q) p k S.0 in
      record {
        held = held_holds (history c q) p k
            (record { positive = H.positive; counted = le; to = sym (destination_older (R.under q) k le) ∙ H.to });
        carries = S.1 ∙ carried_older (R.under q) k le;
        first = (each_older New o ((sound M).single p)).0;
      }

  pub next_forced : {m : ℕ} → Older (forced m ∷ h) (history s p) → Forced h (history s p) m
  next_forced {m} o = here (ahead o)
    where
      by : (e : Event) → Older (e ∷ forced m ∷ h) (history s p) → Forced h (history s p) m
      by (basic j) u = clash false (rule u).1 refl
      by (forced j) u = clash false (rule u).1 refl
      by (sent q) u = clash false (rule u) refl
      by (received q k j) u =
          let e : m ≡ j = rule u in
          record { greater = (rule o).0; q = q; k = k; behind = subst (λ (x : ℕ). Older (received q k x ∷ forced m ∷ h) (history s p)) (sym e) u }

      here : Ahead (forced m ∷ h) (history s p) → Forced h (history s p) m
      here (whole e) = clash false (ap settled e ∙ (ruled M).ends p) refl
      here (behind e u) = by e u
