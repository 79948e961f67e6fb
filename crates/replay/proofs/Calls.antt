-- What a process's next call leaves of the way to a table, and when the process waits or no run leaves the table.
use mathlib.Core.Path.{◌≡◌, refl, sym, ap, ap₂, ◌∙◌, subst}
use mathlib.Core.Logic.{◌≢◌}
use mathlib.Core.Bool.{Bool, true, false, cond, ◌&&◌, ◌||◌}
use mathlib.Core.List.{List, ◌∷◌}
use Prim.Native.Nat.{ℕ, suc, ◌+◌, ◌*◌, ◌≤◌, ◌<◌}
use native.Mathlib.Nat.{le_refl}
use Rattle.std.specs.Prelude.{MatchOption}
use Rattle.std.specs.Bool.{then_some}
use native.Mathlib.Omega.{arith}
use lib.Dec.{leb, eqb}
use lib.ListN.{length, set, length-set}
use lib.Seq.{get_or-set_same, get_or-set_other}
use borrow.Author.Tests.{lt-ltb, le-ltb, ltb-true, leb-true, leb-false}
use Rattle.xdr.specs.Words.{word, put_word}
use Rattle.rules.specs.Records.{Event, basic, forced, sent, received, History, State, history, number, sends, has_receipt}
use Rattle.rules.specs.Table.{size, records_at}
use Rattle.rules.specs.Steps.{checkpoint, send, receipt, next_number, grown}
use Rattle.rules.specs.Lines.{upto}
use Rattle.basics.proofs.Older.{Older, older_length, older_of, older_whole}
use Rattle.records.proofs.Histories.{at_older, holds_held}
use Rattle.records.proofs.Cuts.{upto_older}
use Rattle.records.proofs.Steps.{each_step}
use Rattle.tables.proofs.Laid.{sends_length}
use Rattle.tables.proofs.Scans.{records_upto, first_older}
use Rattle.tables.proofs.WellLaid.{records_length}
use Rattle.runs.proofs.Ways.{sound, Reached, goes_on}
use Rattle.runs.proofs.Next.{next_basic, next_received, next_forced}
use Rattle.runs.proofs.Stops.{waits}
use Rattle.events.specs.declared.Records.{Records}
use Rattle.events.specs.declared.Event as read
use Rattle.events.specs.declared.Event.TheVariants as kind
use Rattle.events.specs.Events.{meant, record_of}
use Rattle.layout.specs.declared.Table.{Table}
use Rattle.layout.specs.Tables.{state_of}
use Rattle.layout.proofs.Sections.{is_valid, section}
use Rattle.replay.specs.declared.Done.{Done}
use Rattle.replay.specs.declared.Replay.{Replay}
use Rattle.replay.specs.Notes.{note_of, taken, Noted}
use Rattle.replay.specs.Way.{Made, Pending, done_at, Stands, Way, top, Stops}
use Rattle.replay.proofs.Ways.{few, law, numbers, inside, note_open, open_note, same_top, top_sends}
use Rattle.replay.proofs.Notes.{Silent, noted_same, noted_struck, noted_sent}

-- a record that is read as no receipt means none
pub not_received : (e : read.Event) → ((q k c : ℕ) → e ≢ kind.Received q k c) → (m q k : ℕ) → meant e ≢ received q k m
not_received (kind.Basic n) ne m q k e = let z : ◌≡◌ {A = ℕ} 0 1 = cc in omega arith
not_received (kind.Forced n) ne m q k e = let z : ◌≡◌ {A = ℕ} 0 1 = cc in omega arith
not_received (kind.Sent d j c) ne m q k e = let z : ◌≡◌ {A = ℕ} 0 1 = cc in omega arith
not_received (kind.Received d j c) ne m q k e = ne d j c refl

module _ (r : Replay) (p : ℕ) (d : Done) (records : Records) (P : Pending r p d records) where
  abbrev t : Table
  t = r.table

  abbrev done : List Done
  done = r.done

  abbrev notes : List ℕ
  notes = r.notes.now

  abbrev lt : p < t.n
  lt = P.0

  abbrev W : Way t (set done p d) notes
  W = P.3

  abbrev c : State
  c = W.state

  abbrev s : State
  s = state_of t

  abbrev h : History
  h = history c p

  abbrev R : Reached t.n t.e s c
  R = W.reached

  wide : p < length done
  wide = let a = length-set done p d in let b = W.sixteen in let m = t.laid.3 in omega arith

  stands : Stands d h
  stands = subst (λ (x : Done). Stands x h) (get_or-set_same done p d _ wide) (W.stands p lt)

  other_done : (q : ℕ) → q ≢ p → done_at (set done p d) q ≡ done_at done q
  other_done q ne = get_or-set_other done p q d _ ne

  -- the way goes on to where p has come as far as e
  on : (e : Done) (g : History) {to : List ℕ} → Stands e g → Reached t.n t.e s (set c p g) → Noted t.n t.e (set c p g) to → Way t (set done p e) to
  on e g S Q N =
      let z = (sound W.reached.made).size in
      record {
        state = set c p g;
        reached = Q;
        sixteen = length-set done p e ∙ sym (length-set done p d) ∙ W.sixteen;
        stands = each_step (λ (q : ℕ) (x : History). q < t.n → Stands (done_at (set done p e) q) x) c p g (omega arith)
            (λ l. subst (λ (x : Done). Stands x g) (sym (get_or-set_same done p e _ wide)) S)
            (λ q ne l. subst (λ (x : Done). Stands x (history c q)) (other_done q ne ∙ sym (get_or-set_other done p q e _ ne)) (W.stands q l));
        noting = N;
      }

  short : length (history s p) ≤ t.e
  short = let H = section t p lt refl in let a = H.short in let b = H.count in omega arith

  -- number and count of sends are far below a word's end
  pub next_fits : (d.number ≤ 16384) × (d.sends ≤ 1024)
  next_fits =
      let a = stands.1 in
      let b = stands.2 in
      let n = numbers t W p in
      let l = sends_length h in
      let o = older_length (R.under p) in
      let f = short in
      let m = t.laid.4 in
      (omega arith, omega arith)

  pub room : length notes ≡ size t.n t.e
  room = r.room ∙ (is_valid t).is.whole ∙ ap₂ size (sym t.laid.1) (sym t.laid.2)

  -- the next record stands right behind what p has made
  next_older : {e : Event} → record_of records d.records ≡ e → Older (e ∷ h) (history s p)
  next_older {e} x =
      let o = first_older (word records.bytes.now) records.at (suc d.records) records.count P.2 in
      let u : upto d.records (history s p) ≡ h = ap (λ (i : ℕ). upto i (history s p)) stands.0 ∙ upto_older (R.under p) in
      let v = records_upto (word records.bytes.now) records.at d.records records.count (omega arith) in
      let w : records_at (word records.bytes.now) records.at d.records ≡ h = sym v ∙ ap (upto d.records) P.1 ∙ u in
      rw (← P.1, ← x, ← w) o

  pub next_within : d.records + 1 ≤ length (history s p)
  next_within = let a = records_length (word records.bytes.now) records.at records.count in let b = ap length P.1 in omega arith

  -- ---- checkpoints

  module _ {m : ℕ} (x : record_of records d.records ≡ basic m) where
    pub basic_goes : m ≡ d.number + 1 → Way t (set done p (record { records = d.records + 1; number = m; sends = d.sends })) notes
    basic_goes e =
        let a = stands.0 in
        let b = stands.1 in
        let next : m ≡ next_number h = omega arith in
        on _ (basic m ∷ h) (omega arith, refl, stands.2)
        (goes_on R p lt checkpoint (ap (λ (j : ℕ). basic j ∷ h) (sym next)) tt short (next_older x))
        (noted_same (sound R.made) p lt (record { count = refl; to = λ k. refl; carry = λ k. refl }) notes W.noting (λ q k. refl))

    pub basic_not : m ≢ d.number + 1 → Made t → ⊥
    basic_not ne M = let a = next_basic M R p (next_older x) in let b = stands.1 in ne (omega arith)

  -- ---- sends

  module _ {q : ℕ} (x : record_of records d.records ≡ sent q) where
    legal : (q < t.n) × (q ≢ p) × (suc (sends h) ≤ t.e)
    legal = law t W p (next_older x)

    -- there is room for the note, and it is a word
    pub sent_room : (q < 16) × (d.number ≤ 16384) × (d.sends + 1 ≤ t.e) × (t.e ≤ 1024)
    sent_room =
        let l = legal.0 in
        let m = t.laid.3 in
        let n = numbers t W p in
        let a = stands.1 in
        let b = stands.2 in
        let f = legal.2 in
        (omega arith, omega arith, omega arith, t.laid.4)

    pub sent_goes : {k i : ℕ} → k ≡ d.sends + 1 → i ≡ p * t.e + k
        → Way t (set done p (record { records = d.records + 1; number = d.number; sends = k })) (put_word notes i (note_of q d.number))
    sent_goes {k} {i} e f =
        let a = stands.0 in
        let b = stands.1 in
        let g = stands.2 in
        let l = legal in
        let y : k ≡ suc (sends h) = omega arith in
        let z = sent_room in
        let w : put_word notes i (note_of q d.number) ≡ put_word notes (p * t.e + suc (sends h)) (note_of q (number h)) =
        ap₂ (put_word notes) (f ∙ ap (λ (j : ℕ). p * t.e + j) y) (ap (note_of q) b)
        in
        on _ (sent q ∷ h) (omega arith, b, y)
        (goes_on R p lt (send q) refl (l.0, l.1) short (next_older x))
        (subst (Noted t.n t.e (set c p (sent q ∷ h))) (sym w) (noted_sent (sound R.made) p lt q z.0 (numbers t W p) l.2 notes W.noting room))

  -- ---- receipts

  -- the receipt of send k of q is p's next record, behind g: what p has made, and a forced checkpoint where there is one
  module _ {q k m : ℕ} {g : History} (o : Older (received q k m ∷ g) (history s p)) where
    pub received_legal : (q < t.n) × (q ≢ p) × (0 < k) × (k ≤ t.e) × (m ≤ number g)
    received_legal = law t W p o

    there : k ≤ (done_at done q).sends → k ≤ (done_at (set done p d) q).sends
    there le = rw (other_done q received_legal.1) le

    -- it waits for a send that isn't made
    late : (done_at done q).sends < k → sends (history c q) < k
    late lt =
        let e = other_done q received_legal.1 in
        let f = (W.stands q received_legal.0).2 in
        subst (λ (x : ℕ). x < k) (ap (λ (x : Done). x.sends) (sym e) ∙ f) lt

    -- where g ends what p has made, or the forced checkpoint behind it
    module _ (G : grown h (receipt q k) m ≡ received q k m ∷ g) (S : Silent (sound R.made) p lt (received q k m ∷ g))
        (unchanged : (i j : ℕ) → has_receipt g i j ≡ has_receipt h i j) where
      pub receipt_goes : (e : Done) → Stands e (received q k m ∷ g) → k ≤ (done_at done q).sends → m ≤ 16384 → {i : ℕ} → i ≡ q * t.e + k
          → word notes i ≡ note_of p m → Way t (set done p e) (put_word notes i taken)
      receipt_goes e A le most {i} w x =
          let L = received_legal in
          let O = note_open t W p q k lt L.0 L.2 (there le) m most (ap (word notes) (sym w) ∙ x) in
          let H = holds_held (history c q) p k O.there in
          subst (λ (j : ℕ). Way t (set done p e) (put_word notes j taken)) (sym w)
          (on e (received q k m ∷ g) A
          (goes_on R p lt (receipt q k) (ap (λ (j : ℕ). grown h (receipt q k) j) (sym O.carries) ∙ G) (L.0, L.1, O.there, O.unreceived) short o)
          (noted_struck (sound R.made) p lt S q k L.0 L.2 H.counted H.to (λ i j. ap (λ (b : Bool). (eqb q i && eqb k j) || b) (unchanged i j)) notes W.noting room))

      pub receipt_not : k ≤ (done_at done q).sends → {i : ℕ} → i ≡ q * t.e + k → word notes i ≢ note_of p m → Made t → ⊥
      receipt_not le {i} w ne M =
          let L = received_legal in
          let e = inside t W p q k lt L.0 L.2 (there le) in
          let T = next_received M R p o e in
          ne (ap (word notes) w ∙ open_note t W p q k lt L.0 L.2 (there le)
          (record { there = T.held; carries = T.carries; unreceived = sym (unchanged q k) ∙ T.first }))

      pub receipt_stops : (done_at done q).sends < k → top t (set done p d) p ≡ g → Stops t (set done p d) p
      receipt_stops lt e =
          let L = received_legal in
          waits q k m (rw e o) (subst (λ (x : ℕ). x < k) (sym (top_sends t W q L.0)) (late lt))

  -- what `took` says of the message, for a receipt whose records are those of e
  module _ {q k m i : ℕ} {g : History} (o : Older (received q k m ∷ g) (history s p)) (G : grown h (receipt q k) m ≡ received q k m ∷ g)
      (S : Silent (sound R.made) p lt (received q k m ∷ g)) (unchanged : (i j : ℕ) → has_receipt g i j ≡ has_receipt h i j)
      (longer : length h ≤ length g) (most : m ≤ 16384) (w : i ≡ q * t.e + k) where
    pub took_not : {b : Bool} → b ≡ leb k (done_at done q).sends → b ≡ true → word notes i ≢ note_of p m → Made t → ⊥
    took_not e x = receipt_not o G S unchanged (leb-true k (done_at done q).sends (sym e ∙ x)) w

    pub took : (e : Done) → Stands e (received q k m ∷ g) → top t (set done p d) p ≡ g → {b : Bool} {after : List ℕ} → b ≡ leb k (done_at done q).sends
        → after ≡ cond b (put_word notes i taken) notes → (b ≡ true → word notes i ≡ note_of p m)
        → MatchOption (then_some b e) ((after ≡ notes) × Stops t (set done p d) p)
        (λ x. Way t (set done p x) after × (d.records < x.records) × (x.records ≤ length (history s p)))
    took e A u {b = true} x y f =
        let l = older_length o in
        let a = A.0 in
        let j = stands.0 in (
          rw y (receipt_goes o G S unchanged e A (leb-true k (done_at done q).sends (sym x)) most w (f refl)),
          omega arith,
          omega arith,
        )
    took e A u {b = false} x y f = (y, receipt_stops o G S unchanged (leb-false k (done_at done q).sends (sym x)) u)

  -- ---- a receipt that forces none

  module _ {q k m : ℕ} (x : record_of records d.records ≡ received q k m) where
    abbrev here : Older (received q k m ∷ h) (history s p)
    here = next_older x

    pub plain_room : (p < 16) × (m ≤ 16384) × (q < t.n) × (k ≤ t.e)
    plain_room =
        let L = received_legal here in
        let b = t.laid.3 in
        let n = numbers t W p in
        let f = L.4 in
        (omega arith, omega arith, L.0, L.3)

    plain_grown : grown h (receipt q k) m ≡ received q k m ∷ h
    plain_grown = rw (le-ltb (number h) m (received_legal here).4)

    plain_silent : Silent (sound R.made) p lt (received q k m ∷ h)
    plain_silent = record { count = refl; to = λ k. refl; carry = λ k. refl }

    plain_top : top t (set done p d) p ≡ h
    plain_top = same_top t W p lt ∙ (rw (at_older here) refl)

    pub plain_not : {i : ℕ} {b : Bool} → i ≡ q * t.e + k → b ≡ leb k (done_at done q).sends → b ≡ true → word notes i ≢ note_of p m → Made t → ⊥
    plain_not w = took_not here plain_grown plain_silent (λ i j. refl) (omega arith) plain_room.1 w

    pub plain_took : {i : ℕ} {b : Bool} {after : List ℕ} → i ≡ q * t.e + k → b ≡ leb k (done_at done q).sends
        → after ≡ cond b (put_word notes i taken) notes → (b ≡ true → word notes i ≡ note_of p m)
        → MatchOption (then_some b (record { records = d.records + 1; number = d.number; sends = d.sends }))
        ((after ≡ notes) × Stops t (set done p d) p)
        (λ x. Way t (set done p x) after × (d.records < x.records) × (x.records ≤ length (history s p)))
    plain_took w = let a = stands.0 in
        took here plain_grown plain_silent (λ i j. refl) (omega arith) plain_room.1 w _ (omega arith, stands.1, stands.2) plain_top

  -- ---- a forced checkpoint, with the receipt behind it

  module _ {m : ℕ} (x : record_of records d.records ≡ forced m) where
    pub forced_low : m ≤ d.number → Made t → ⊥
    forced_low le M =
        let F = next_forced M R p (next_older x) in
        let l = ltb-true (number h) m F.greater in
        let b = stands.1 in
        omega arith

    pub forced_last : d.records + 1 ≡ records.count → Made t → ⊥
    forced_last e M =
        let F = next_forced M R p (next_older x) in
        let l = older_length F.behind in
        let a = stands.0 in
        let c = records_length (word records.bytes.now) records.at records.count in
        let z = ap length P.1 in
        omega arith

    module _ (further : d.records + 1 < records.count) where
      second_older : {e : Event} → record_of records (d.records + 1) ≡ e → Older (e ∷ forced m ∷ h) (history s p)
      second_older {e} y =
          let o = first_older (word records.bytes.now) records.at (suc (suc d.records)) records.count (omega arith) in
          let u : upto d.records (history s p) ≡ h = ap (λ (i : ℕ). upto i (history s p)) stands.0 ∙ upto_older (R.under p) in
          let v = records_upto (word records.bytes.now) records.at d.records records.count (omega arith) in
          let w : records_at (word records.bytes.now) records.at d.records ≡ h = sym v ∙ ap (upto d.records) P.1 ∙ u in
          let z : record_of records (suc d.records) ≡ e = ap (record_of records) (omega arith) ∙ y in
          rw (← P.1, ← z, ← x, ← w) o

      -- another record there
      pub forced_other : {e : Event} → record_of records (d.records + 1) ≡ e → ((q k : ℕ) → e ≢ received q k m) → Made t → ⊥
      forced_other {e} y ne M =
          let F = next_forced M R p (next_older x) in
          let a = older_of (second_older y) F.behind (le_refl _) in
          let b : e ∷ forced m ∷ h ≡ received F.q F.k m ∷ forced m ∷ h = older_whole a (le_refl _) in
          ne F.q F.k cc

      module _ {q k : ℕ} (y : record_of records (d.records + 1) ≡ received q k m) (greater : d.number < m) where
        abbrev both : Older (received q k m ∷ forced m ∷ h) (history s p)
        both = second_older y

        pub forced_room : (p < 16) × (m ≤ 16384) × (q < t.n) × (k ≤ t.e)
        forced_room =
            let L = received_legal both in
            let b = t.laid.3 in
            let l : m ≤ t.n * t.e = law t W p (next_older x) in
            let f = few t W in
            (omega arith, omega arith, L.0, L.3)

        forced_grown : grown h (receipt q k) m ≡ received q k m ∷ forced m ∷ h
        forced_grown = let b = stands.1 in rw (lt-ltb (number h) m (omega arith))

        forced_silent : Silent (sound R.made) p lt (received q k m ∷ forced m ∷ h)
        forced_silent = record { count = refl; to = λ k. refl; carry = λ k. refl }

        forced_top : top t (set done p d) p ≡ forced m ∷ h
        forced_top = same_top t W p lt ∙ (rw (at_older (next_older x)) refl)

        pub forced_not : {i : ℕ} {b : Bool} → i ≡ q * t.e + k → b ≡ leb k (done_at done q).sends → b ≡ true → word notes i ≢ note_of p m → Made t → ⊥
        forced_not w = took_not both forced_grown forced_silent (λ i j. refl) (omega arith) forced_room.1 w

        pub forced_took : {i : ℕ} {b : Bool} {after : List ℕ} → i ≡ q * t.e + k → b ≡ leb k (done_at done q).sends
            → after ≡ cond b (put_word notes i taken) notes → (b ≡ true → word notes i ≡ note_of p m)
            → MatchOption (then_some b (record { records = d.records + 1 + 1; number = m; sends = d.sends }))
            ((after ≡ notes) × Stops t (set done p d) p)
            (λ x. Way t (set done p x) after × (d.records < x.records) × (x.records ≤ length (history s p)))
        forced_took w = let a = stands.0 in
            took both forced_grown forced_silent (λ i j. refl) (omega arith) forced_room.1 w _ (omega arith, refl, stands.2) forced_top
