-- What is noted of sends, and what is left of it once receipts are struck.
use mathlib.Core.Path.{◌≡◌, refl, sym, ap, ◌∙◌}
use mathlib.Core.Logic.{◌≢◌, ◌⊎◌, inl, inr}
use mathlib.Core.Bool.{Bool, true, false, cond, ◌&&◌, ◌||◌, and-false, and-true}
use mathlib.Core.List.{List, [], ◌∷◌}
use Prim.Native.Nat.{ℕ, suc, ◌+◌, ◌≤◌, ◌<◌, ◌%◌}
use native.Mathlib.Omega.{arith}
use native.Mathlib.Decide.{ℕ_discrete}
use lib.Dec.{leb, eqb}
use lib.ListN.{length, get_or, set, length-set}
use lib.Seq.{get_or-set_same, get_or-set_other, set-get_or}
use Rattle.rules.specs.Records.{Event, basic, forced, sent, received, History, sends, destination, has_receipt}
use Rattle.tables.proofs.Laid.{Law, Legal, sends_length}
use Rattle.cuts.specs.Notes.{note_of, noted, span_of, place_in, place_of, Inside, struck_once, struck, is_receipt, struck_by_place}
use Rattle.std.specs.Prelude.{Option, Some, None}
use Rattle.rules.specs.Table.{event_at}
use Rattle.tables.proofs.Scans.{event}
use Rattle.cuts.specs.declared.Span.{Span}
use borrow.Author.Tests.{eq-eqb, ne_eqb, le-leb, leb-true, eqb-true}
use native.Mathlib.Nat.{mod-eq_of_lt}
use Rattle.basics.proofs.Booleans.{Test, passes, fails, test}

-- ---- sends noted

module _ (from : ℕ) (to : List ℕ) where
  pub noted_length : (h : History) → length (noted from h to) ≡ length to
  noted_length [] = refl
  noted_length (e ∷ h) = length-set (noted from h to) (from + sends h + 1) (note_of e) ∙ noted_length h

  -- the places of other processes stay as they were
  pub noted_other : (h : History) (j : ℕ) → (j ≤ from) ⊎ (from + length h < j) → get_or (noted from h to) j 0 ≡ get_or to j 0
  noted_other [] j o = refl
  noted_other (e ∷ h) j o =
      get_or-set_other (noted from h to) (from + sends h + 1) j (note_of e) 0 (away o) ∙ noted_other h j (less o)
    where
      less : (j ≤ from) ⊎ (from + suc (length h) < j) → (j ≤ from) ⊎ (from + length h < j)
      less (inl x) = inl x
      less (inr x) = inr (omega arith)

      away : (j ≤ from) ⊎ (from + suc (length h) < j) → j ≢ from + sends h + 1
      away (inl x) z = absurd (omega arith)
      away (inr x) z = let l = sends_length h in absurd (omega arith)

  -- the place of the send that may come next
  noted_here : (e : Event) (h : History) → from + length (e ∷ h) < length to → get_or (noted from (e ∷ h) to) (from + sends h + 1) 0 ≡ note_of e
  noted_here e h room =
      let l = sends_length h in
      let m = noted_length h in
      get_or-set_same (noted from h to) (from + sends h + 1) (note_of e) 0 (omega arith)

  noted_there : (e : Event) (h : History) (k : ℕ) → k ≢ sends h + 1 → get_or (noted from (e ∷ h) to) (from + k) 0 ≡ get_or (noted from h to) (from + k) 0
  noted_there e h k ne = get_or-set_other (noted from h to) (from + sends h + 1) (from + k) (note_of e) 0 (λ z. ne (omega arith))

  -- each send has where it goes
  pub noted_sent : (n E p : ℕ) → n ≤ 16 → (h : History) → Legal n E p h → from + length h < length to → (k : ℕ) → 0 < k → k ≤ sends h
      → get_or (noted from h to) (from + k) 0 ≡ destination h k
  noted_sent n E p few [] legal room k pos le = absurd (omega arith)
  noted_sent n E p few (e ∷ h) legal room k pos le = go e legal.0 le (ℕ_discrete k (sends h + 1)) (noted_sent n E p few h legal.1 (omega arith) k pos)
    where
      go : (x : Event) → Law n E p x h → k ≤ sends (x ∷ h) → Dec (k ≡ sends h + 1) → (k ≤ sends h → get_or (noted from h to) (from + k) 0 ≡ destination h k)
          → get_or (noted from (x ∷ h) to) (from + k) 0 ≡ destination (x ∷ h) k
      go (basic m) a l d r = noted_there (basic m) h k (omega arith) ∙ r l
      go (forced m) a l d r = noted_there (forced m) h k (omega arith) ∙ r l
      go (received q j c) a l d r = noted_there (received q j c) h k (omega arith) ∙ r l
      go (sent q) a l (yes z) r =
          let s : k ≡ suc (sends h) = omega arith in
          let i : from + k ≡ from + sends h + 1 = omega arith in
          let m = a.0 in
          ap (λ (x : ℕ). get_or (noted from (sent q ∷ h) to) x 0) i ∙ noted_here (sent q) h room
          ∙ (rw (eq-eqb k (suc (sends h)) s) (mod-eq_of_lt (omega arith)))
      go (sent q) a l (no z) r =
          let ne : k ≢ suc (sends h) = (λ s. z (omega arith)) in
          noted_there (sent q) h k z ∙ r (omega arith) ∙ (rw (ne_eqb k (suc (sends h)) ne))

-- ---- receipts struck by their places

-- every place at which a receipt looks is in the list
pub place_inside : (spans : List Span) (len q k : ℕ) → Inside spans len → place_of (span_of spans q) k < len
place_inside spans len q k inside = go (test (leb k c))
  where
    c : ℕ
    c = (span_of spans q).count

    s : ℕ
    s = (span_of spans q).start

    go : Test (leb k c) → cond (leb k c) (s + k) 0 < len
    go (passes x) = let l = leb-true k c x in let i = inside q in rw x (omega arith)
    go (fails x) = let i = inside q in rw x (omega arith)

-- the next record, whose words start at word i
pub strike_next : (spans : List Span) (p : ℕ) (u : List ℕ) (w : ℕ → ℕ) (i : ℕ) {r : Bool} {x v : ℕ} → r ≡ is_receipt (event_at w i)
    → x ≡ place_of (span_of spans (w (i + 1) % 16)) (w (i + 2)) → v ≡ cond (r && eqb (get_or u x 0) p) 16 (get_or u x 0)
    → set u x v ≡ struck_by_place spans p (event_at w i ∷ []) u
strike_next spans p u w i {r} {x} {v} k n e =
    rw (event (λ (f : Event). struck_by_place spans p (f ∷ []) u) w i refl, ← n, e, k, event is_receipt w i refl) (go (eqb (w i) 4) (eqb (w i) 3))
  where
    go : (f g : Bool)
        → set u x (cond (cond f true (cond g false false) && eqb (get_or u x 0) p) 16 (get_or u x 0))
        ≡ cond f (set u x (cond (eqb (get_or u x 0) p) 16 (get_or u x 0))) (cond g u u)
    go true g = refl
    go false true = set-get_or u x 0
    go false false = set-get_or u x 0

module _ (spans : List Span) (p : ℕ) (to : List ℕ) where
  pub by_place_length : (h : History) → length (struck_by_place spans p h to) ≡ length to
  by_place_length [] = refl
  by_place_length (basic m ∷ h) = by_place_length h
  by_place_length (forced m ∷ h) = by_place_length h
  by_place_length (sent q ∷ h) = by_place_length h
  by_place_length (received q k c ∷ h) =
      let u = struck_by_place spans p h to in
      let i = place_of (span_of spans (q % 16)) k in
      length-set u i (cond (eqb (get_or u i 0) p) 16 (get_or u i 0)) ∙ by_place_length h

  -- one record more
  pub by_place_more : (e : Event) (h : History) → struck_by_place spans p (e ∷ []) (struck_by_place spans p h to) ≡ struck_by_place spans p (e ∷ h) to
  by_place_more (basic m) h = refl
  by_place_more (forced m) h = refl
  by_place_more (sent q) h = refl
  by_place_more (received q k c) h = refl

  -- what is left of the note of send k of process q, which is the only one at its place
  module _ (n E r q k : ℕ) (fewer : n ≤ 16) (few : p < 16) (lq : q < n) (in_List : (span_of spans q).start + k < length to) (pos : 0 < k)
      (count : k ≤ (span_of spans q).count)
      (only : (q' k' : ℕ) → q' < n → 0 < k' → k' ≤ (span_of spans q').count → (span_of spans q').start + k' ≡ (span_of spans q).start + k → (q' ≡ q) × (k' ≡ k)) where
    abbrev i : ℕ
    i = (span_of spans q).start + k

    place_only : (q' k' : ℕ) → q' < n → 0 < k' → place_of (span_of spans (q' % 16)) k' ≡ i → (q' ≡ q) × (k' ≡ k)
    place_only q' k' l pos' e = go (test (leb k' (span_of spans (q' % 16)).count))
      where
        m : q' % 16 ≡ q'
        m = mod-eq_of_lt (omega arith)

        go : Test (leb k' (span_of spans (q' % 16)).count) → (q' ≡ q) × (k' ≡ k)
        go (passes x) =
            let le : k' ≤ (span_of spans q').count = leb-true k' (span_of spans q').count (rw m at x) in
            only q' k' l pos' le (ap (λ (y : ℕ). (span_of spans y).start + k') (sym m) ∙ (rw x at e))
        go (fails x) = let z : 0 ≡ i = rw x at e in absurd (omega arith)

    place_is : place_of (span_of spans (q % 16)) k ≡ i
    place_is = let m : q % 16 ≡ q = mod-eq_of_lt (omega arith) in rw (m, le-leb k (span_of spans q).count count)

    pub by_place_at : (h : History) → Legal n E r h → get_or (struck_by_place spans p h to) i 0 ≡ cond (eqb (get_or to i 0) p && has_receipt h q k) 16 (get_or to i 0)
    by_place_at [] legal = rw (and-false (eqb (get_or to i 0) p))
    by_place_at (basic m ∷ h) legal = by_place_at h legal.1
    by_place_at (forced m ∷ h) legal = by_place_at h legal.1
    by_place_at (sent d ∷ h) legal = by_place_at h legal.1
    by_place_at (received q' k' c ∷ h) legal = go (ℕ_discrete x i) (by_place_at h legal.1)
      where
        u : List ℕ
        u = struck_by_place spans p h to

        x : ℕ
        x = place_of (span_of spans (q' % 16)) k'

        d : ℕ
        d = get_or to i 0

        -- struck twice is struck once
        twice : (a b : Bool) → a ≡ eqb d p → cond (eqb (cond (a && b) 16 d) p) 16 (cond (a && b) 16 d) ≡ cond a 16 d
        twice true true y = rw (ne_eqb 16 p (omega arith))
        twice true false y = rw (sym y)
        twice false b y = rw (sym y)

        go : Dec (x ≡ i) → get_or u i 0 ≡ cond (eqb d p && has_receipt h q k) 16 d
            → get_or (set u x (cond (eqb (get_or u x 0) p) 16 (get_or u x 0))) i 0
            ≡ cond (eqb d p && ((eqb q' q && eqb k' k) || has_receipt h q k)) 16 d
        go (yes z) f =
            let law = legal.0 in
            let m = place_only q' k' law.0 law.2 z in
            let l = by_place_length h in
            rw (z, eq-eqb q' q m.0, eq-eqb k' k m.1, and-true (eqb d p), get_or-set_same u i (cond (eqb (get_or u i 0) p) 16 (get_or u i 0)) 0 (omega arith), f)
            (twice (eqb d p) (has_receipt h q k) refl)
        go (no z) f =
            rw (get_or-set_other u x i (cond (eqb (get_or u x 0) p) 16 (get_or u x 0)) 0 (λ y. z (sym y)), f)
            (ap (λ (b : Bool). cond (eqb d p && (b || has_receipt h q k)) 16 d) (sym (other (test (eqb q' q)) (test (eqb k' k)))))
          where
            other : Test (eqb q' q) → Test (eqb k' k) → (eqb q' q && eqb k' k) ≡ false
            other (fails y) b = rw y
            other (passes y) (fails b) = rw (y, b)
            other (passes y) (passes b) =
                let f = eqb-true q' q y in
                let g = eqb-true k' k b in
                absurd (z (rw (f, g) place_is))

-- ---- receipts struck, and nothing at place 0 for one whose send is not noted

once_length : (p : ℕ) (x : Option ℕ) (to : List ℕ) → length (struck_once p x to) ≡ length to
once_length p None to = refl
once_length p (Some i) to = go (eqb (get_or to i 0) p)
  where
    go : (b : Bool) → length (cond b (set to i 16) to) ≡ length to
    go true = length-set to i 16
    go false = refl

module _ (spans : List Span) (p : ℕ) (to : List ℕ) where
  pub struck_length : (h : History) → length (struck spans p h to) ≡ length to
  struck_length [] = refl
  struck_length (basic m ∷ h) = struck_length h
  struck_length (forced m ∷ h) = struck_length h
  struck_length (sent q ∷ h) = struck_length h
  struck_length (received q k c ∷ h) = once_length p (place_in (span_of spans (q % 16)) k) (struck spans p h to) ∙ struck_length h

  -- behind place 0 it is the same by the places
  pub struck_behind : (i : ℕ) → 0 < i → i < length to → (h : History) → get_or (struck spans p h to) i 0 ≡ get_or (struck_by_place spans p h to) i 0
  struck_behind i pos in_List [] = refl
  struck_behind i pos in_List (basic m ∷ h) = struck_behind i pos in_List h
  struck_behind i pos in_List (forced m ∷ h) = struck_behind i pos in_List h
  struck_behind i pos in_List (sent q ∷ h) = struck_behind i pos in_List h
  struck_behind i pos in_List (received q k c ∷ h) = go (test (leb k span.count)) (struck_behind i pos in_List h)
    where
      span : Span
      span = span_of spans (q % 16)

      u : List ℕ
      u = struck spans p h to

      v : List ℕ
      v = struck_by_place spans p h to

      j : ℕ
      j = span.start + k

      -- at its place, and elsewhere
      here : (b : Bool) → get_or u i 0 ≡ get_or v i 0 → get_or (cond b (set u i 16) u) i 0 ≡ get_or (set v i (cond b 16 (get_or v i 0))) i 0
      here true f =
          let m = struck_length h in
          let n = by_place_length spans p to h in
          get_or-set_same u i 16 0 (omega arith) ∙ sym (get_or-set_same v i 16 0 (omega arith))
      here false f = f ∙ sym (ap (λ (l : List ℕ). get_or l i 0) (set-get_or v i 0))

      off : j ≢ i → (b : Bool) → get_or (cond b (set u j 16) u) i 0 ≡ get_or u i 0
      off ne true = get_or-set_other u j i 16 0 (λ z. ne (sym z))
      off ne false = refl

      at : Dec (j ≡ i) → get_or u i 0 ≡ get_or v i 0
          → get_or (cond (eqb (get_or u j 0) p) (set u j 16) u) i 0 ≡ get_or (set v j (cond (eqb (get_or v j 0) p) 16 (get_or v j 0))) i 0
      at (yes z) f = rw (z, f) (here (eqb (get_or v i 0) p) f)
      at (no z) f = off z (eqb (get_or u j 0) p) ∙ f ∙ sym (get_or-set_other v j i (cond (eqb (get_or v j 0) p) 16 (get_or v j 0)) 0 (λ y. z (sym y)))

      go : Test (leb k span.count) → get_or u i 0 ≡ get_or v i 0
          → get_or (struck_once p (place_in span k) u) i 0
          ≡ get_or (set v (place_of span k) (cond (eqb (get_or v (place_of span k) 0) p) 16 (get_or v (place_of span k) 0))) i 0
      go (passes x) f = rw x (at (ℕ_discrete j i) f)
      go (fails x) f = rw x (f ∙ sym (get_or-set_other v 0 i (cond (eqb (get_or v 0 0) p) 16 (get_or v 0 0)) 0 (λ y. absurd (omega (arith, y, pos)))))

  -- what is left of the note of send k of process q, which is the only one at its place
  module _ (n E r q k : ℕ) (fewer : n ≤ 16) (few : p < 16) (lq : q < n) (in_List : (span_of spans q).start + k < length to) (pos : 0 < k)
      (count : k ≤ (span_of spans q).count)
      (only : (q' k' : ℕ) → q' < n → 0 < k' → k' ≤ (span_of spans q').count → (span_of spans q').start + k' ≡ (span_of spans q).start + k → (q' ≡ q) × (k' ≡ k)) where
    pub struck_at : (h : History) → Legal n E r h
        → get_or (struck spans p h to) ((span_of spans q).start + k) 0
        ≡ cond (eqb (get_or to ((span_of spans q).start + k) 0) p && has_receipt h q k) 16 (get_or to ((span_of spans q).start + k) 0)
    struck_at h legal = struck_behind ((span_of spans q).start + k) (omega arith) in_List h ∙ by_place_at spans p to n E r q k fewer few lq in_List pos count only h legal
