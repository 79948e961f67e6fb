-- A made state's table is well laid and holds the state's records.
use mathlib.Core.Path.{◌≡◌, refl, sym, ap, ap₂, ◌∙◌, subst}
use mathlib.Core.Logic.{◌≢◌}
use mathlib.Core.Bool.{true}
use mathlib.Core.List.{List, [], ◌∷◌, ◌++◌}
use Prim.Native.Nat.{ℕ, zero, suc, ◌+◌, ◌-◌, ◌*◌, ◌≤◌, ◌<◌, zero-le}
use native.Mathlib.Nat.{le_trans, zero-add, not-suc-le-zero, le_of_suc-le-suc, suc-mul}
use native.Mathlib.Omega.{arith}
use lib.ListN.{length, get_or, replicate, length-append, length-replicate, get_or-replicate}
use borrow.Author.Tests.{lt-ltb, le-leb, eq-eqb, ne_eqb}
use Rattle.rules.specs.Records.{Event, basic, forced, sent, received, History, State, history, number, sends}
use Rattle.xdr.specs.Words.{word}
use Rattle.rules.specs.Table.{heading, width, record_words, used_words, heading_words, section_words, sections_words, layout, event_at, records_at, start, section_at, sections_from, record_ok_at, records_ok, zeros_at, section_ok, sections_ok, decoded, size}
use Rattle.basics.proofs.Older.{Older, same, newer, older_trans}
use Rattle.records.proofs.Histories.{holds_held, sends_older, Each, each_older, rising_older}
use Rattle.records.proofs.Receipts.{Source}
use Rattle.records.proofs.Made.{Name, Sound, number_le}
use Rattle.tables.proofs.Places.{At, at_word, at_left, at_right}
use Rattle.xdr.proofs.Words.{Small, small_append, small_at, small_zeros, word_bytes, bytes_length}
use Rattle.tables.proofs.Ranges.{InRange, product}

-- ---- the records of a made state are within their ranges

abbrev pub Law : ℕ → ℕ → ℕ → Event → History → Type 0
Law n E p (basic m) h = m ≤ n * E
Law n E p (forced m) h = m ≤ n * E
Law n E p (sent q) h = (q < n) × (q ≢ p) × (suc (sends h) ≤ E)
Law n E p (received q k c) h = (q < n) × (q ≢ p) × (0 < k) × (k ≤ E) × (c ≤ number h)

abbrev pub Legal : ℕ → ℕ → ℕ → History → Type 0
Legal n E p = Each (Law n E p)

pub legal_number : (n E p : ℕ) (h : History) → Legal n E p h → number h ≤ n * E
legal_number n E p [] L = zero-le
legal_number n E p (basic m ∷ h) L = L.0
legal_number n E p (forced m ∷ h) L = L.0
legal_number n E p (sent q ∷ h) L = legal_number n E p h L.1
legal_number n E p (received q k c ∷ h) L = legal_number n E p h L.1

pub sends_length : (h : History) → sends h ≤ length h
sends_length [] = zero-le
sends_length (basic m ∷ h) = let r = sends_length h in omega arith
sends_length (forced m ∷ h) = let r = sends_length h in omega arith
sends_length (sent q ∷ h) = let r = sends_length h in omega arith
sends_length (received q k c ∷ h) = let r = sends_length h in omega arith

module _ (n E : ℕ) (s : State) (M : Sound n E s) where
  number_part : (p : ℕ) (h : History) → Older h (history s p) → number h ≤ n * E
  number_part p h o = le_trans (rising_older o (M.rising p)) (number_le n E s M p)

  sends_part : (p : ℕ) (h : History) → Older h (history s p) → sends h ≤ E
  sends_part p h o = le_trans (sends_older o) (le_trans (sends_length (history s p)) (M.short p))

  law_part : (p : ℕ) (e : Event) (h : History) → Older (e ∷ h) (history s p) → Law n E p e h
  law_part p (basic m) h o = number_part p (basic m ∷ h) o
  law_part p (forced m) h o = number_part p (forced m ∷ h) o
  law_part p (sent q) h o =
      let N = (each_older (Name n p) o (M.named p)).0 in
      (N.0, N.1, sends_part p (sent q ∷ h) o)
  law_part p (received q k c) h o =
      let N = (each_older (Name n p) o (M.named p)).0 in
      let S = (each_older (Source s p) o (M.sourced p)).0 in
      let H = holds_held (history s q) p k S.0 in
      (N.0, N.1, H.positive, le_trans H.counted (sends_part q (history s q) same), S.2)

  legal_part : (p : ℕ) (h : History) → Older h (history s p) → Legal n E p h
  legal_part p [] o = tt
  legal_part p (e ∷ h) o = (law_part p e h o, legal_part p h (older_trans (newer same) o))

  pub legal : (p : ℕ) → Legal n E p (history s p)
  legal p = legal_part p (history s p) same

-- ---- reading records back

pub record_length : (e : Event) (h : History) → length (record_words e h) ≡ width
record_length (basic m) h = refl
record_length (forced m) h = refl
record_length (sent q) h = refl
record_length (received q k c) h = refl

pub used_length : (h : History) → length (used_words h) ≡ width * length h
used_length [] = refl
used_length (e ∷ h) = length-append (used_words h) (record_words e h) ∙ (let r = used_length h in let z = record_length e h in omega arith)

-- the words of the newest record
newest_at : (w : ℕ → ℕ) (at : ℕ) (e : Event) (h : History) → At w at (used_words (e ∷ h)) → At w (at + width * length h) (record_words e h)
newest_at w at e h a = at_right w at (used_words h) (record_words e h) a (at + width * length h) (let l = used_length h in omega arith)

first_at : (w : ℕ → ℕ) (i : ℕ) (xs : List ℕ) → 0 < length xs → At w i xs → w i ≡ get_or xs 0 0
first_at w i xs some a = at_word w i xs a 0 i some (omega arith)

event_at_lem : (w : ℕ → ℕ) (i : ℕ) (e : Event) (h : History) → At w i (record_words e h) → event_at w i ≡ e
event_at_lem w i (basic m) h a = rw (first_at w i (record_words (basic m) h) (omega arith) a, a 1 (omega arith))
event_at_lem w i (forced m) h a = rw (first_at w i (record_words (forced m) h) (omega arith) a, a 1 (omega arith))
event_at_lem w i (sent q) h a = rw (first_at w i (record_words (sent q) h) (omega arith) a, a 1 (omega arith))
event_at_lem w i (received q k c) h a =
    rw (first_at w i (record_words (received q k c) h) (omega arith) a, a 1 (omega arith), a 2 (omega arith), a 3 (omega arith))

pub records_at_lem : (w : ℕ → ℕ) (at : ℕ) (h : History) → At w at (used_words h) → records_at w at (length h) ≡ h
records_at_lem w at [] a = refl
records_at_lem w at (e ∷ h) a =
    ap₂ (λ (x : Event) (xs : History). x ∷ xs) (event_at_lem w (at + width * length h) e h (newest_at w at e h a))
    (records_at_lem w at h (at_left w at (used_words h) (record_words e h) a))

-- ---- records are well laid

record_ok_lem : (n E p : ℕ) (w : ℕ → ℕ) (i : ℕ) (e : Event) (h : History) → At w i (record_words e h) → Law n E p e h → record_ok_at n E p h w i ≡ true
record_ok_lem n E p w i (basic m) h a L =
    rw (first_at w i (record_words (basic m) h) (omega arith) a, a 1 (omega arith), a 2 (omega arith), a 3 (omega arith), le-leb m (n * E) L)
record_ok_lem n E p w i (forced m) h a L =
    rw (first_at w i (record_words (forced m) h) (omega arith) a, a 1 (omega arith), a 2 (omega arith), a 3 (omega arith), le-leb m (n * E) L)
record_ok_lem n E p w i (sent q) h a L =
    rw (
      first_at w i (record_words (sent q) h) (omega arith) a,
      a 1 (omega arith),
      a 2 (omega arith),
      a 3 (omega arith),
      lt-ltb q n L.0,
      ne_eqb q p L.1,
      lt-ltb 0 (suc (sends h)) (omega arith),
      le-leb (suc (sends h)) E L.2,
      eq-eqb (suc (sends h)) (suc (sends h)) refl,
      eq-eqb (number h) (number h) refl,
    )
record_ok_lem n E p w i (received q k c) h a L =
    rw (
      first_at w i (record_words (received q k c) h) (omega arith) a,
      a 1 (omega arith),
      a 2 (omega arith),
      a 3 (omega arith),
      lt-ltb q n L.0,
      ne_eqb q p L.1,
      lt-ltb 0 k L.2,
      le-leb k E L.3,
      le-leb c (number h) L.4,
    )

records_ok_lem : (n E : ℕ) (w : ℕ → ℕ) (p at : ℕ) (h : History) → At w at (used_words h) → Legal n E p h → records_ok n E w p at (length h) ≡ true
records_ok_lem n E w p at [] a L = refl
records_ok_lem n E w p at (e ∷ h) a L =
    let b = at_left w at (used_words h) (record_words e h) a in
    rw (records_ok_lem n E w p at h b L.1, records_at_lem w at h b) (record_ok_lem n E p w (at + width * length h) e h (newest_at w at e h a) L.0)

zeros_at_lem : (w : ℕ → ℕ) (at m : ℕ) → ((j : ℕ) → j < m → w (at + j) ≡ 0) → zeros_at w at m ≡ true
zeros_at_lem w at zero z = refl
zeros_at_lem w at (suc m) z = rw (zeros_at_lem w at m (λ j lt. z j (omega arith)), eq-eqb (w (at + m)) 0 (z m (omega arith)))

-- ---- sections

pub section_length : (E : ℕ) (h : History) → length h ≤ E → length (section_words E h) ≡ heading + width * E
section_length E h le =
    let a = length-append (used_words h) (replicate (width * (E - length h)) 0) in
    let b = used_length h in
    let c = length-replicate {A = ℕ} (width * (E - length h)) 0 in
    omega arith

module _ (n E : ℕ) (w : ℕ → ℕ) (p : ℕ) (h : History) (le : length h ≤ E) (a : At w (start E p) (section_words E h)) where
  count_at : w (start E p) ≡ length h
  count_at = at_word w (start E p) (section_words E h) a 0 (start E p) (omega arith) (omega arith)

  number_at : w (start E p + 1) ≡ number h
  number_at = a 1 (omega arith)

  sends_at : w (start E p + 2) ≡ sends h
  sends_at = a 2 (omega arith)

  rest_at : At w (start E p + heading) (used_words h ++ replicate (width * (E - length h)) 0)
  rest_at = at_right w (start E p) (heading_words h) (used_words h ++ replicate (width * (E - length h)) 0) a (start E p + heading) refl

  used_at : At w (start E p + heading) (used_words h)
  used_at = at_left w (start E p + heading) (used_words h) (replicate (width * (E - length h)) 0) rest_at

  section_at_lem : section_at w E p ≡ h
  section_at_lem = rw count_at (records_at_lem w (start E p + heading) h used_at)

  section_ok_lem : Legal n E p h → section_ok n E w p ≡ true
  section_ok_lem L =
      let m = width * (E - length h) in
      let z : At w (start E p + heading + width * length h) (replicate m 0) =
      at_right w (start E p + heading) (used_words h) (replicate m 0) rest_at (start E p + heading + width * length h) (let l = used_length h in omega arith)
      in
      let y = zeros_at_lem w (start E p + heading + width * length h) m
      (λ j lt. z j (subst (λ (x : ℕ). j < x) (sym (length-replicate {A = ℕ} m 0)) lt) ∙ get_or-replicate m j 0 0 lt) in
      rw (
        count_at,
        number_at,
        sends_at,
        records_at_lem w (start E p + heading) h used_at,
        records_ok_lem n E w p (start E p + heading) h used_at L,
        le-leb (length h) E le,
        eq-eqb (number h) (number h) refl,
        eq-eqb (sends h) (sends h) refl,
      ) y

pub next : (E p : ℕ) → start E (suc p) ≡ start E p + (heading + width * E)
next E p = omega arith

-- section r of a list of sections that begins with section p
sections_split : (E : ℕ) (w : ℕ → ℕ) (s : State) (p : ℕ) → ((q : ℕ) → length (history s q) ≤ E) → At w (start E p) (sections_words E s)
    → (r : ℕ) → r < length s → At w (start E (p + r)) (section_words E (history s r))
sections_split E w [] p short a r lt = absurd (not-suc-le-zero lt)
sections_split E w (h ∷ s) p short a zero lt =
    subst (λ (i : ℕ). At w (start E i) (section_words E h)) (let e : p ≡ p + 0 = omega arith in e) (at_left w (start E p) (section_words E h) (sections_words E s) a)
sections_split E w (h ∷ s) p short a (suc r) lt =
    subst (λ (i : ℕ). At w (start E i) (section_words E (history s r))) (let e : suc p + r ≡ p + suc r = omega arith in e)
    (sections_split E w s (suc p) (λ q. short (suc q))
    (at_right w (start E p) (section_words E h) (sections_words E s) a (start E (suc p))
    (next E p ∙ ap (λ (x : ℕ). start E p + x) (sym (section_length E h (short 0)))))
    r (le_of_suc-le-suc lt))

sections_read : (E : ℕ) (w : ℕ → ℕ) (s : State) (p : ℕ) → ((q : ℕ) → length (history s q) ≤ E) → At w (start E p) (sections_words E s)
    → sections_from w E p (length s) ≡ s
sections_read E w [] p short a = refl
sections_read E w (h ∷ s) p short a =
    ap₂ (λ (x : History) (xs : State). x ∷ xs)
    (section_at_lem 0 E w p h (short 0) (at_left w (start E p) (section_words E h) (sections_words E s) a))
    (sections_read E w s (suc p) (λ q. short (suc q))
    (at_right w (start E p) (section_words E h) (sections_words E s) a (start E (suc p))
    (next E p ∙ ap (λ (x : ℕ). start E p + x) (sym (section_length E h (short 0))))))

pub sections_length : (E : ℕ) (s : State) → ((q : ℕ) → length (history s q) ≤ E) → length (sections_words E s) ≡ length s * (heading + width * E)
sections_length E [] short = omega arith
sections_length E (h ∷ s) short =
    let a = sections_length E s (λ q. short (suc q)) in
    let b = section_length E h (short 0) in
    let c = length-append (section_words E h) (sections_words E s) in
    let d = suc-mul (length s) (heading + width * E) in
    c ∙ ap₂ (λ (x y : ℕ). x + y) b a ∙ (omega arith)

sections_ok_lem : (n E : ℕ) (w : ℕ → ℕ) (s : State) → ((q : ℕ) → length (history s q) ≤ E) → ((p : ℕ) → Legal n E p (history s p))
    → At w (start E 0) (sections_words E s) → (p : ℕ) → p ≤ length s → sections_ok n E w p ≡ true
sections_ok_lem n E w s short L a zero le = refl
sections_ok_lem n E w s short L a (suc p) le =
    let b = subst (λ (i : ℕ). At w (start E i) (section_words E (history s p))) (zero-add p) (sections_split E w s 0 short a p (omega arith)) in
    rw (sections_ok_lem n E w s short L a p (omega arith)) (section_ok_lem n E w p (history s p) (short p) b (L p))

-- ---- words fit

small_record : (n E p : ℕ) → n ≤ 16 → E ≤ 1024 → n * E ≤ 16384 → (e : Event) (h : History) → number h ≤ n * E → Law n E p e h → Small (record_words e h)
small_record n E p a b c (basic m) h l L = omega arith
small_record n E p a b c (forced m) h l L = omega arith
small_record n E p a b c (sent q) h l L = let x = L.0 in let y = L.2 in omega arith
small_record n E p a b c (received q k m) h l L = let x = L.0 in let y = L.3 in let z = L.4 in omega arith

small_used : (n E p : ℕ) → n ≤ 16 → E ≤ 1024 → n * E ≤ 16384 → (h : History) → Legal n E p h → Small (used_words h)
small_used n E p a b c [] L = tt
small_used n E p a b c (e ∷ h) L =
    small_append (used_words h) (record_words e h) (small_used n E p a b c h L.1) (small_record n E p a b c e h (legal_number n E p h L.1) L.0)

small_sections : (n E : ℕ) → n ≤ 16 → E ≤ 1024 → n * E ≤ 16384 → (s : State) (p : ℕ)
    → ((q : ℕ) → length (history s q) ≤ E) → ((q : ℕ) → number (history s q) ≤ n * E) → ((q : ℕ) → Legal n E (p + q) (history s q)) → Small (sections_words E s)
small_sections n E a b c [] p short num L = tt
small_sections n E a b c (h ∷ s) p short num L =
    let x = short 0 in
    let y = num 0 in
    let z = sends_length h in
    small_append (section_words E h) (sections_words E s) (
      omega arith,
      (
        omega arith,
        (
          omega arith,
          small_append (used_words h) (replicate (width * (E - length h)) 0) (small_used n E (p + 0) a b c h (L 0)) (small_zeros (width * (E - length h))),
        ),
      ),
    )
    (small_sections n E a b c s (suc p) (λ q. short (suc q)) (λ q. num (suc q))
    (λ q. subst (λ (i : ℕ). Legal n E i (history s q)) (let e : p + suc q ≡ suc p + q = omega arith in e) (L (suc q))))

-- ---- the table of a made state

module _ (n E : ℕ) (d : InRange n E) (s : State) (M : Sound n E s) where
  abbrev words : List ℕ
  words = n ∷ E ∷ sections_words E s

  small_words : Small words
  small_words =
      let a = d.processes in
      let b = d.records in (
        omega arith,
        (
          omega arith,
          small_sections n E a b (product n E a b) s 0 M.short (number_le n E s M) (λ q. subst (λ (i : ℕ). Legal n E i (history s q)) (sym (zero-add q)) (legal n E s M q)),
        ),
      )

  layout_at : At (word (layout n E s)) 0 words
  unfolding layout
  layout_at j lt = rw (zero-add j) (word_bytes words j lt (small_at words small_words j))

  pub layout_n : word (layout n E s) 0 ≡ n
  layout_n = layout_at 0 (omega arith)

  pub layout_e : word (layout n E s) 1 ≡ E
  layout_e = layout_at 1 (omega arith)

  sections_place : At (word (layout n E s)) (start E 0) (sections_words E s)
  sections_place = at_right (word (layout n E s)) 0 (n ∷ E ∷ []) (sections_words E s) layout_at (start E 0) (omega arith)

  pub layout_length : length (layout n E s) ≡ size n E
  unfolding layout
  layout_length =
      let a = bytes_length words in
      let b = sections_length E s M.short in
      let c = M.size in
      let e : length (sections_words E s) ≡ n * (heading + width * E) = b ∙ ap (λ (x : ℕ). x * (heading + width * E)) c in
      omega arith

  pub layout_ok : sections_ok n E (word (layout n E s)) n ≡ true
  layout_ok =
      let z = M.size in
      sections_ok_lem n E (word (layout n E s)) s M.short (legal n E s M) sections_place n (omega arith)

  pub layout_decoded : decoded (layout n E s) ≡ s
  unfolding decoded
  layout_decoded = rw (layout_n ∙ sym M.size, layout_e) (sections_read E (word (layout n E s)) s 0 M.short sections_place)

  -- the number in a section's heading
  pub layout_number : (p : ℕ) → p < n → word (layout n E s) (start E p + 1) ≡ number (history s p)
  layout_number p lt =
      let m = M.size in
      subst (λ (i : ℕ). At (word (layout n E s)) (start E i) (section_words E (history s p))) (zero-add p)
      (sections_split E (word (layout n E s)) s 0 M.short sections_place p (omega arith)) 1 (omega arith)
