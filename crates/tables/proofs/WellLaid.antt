-- A well laid table is the layout of the records that it holds; and how a section's words change when a record is added.
use mathlib.Core.Path.{◌≡◌, refl, sym, ap, ◌∙◌, subst}
use mathlib.Core.Logic.{◌≢◌, ◌⊎◌, inl, inr}
use mathlib.Core.Bool.{true, false, not, ◌&&◌}
use mathlib.Core.List.{List, [], ◌∷◌, ◌++◌, append-nil, append_assoc}
use Prim.Native.Nat.{ℕ, zero, suc, ◌+◌, ◌-◌, ◌*◌, ◌≤◌, ◌<◌, zero-le}
use native.Mathlib.Nat.{zero-add, not-suc-le-zero, le_of_suc-le-suc}
use native.Mathlib.Omega.{arith}
use native.Mathlib.Decide.{dec_lt}
use lib.Dec.{leb, ltb, eqb}
use lib.ListN.{length, replicate, length-append, length-replicate, get_or-replicate}
use borrow.Author.Tests.{eqb-false, ltb-true, not-true, eqb-true, leb-true}
use Rattle.rules.specs.Records.{Event, History, State, history, number, sends}
use Rattle.xdr.specs.Words.{word}
use Rattle.rules.specs.Table.{heading, width, record_words, used_words, heading_words, section_words, sections_words, layout, event_of, event_at, records_at, start, section_at, sections_from, record_ok, record_ok_at, records_ok, zeros_at, section_ok, sections_ok, decoded, size}
use Rattle.tables.specs.Sections.{SendsLaid}
use Rattle.basics.proofs.Booleans.{Test, passes, fails, test, and_left, and_right, each_below}
use Rattle.tables.proofs.Places.{At, at_left, at_right, at_append}
use Rattle.tables.proofs.Laid.{Law, Legal, record_length, used_length, section_length, next, sections_length}
use Rattle.xdr.proofs.Words.{Bytes, bytes_of}

-- sections one after the other
pub sections_join : (E : ℕ) (w : ℕ → ℕ) (s : State) (p : ℕ) → ((q : ℕ) → length (history s q) ≤ E)
    → ((r : ℕ) → r < length s → At w (start E (p + r)) (section_words E (history s r))) → At w (start E p) (sections_words E s)
sections_join E w [] p short a = λ j lt. absurd (not-suc-le-zero lt)
sections_join E w (h ∷ s) p short a =
    at_append w (start E p) (section_words E h) (sections_words E s)
    (subst (λ (i : ℕ). At w (start E i) (section_words E h)) (let e : p + 0 ≡ p = omega arith in e) (a 0 (omega arith)))
    (start E (suc p)) (next E p ∙ ap (λ (x : ℕ). start E p + x) (sym (section_length E h (short 0))))
    (sections_join E w s (suc p) (λ q. short (suc q))
    (λ r lt. subst (λ (i : ℕ). At w (start E i) (section_words E (history s r))) (let e : p + suc r ≡ suc p + r = omega arith in e) (a (suc r) (omega arith))))

-- bytes whose words are those of a state's sections are the state's table
pub is_layout : (n E : ℕ) (s : State) (t : List ℕ) → Bytes t → length t ≡ size n E → length s ≡ n → ((q : ℕ) → length (history s q) ≤ E)
    → word t 0 ≡ n → word t 1 ≡ E → ((p : ℕ) → p < n → At (word t) (start E p) (section_words E (history s p))) → t ≡ layout n E s
unfolding layout
is_layout n E s t b l z short first second a =
    let c : At (word t) (start E 0) (sections_words E s) =
    sections_join E (word t) s 0 short
    (λ r lt. subst (λ (i : ℕ). At (word t) (start E i) (section_words E (history s r))) (sym (zero-add r)) (a r (omega arith)))
    in
    let whole : At (word t) 0 (n ∷ E ∷ sections_words E s) =
    at_append (word t) 0 (n ∷ E ∷ []) (sections_words E s) two (start E 0) (omega arith) c
    in
    let m = sections_length E s short in
    let m' : length (sections_words E s) ≡ n * (heading + width * E) = m ∙ ap (λ (x : ℕ). x * (heading + width * E)) z in
    bytes_of (n ∷ E ∷ sections_words E s) t (omega arith) b (λ i lt. ap (word t) (sym (zero-add i)) ∙ whole i lt)
  where
    two : At (word t) 0 (n ∷ E ∷ [])
    two zero lt = first
    two (suc zero) lt = second
    two (suc (suc j)) lt = absurd (omega arith)

-- ---- what the tests of a well laid table say

pub records_length : (w : ℕ → ℕ) (at i : ℕ) → length (records_at w at i) ≡ i
records_length w at zero = refl
records_length w at (suc i) = ap suc (records_length w at i)

-- the words of the record that starts at word i
abbrev words_at : (ℕ → ℕ) → ℕ → List ℕ
words_at w i = w i ∷ w (i + 1) ∷ w (i + 2) ∷ w (i + 3) ∷ []

own_words : (w : ℕ → ℕ) (i : ℕ) → At w i (words_at w i)
own_words w i zero lt = ap w (omega arith)
own_words w i (suc zero) lt = refl
own_words w i (suc (suc zero)) lt = refl
own_words w i (suc (suc (suc zero))) lt = refl
own_words w i (suc (suc (suc (suc j)))) lt = absurd (omega arith)

words_read : (n E p : ℕ) (h : History) (kind a b c : ℕ) → record_ok n E p h kind a b c ≡ true
    → (record_words (event_of kind a b c) h ≡ kind ∷ a ∷ b ∷ c ∷ []) × Law n E p (event_of kind a b c) h
words_read n E p h kind a b c ok = one (test (eqb kind 1)) (test (eqb kind 2)) (test (eqb kind 3)) (test (eqb kind 4))
  where
    -- a checkpoint
    saves : (leb a (n * E) && eqb b 0 && eqb c 0) ≡ true → (a ≤ n * E) × (b ≡ 0) × (c ≡ 0)
    saves o =
        let t = leb a (n * E) in
        let o' = and_left (t && eqb b 0) (eqb c 0) o in
        (leb-true a (n * E) (and_left t (eqb b 0) o'), eqb-true b 0 (and_right t (eqb b 0) o'), eqb-true c 0 (and_right (t && eqb b 0) (eqb c 0) o))

    -- a send or a receipt
    names : (ltb a n && not (eqb a p) && ltb 0 b && leb b E) ≡ true → (a < n) × (a ≢ p) × (0 < b) × (b ≤ E)
    names o =
        let c1 = ltb a n in
        let c2 = not (eqb a p) in
        let c3 = ltb 0 b in
        let o3 = and_left (c1 && c2 && c3) (leb b E) o in
        let o2 = and_left (c1 && c2) c3 o3 in (
          ltb-true a n (and_left c1 c2 o2),
          eqb-false a p (not-true (eqb a p) (and_right c1 c2 o2)),
          ltb-true 0 b (and_right (c1 && c2) c3 o3),
          leb-true b E (and_right (c1 && c2 && c3) (leb b E) o),
        )

    one : Test (eqb kind 1) → Test (eqb kind 2) → Test (eqb kind 3) → Test (eqb kind 4)
        → (record_words (event_of kind a b c) h ≡ kind ∷ a ∷ b ∷ c ∷ []) × Law n E p (event_of kind a b c) h
    one (passes e) y z u = let o = saves (rw e at ok) in rw (eqb-true kind 1 e, o.1, o.2) (refl, o.0)
    one (fails e) (passes y) z u = let o = saves (rw (e, y) at ok) in rw (eqb-true kind 2 y, o.1, o.2) (refl, o.0)
    one (fails e) (fails y) (passes z) u =
        let t = ltb a n && not (eqb a p) && ltb 0 b && leb b E in
        let rank = eqb b (suc (sends h)) in
        let o : (t && rank && eqb c (number h)) ≡ true = rw (e, y, z) at ok in
        let o' = and_left (t && rank) (eqb c (number h)) o in
        let is = eqb-true b (suc (sends h)) (and_right t rank o') in
        let m = names (and_left t rank o') in
        let le = m.3 in
        rw (eqb-true kind 3 z) ((rw (is, eqb-true c (number h) (and_right (t && rank) (eqb c (number h)) o))), (m.0, m.1, omega arith))
    one (fails e) (fails y) (fails z) (passes u) =
        let t = ltb a n && not (eqb a p) && ltb 0 b && leb b E in
        let o : (t && leb c (number h)) ≡ true = rw (e, y, z, u) at ok in
        let m = names (and_left t (leb c (number h)) o) in
        rw (eqb-true kind 4 u) (refl, (m.0, m.1, m.2, m.3, leb-true c (number h) (and_right t (leb c (number h)) o)))
    one (fails e) (fails y) (fails z) (fails u) =
        let o : false ≡ true = rw (e, y, z, u) at ok in
        absurd (let x : ◌≡◌ {A = ℕ} 0 1 = cc in omega arith)

-- a record that passes its test has the words that it was read from, and is within its ranges
pub record_read : (n E p : ℕ) (w : ℕ → ℕ) (i : ℕ) (h : History) → record_ok_at n E p h w i ≡ true
    → (record_words (event_at w i) h ≡ words_at w i) × Law n E p (event_at w i) h
record_read n E p w i h ok = words_read n E p h (w i) (w (i + 1)) (w (i + 2)) (w (i + 3)) ok

used_of : (n E : ℕ) (w : ℕ → ℕ) (p at i : ℕ) → records_ok n E w p at i ≡ true → At w at (used_words (records_at w at i))
used_of n E w p at zero ok = λ j lt. absurd (not-suc-le-zero lt)
used_of n E w p at (suc i) ok =
    at_append w at (used_words h) (record_words (event_at w k) h)
    (used_of n E w p at i (and_left (records_ok n E w p at i) (record_ok_at n E p h w k) ok))
    k (let l = used_length h in let m = records_length w at i in omega arith)
    (rw (record_read n E p w k h (and_right (records_ok n E w p at i) (record_ok_at n E p h w k) ok)).0 (own_words w k))
  where
    h : History
    h = records_at w at i

    k : ℕ
    k = at + width * i

zeros_of : (w : ℕ → ℕ) (at m : ℕ) → zeros_at w at m ≡ true → (j : ℕ) → j < m → w (at + j) ≡ 0
zeros_of w at m ok j lt = eqb-true (w (at + j)) 0 (each_below (zeros_at w at) (λ i. eqb (w (at + i)) 0) (λ k. refl) m ok j lt)

-- a section from its words
pub section_words_lem : (E : ℕ) (w : ℕ → ℕ) (at : ℕ) (h : History) → length h ≤ E → w at ≡ length h → w (at + 1) ≡ number h → w (at + 2) ≡ sends h
    → At w (at + heading) (used_words h) → ((j : ℕ) → j < width * (E - length h) → w (at + heading + width * length h + j) ≡ 0) → At w at (section_words E h)
section_words_lem E w at h le a b c used zeros =
    at_append w at (heading_words h) (used_words h ++ replicate m 0) three (at + heading) refl
    (at_append w (at + heading) (used_words h) (replicate m 0) used (at + heading + width * length h) (let l = used_length h in omega arith)
    (λ j lt. let lt' : j < m = subst (λ (x : ℕ). j < x) (length-replicate {A = ℕ} m 0) lt in zeros j lt' ∙ sym (get_or-replicate m j 0 0 lt')))
  where
    m : ℕ
    m = width * (E - length h)

    three : At w at (heading_words h)
    three zero lt = ap w (omega arith) ∙ a
    three (suc zero) lt = b
    three (suc (suc zero)) lt = c
    three (suc (suc (suc j))) lt = absurd (omega arith)

pub records_legal : (n E : ℕ) (w : ℕ → ℕ) (p at i : ℕ) → records_ok n E w p at i ≡ true → Legal n E p (records_at w at i)
records_legal n E w p at zero ok = tt
records_legal n E w p at (suc i) ok =
    let k = at + width * i in
    let h = records_at w at i in
    let t = record_ok_at n E p h w k in (
      (record_read n E p w k h (and_right (records_ok n E w p at i) t ok)).1,
      records_legal n E w p at i (and_left (records_ok n E w p at i) t ok),
    )

records_each : (n E : ℕ) (w : ℕ → ℕ) (p at c : ℕ) → records_ok n E w p at c ≡ true → (i : ℕ) → i < c
    → record_ok_at n E p (records_at w at i) w (at + width * i) ≡ true
records_each n E w p at c ok i lt =
    each_below (records_ok n E w p at) (λ j. record_ok_at n E p (records_at w at j) w (at + width * j)) (λ k. refl) c ok i lt

-- the words of a send: a search may read there what follows from the records before it
sends_laid : (n E : ℕ) (w : ℕ → ℕ) (p at c : ℕ) → records_ok n E w p at c ≡ true → SendsLaid w at c
sends_laid n E w p at c ok i lt is =
    let h = records_at w at i in
    let k = at + width * i in
    let r = ltb (w (k + 1)) n && not (eqb (w (k + 1)) p) && ltb 0 (w (k + 2)) && leb (w (k + 2)) E in
    let x = eqb (w (k + 2)) (suc (sends h)) in
    let y = eqb (w (k + 3)) (number h) in
    let o : (r && x && y) ≡ true = rw is at (records_each n E w p at c ok i lt) in (
      eqb-true (w (k + 2)) (suc (sends h)) (and_right r x (and_left (r && x) y o)),
      eqb-true (w (k + 3)) (number h) (and_right (r && x) y o),
    )

-- what the test of section p says of the history that is read from it
pub record SectionOf (n E : ℕ) (w : ℕ → ℕ) (p : ℕ) : Type 0 where
  pub short : length (section_at w E p) ≤ E
  pub words : At w (start E p) (section_words E (section_at w E p))
  pub legal : Legal n E p (section_at w E p)
  pub told : SendsLaid w (start E p + heading) (w (start E p))

pub section_of_lem : (n E : ℕ) (w : ℕ → ℕ) (p : ℕ) → section_ok n E w p ≡ true → SectionOf n E w p
section_of_lem n E w p ok =
    let at = start E p in
    let c = w at in
    let h = records_at w (at + heading) c in
    let t1 = leb c E in
    let t2 = records_ok n E w p (at + heading) c in
    let t3 = eqb (w (at + 1)) (number h) in
    let t4 = eqb (w (at + 2)) (sends h) in
    let t5 = zeros_at w (at + heading + width * c) (width * (E - c)) in
    let o4 = and_left (t1 && t2 && t3 && t4) t5 ok in
    let o3 = and_left (t1 && t2 && t3) t4 o4 in
    let o2 = and_left (t1 && t2) t3 o3 in
    let l : length h ≡ c = records_length w (at + heading) c in
    let le : c ≤ E = leb-true c E (and_left t1 t2 o2) in
    let le' : length h ≤ E = omega arith in
    let ok' = and_right t1 t2 o2 in
    record {
      short = le';
      words = section_words_lem E w at h le' (sym l)
          (eqb-true (w (at + 1)) (number h) (and_right (t1 && t2) t3 o3))
          (eqb-true (w (at + 2)) (sends h) (and_right (t1 && t2 && t3) t4 o4))
          (used_of n E w p (at + heading) c ok')
          (rw l (zeros_of w (at + heading + width * c) (width * (E - c)) (and_right (t1 && t2 && t3 && t4) t5 ok)));
      legal = records_legal n E w p (at + heading) c ok';
      told = sends_laid n E w p (at + heading) c ok';
    }

pub sections_each : (n E : ℕ) (w : ℕ → ℕ) (m : ℕ) → sections_ok n E w m ≡ true → (p : ℕ) → p < m → section_ok n E w p ≡ true
sections_each n E w m ok p lt = each_below (sections_ok n E w) (section_ok n E w) (λ k. refl) m ok p lt

from_length : (w : ℕ → ℕ) (E p m : ℕ) → length (sections_from w E p m) ≡ m
from_length w E p zero = refl
from_length w E p (suc m) = ap suc (from_length w E (suc p) m)

-- of any table
pub decoded_count : (t : List ℕ) → length (decoded t) ≡ word t 0
unfolding decoded
decoded_count t = from_length (word t) (word t 1) 0 (word t 0)

from_at : (w : ℕ → ℕ) (E p m r : ℕ) → r < m → history (sections_from w E p m) r ≡ section_at w E (p + r)
from_at w E p zero r lt = absurd (not-suc-le-zero lt)
from_at w E p (suc m) zero lt = ap (section_at w E) (let e : p ≡ p + 0 = omega arith in e)
from_at w E p (suc m) (suc r) lt = from_at w E (suc p) m r (le_of_suc-le-suc lt) ∙ ap (section_at w E) (let e : suc p + r ≡ p + suc r = omega arith in e)

pub from_beyond : (w : ℕ → ℕ) (E p m r : ℕ) → m ≤ r → history (sections_from w E p m) r ≡ []
from_beyond w E p zero r le = refl
from_beyond w E p (suc m) zero le = absurd (omega arith)
from_beyond w E p (suc m) (suc r) le = from_beyond w E (suc p) m r (le_of_suc-le-suc le)

-- ---- a well laid table

pub record IsTable (n E : ℕ) (t : List ℕ) : Type 0 where
  pub bytes : Bytes t
  pub whole : length t ≡ size n E
  pub first : word t 0 ≡ n
  pub second : word t 1 ≡ E
  pub laid : sections_ok n E (word t) n ≡ true

module _ (n E : ℕ) (t : List ℕ) (T : IsTable n E t) where
  pub decoded_is : decoded t ≡ sections_from (word t) E 0 n
  unfolding decoded
  decoded_is = rw (T.first, T.second)

  pub decoded_at : (p : ℕ) → p < n → history (decoded t) p ≡ section_at (word t) E p
  decoded_at p lt = rw decoded_is (from_at (word t) E 0 n p lt ∙ ap (section_at (word t) E) (zero-add p))

  pub decoded_length : length (decoded t) ≡ n
  decoded_length = rw decoded_is (from_length (word t) E 0 n)

  -- each section's words are those of the history that is read from it
  pub decoded_words : (p : ℕ) → p < n → At (word t) (start E p) (section_words E (history (decoded t) p))
  decoded_words p lt =
      subst (λ (h : History). At (word t) (start E p) (section_words E h)) (sym (decoded_at p lt))
      (section_of_lem n E (word t) p (sections_each n E (word t) n T.laid p lt)).words

  pub decoded_short : (p : ℕ) → length (history (decoded t) p) ≤ E
  decoded_short p = go (dec_lt p n)
    where
      go : Dec (p < n) → length (history (decoded t) p) ≤ E
      go (yes lt) = rw (decoded_at p lt) (section_of_lem n E (word t) p (sections_each n E (word t) n T.laid p lt)).short
      go (no l) = rw (decoded_is, from_beyond (word t) E 0 n p (omega arith)) zero-le

  pub decoded_layout : t ≡ layout n E (decoded t)
  decoded_layout = is_layout n E (decoded t) t T.bytes T.whole decoded_length decoded_short T.first T.second decoded_words

-- ---- more records

-- the words of records es, the newest first, that come after those of h
abbrev pub added_words : List Event → History → List ℕ
added_words [] h = []
added_words (e ∷ es) h = added_words es h ++ record_words e (es ++ h)

used_append : (es h : History) → used_words (es ++ h) ≡ used_words h ++ added_words es h
used_append [] h = sym (append-nil (used_words h))
used_append (e ∷ es) h =
    ap (λ (x : List ℕ). x ++ record_words e (es ++ h)) (used_append es h) ∙ append_assoc (used_words h) (added_words es h) (record_words e (es ++ h))

pub added_length : (es h : History) → length (added_words es h) ≡ width * length es
added_length [] h = refl
added_length (e ∷ es) h =
    length-append (added_words es h) (record_words e (es ++ h)) ∙ (let a = added_length es h in let b = record_length e (es ++ h) in omega arith)

-- The words of a section after more records, from those before: only the three at the section's start and those of the records change.
pub section_grown : (E : ℕ) (w v : ℕ → ℕ) (at : ℕ) (h es : History) → length es + length h ≤ E → At w at (section_words E h)
    → v at ≡ length es + length h → v (at + 1) ≡ number (es ++ h) → v (at + 2) ≡ sends (es ++ h)
    → At v (at + heading + width * length h) (added_words es h)
    → ((i : ℕ) → at + heading ≤ i → (i < at + heading + width * length h) ⊎ (at + heading + width * length h + width * length es ≤ i) → v i ≡ w i)
    → At v at (section_words E (es ++ h))
section_grown E w v at h es le a x y z added same =
    section_words_lem E v at (es ++ h) (let l = total in omega arith) (x ∙ sym total) y z
    (subst (At v (at + heading)) (sym (used_append es h))
    (at_append v (at + heading) (used_words h) (added_words es h)
    (λ j l. same (at + heading + j) (omega arith) (inl (let u = used_length h in omega arith)) ∙ used j l)
    (at + heading + width * length h) (let u = used_length h in omega arith) added))
    (λ j l. same (at + heading + width * length (es ++ h) + j) (omega arith) (inr (let u = total in omega arith)) ∙ zeros j l)
  where
    total : length (es ++ h) ≡ length es + length h
    total = length-append es h

    m : ℕ
    m = width * (E - length h)

    rest : At w (at + heading) (used_words h ++ replicate m 0)
    rest = at_right w at (heading_words h) (used_words h ++ replicate m 0) a (at + heading) refl

    used : At w (at + heading) (used_words h)
    used = at_left w (at + heading) (used_words h) (replicate m 0) rest

    after : At w (at + heading + width * length h) (replicate m 0)
    after = at_right w (at + heading) (used_words h) (replicate m 0) rest (at + heading + width * length h) (let u = used_length h in omega arith)

    zeros : (j : ℕ) → j < width * (E - length (es ++ h)) → w (at + heading + width * length (es ++ h) + j) ≡ 0
    zeros j l =
        let u = total in
        let i = j + width * length es in
        let k : i < m = omega arith in
        let k' : i < length (replicate {A = ℕ} m 0) = subst (λ (x : ℕ). i < x) (sym (length-replicate {A = ℕ} m 0)) k in
        ap w (let e : at + heading + width * length (es ++ h) + j ≡ at + heading + width * length h + i = omega arith in e) ∙ after i k' ∙ get_or-replicate m i 0 0 k
