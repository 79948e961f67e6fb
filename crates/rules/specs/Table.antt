-- Document 01, "The table": how bytes hold the records, and when a table is well laid.
use Rattle.std.specs.Prelude.{Bool, true, false, not, cond, ◌&&◌, ◌||◌, List, [], ◌∷◌, ◌++◌, ℕ, zero, suc, ◌+◌, ◌-◌, ◌*◌, leb, ltb, eqb, length, replicate}
use Rattle.xdr.specs.Words.{word, bytes}
use Rattle.rules.specs.Records.{Event, basic, forced, sent, received, History, State, number, sends}

-- n is 1 to 16, E is 1 to 1,024
abbrev pub in_range : ℕ → ℕ → Bool
in_range n E = leb 1 n && leb n 16 && leb 1 E && leb E 1024

-- a section has a heading of three words (its count c of used records, the current number, its count of sends) and E records
abbrev pub heading : ℕ
heading = 3

-- the words of a record: kind, a, b and, for a send or receipt, the carried number
abbrev pub width : ℕ
width = 4

-- where section p starts
abbrev pub start : ℕ → ℕ → ℕ
start E p = 2 + p * (heading + width * E)

-- the words of the largest table
abbrev pub most_words : ℕ
most_words = start 1024 16

-- the table's length in bytes, 8 + 4 × n × (3 + 4 × E)
abbrev pub size : ℕ → ℕ → ℕ
size n E = 8 + 4 * n * (heading + width * E)

-- ---- from records to bytes

-- the words of a record that comes after those of h
abbrev pub record_words : Event → History → List ℕ
record_words (basic m) h = 1 ∷ m ∷ 0 ∷ 0 ∷ []
record_words (forced m) h = 2 ∷ m ∷ 0 ∷ 0 ∷ []
record_words (sent q) h = 3 ∷ q ∷ suc (sends h) ∷ number h ∷ []
record_words (received q k c) h = 4 ∷ q ∷ k ∷ c ∷ []

-- the used records, oldest first
abbrev pub used_words : History → List ℕ
used_words [] = []
used_words (e ∷ h) = used_words h ++ record_words e h

abbrev pub heading_words : History → List ℕ
heading_words h = length h ∷ number h ∷ sends h ∷ []

-- a section: its heading, the used records, and zeros for those that are not used
abbrev pub section_words : ℕ → History → List ℕ
section_words E h = heading_words h ++ (used_words h ++ replicate (width * (E - length h)) 0)

abbrev pub sections_words : ℕ → State → List ℕ
sections_words E [] = []
sections_words E (h ∷ s) = section_words E h ++ sections_words E s

-- the table of a state
unfoldable pub layout : ℕ → ℕ → State → List ℕ
layout n E s = bytes (n ∷ E ∷ sections_words E s)

-- n processes without records: their table has n, E and zeros
abbrev pub fresh : ℕ → State
fresh n = replicate n []

-- ---- from bytes to records; w i is word i of the table

-- a record from its words; a well laid table has no other kinds than these
abbrev pub event_of : ℕ → ℕ → ℕ → ℕ → Event
event_of kind a b c = cond (eqb kind 4) (received a b c) (cond (eqb kind 3) (sent a) (cond (eqb kind 2) (forced a) (basic a)))

-- the record whose words start at word i
abbrev pub event_at : (ℕ → ℕ) → ℕ → Event
event_at w i = event_of (w i) (w (i + 1)) (w (i + 2)) (w (i + 3))

-- the first i records from word `at` on
abbrev pub records_at : (ℕ → ℕ) → ℕ → ℕ → History
records_at w at zero = []
records_at w at (suc i) = event_at w (at + width * i) ∷ records_at w at i

-- the records of the section that starts at word `at`, and those of section p
abbrev pub section_of : (ℕ → ℕ) → ℕ → History
section_of w at = records_at w (at + heading) (w at)

abbrev pub section_at : (ℕ → ℕ) → ℕ → ℕ → History
section_at w E p = section_of w (start E p)

-- n sections, the first of them section p
abbrev pub sections_from : (ℕ → ℕ) → ℕ → ℕ → ℕ → State
sections_from w E p zero = []
sections_from w E p (suc n) = section_at w E p ∷ sections_from w E (suc p) n

-- the records that a table holds
unfoldable pub decoded : List ℕ → State
decoded t = sections_from (word t) (word t 1) 0 (word t 0)

-- ---- well laid

-- a used record of process p, after those of h: its kind is from the table; a checkpoint's number is at most n × E, its b is 0 and its
-- fourth word c is 0; a send or receipt names another process below n and a send number from 1 to E; the k-th send has send number k;
-- a send's c equals the number of the last checkpoint before it, and a receipt's isn't above that number
abbrev pub record_ok : ℕ → ℕ → ℕ → History → ℕ → ℕ → ℕ → ℕ → Bool
record_ok n E p h kind a b c =
    cond (eqb kind 1 || eqb kind 2) (leb a (n * E) && eqb b 0 && eqb c 0)
    (cond (eqb kind 3) (ltb a n && not (eqb a p) && ltb 0 b && leb b E && eqb b (suc (sends h)) && eqb c (number h))
    (cond (eqb kind 4) (ltb a n && not (eqb a p) && ltb 0 b && leb b E && leb c (number h)) false))

-- whether the record whose words start at word i passes this test
abbrev pub record_ok_at : ℕ → ℕ → ℕ → History → (ℕ → ℕ) → ℕ → Bool
record_ok_at n E p h w i = record_ok n E p h (w i) (w (i + 1)) (w (i + 2)) (w (i + 3))

abbrev pub records_ok : ℕ → ℕ → (ℕ → ℕ) → ℕ → ℕ → ℕ → Bool
records_ok n E w p at zero = true
records_ok n E w p at (suc i) = records_ok n E w p at i && record_ok_at n E p (records_at w at i) w (at + width * i)

-- m words from word `at` on are 0
abbrev pub zeros_at : (ℕ → ℕ) → ℕ → ℕ → Bool
zeros_at w at zero = true
zeros_at w at (suc m) = zeros_at w at m && eqb (w (at + m)) 0

-- c ≤ E; the used records; the current number; the send count; every word of an unused record is 0
abbrev pub section_ok : ℕ → ℕ → (ℕ → ℕ) → ℕ → Bool
section_ok n E w p =
    let at = start E p in
    let c = w at in
    leb c E
    && records_ok n E w p (at + heading) c
    && eqb (w (at + 1)) (number (records_at w (at + heading) c))
    && eqb (w (at + 2)) (sends (records_at w (at + heading) c))
    && zeros_at w (at + heading + width * c) (width * (E - c))

-- the sections below p
abbrev pub sections_ok : ℕ → ℕ → (ℕ → ℕ) → ℕ → Bool
sections_ok n E w zero = true
sections_ok n E w (suc p) = sections_ok n E w p && section_ok n E w p

unfoldable pub well_laid : List ℕ → Bool
well_laid t = sections_ok (word t 0) (word t 1) (word t) (word t 0)
