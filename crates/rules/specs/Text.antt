-- Document 01, "The text program": what it writes, for every input. Bytes are numbers: CR is 13, LF 10, a comma 44, the digits 48 to 57.
use Rattle.std.specs.Prelude.{◌≡◌, refl, Bool, true, cond, ◌&&◌, List, [], ◌∷◌, ◌++◌, ℕ, zero, suc, ◌+◌, ◌-◌, ◌*◌, ◌/◌, ◌%◌, leb, ltb, eqb, length, get_or, take, replicate}
use Rattle.std.specs.Int.Count.{ones, ones_in}
use Rattle.xdr.specs.Words.{word, put_word, put_words}
use Rattle.rules.specs.Compared.{same, same_equal}
use Rattle.rules.specs.Table.{in_range, size, layout, decoded, well_laid}
use Rattle.rules.specs.Steps.{Call, checkpoint, send, receipt}
use Rattle.rules.specs.FailureLine.{round, rounds, failure_line}
use Rattle.rules.specs.Calls.{Outcome, outcome, area_length, failure_answer, answer_words, fresh_on, step_on, line_on, failed_on}

-- ---- lines

-- the bytes end in CR
abbrev pub ends_in_cr : List ℕ → Bool
ends_in_cr s = eqb (get_or s (length s - 1) 0) 13

-- what the input leaves where it ends: a last line that lacks its CR LF, or nothing
abbrev pub last_line : List ℕ → List (List ℕ)
last_line [] = []
last_line (b ∷ s) = (b ∷ s) ∷ []

-- the lines of an input, where the bytes `held` of the first one are read already; CR LF together end a line, and nothing else does
abbrev pub lines_from : List ℕ → List ℕ → List (List ℕ)
lines_from held [] = last_line held
lines_from held (b ∷ s) =
    cond (eqb b 10 && ends_in_cr held) (take (length held - 1) held ∷ lines_from [] s) (lines_from (held ++ (b ∷ [])) s)

-- ---- fields

-- the fields of a line, where the bytes `held` of the first one are read already
abbrev pub fields_from : List ℕ → List ℕ → List (List ℕ)
fields_from held [] = held ∷ []
fields_from held (b ∷ s) = cond (eqb b 44) (held ∷ fields_from [] s) (fields_from (held ++ (b ∷ [])) s)

-- a byte that is a digit
abbrev pub digit : ℕ → Bool
digit b = leb 48 b && leb b 57

-- bytes that are all digits
abbrev pub digits : List ℕ → Bool
digits [] = true
digits (b ∷ s) = digit b && digits s

-- the value of the digits s after those of value v
abbrev pub value_from : ℕ → List ℕ → ℕ
value_from v [] = v
value_from v (b ∷ s) = value_from (10 * v + (b - 48)) s

-- what a field after the word holds
pub data Field : Type 0 where
  empty : Field
  number : (v : ℕ) → Field
  other : Field

-- a number is 1 to 10 digits, at most 4,294,967,295
abbrev pub field_of : List ℕ → Field
field_of [] = empty
field_of (b ∷ s) =
    let v = value_from 0 (b ∷ s) in
    cond (leb (length (b ∷ s)) 10 && digits (b ∷ s) && leb v 4294967295) (number v) other

-- ---- calls

-- a call of any kind
pub data Ask : Type 0 where
  fresh : (n : ℕ) → (E : ℕ) → Ask
  step : (p : ℕ) → Call → Ask
  line : (N : ℕ) → Ask
  failed : (mask : ℕ) → Ask

-- what a line says
pub data Reading : Type 0 where
  call : Ask → Reading
  unreadable : Reading

-- the words, and what is none
pub data Word : Type 0 where
  fresh_word : Word
  checkpoint_word : Word
  send_word : Word
  receipt_word : Word
  line_word : Word
  failed_word : Word
  no_word : Word

-- the words' bytes
abbrev pub fresh_bytes : List ℕ
fresh_bytes = 102 ∷ 114 ∷ 101 ∷ 115 ∷ 104 ∷ []

abbrev pub checkpoint_bytes : List ℕ
checkpoint_bytes = 99 ∷ 104 ∷ 101 ∷ 99 ∷ 107 ∷ 112 ∷ 111 ∷ 105 ∷ 110 ∷ 116 ∷ []

abbrev pub send_bytes : List ℕ
send_bytes = 115 ∷ 101 ∷ 110 ∷ 100 ∷ []

abbrev pub receipt_bytes : List ℕ
receipt_bytes = 114 ∷ 101 ∷ 99 ∷ 101 ∷ 105 ∷ 112 ∷ 116 ∷ []

abbrev pub line_bytes : List ℕ
line_bytes = 108 ∷ 105 ∷ 110 ∷ 101 ∷ []

abbrev pub failed_bytes : List ℕ
failed_bytes = 102 ∷ 97 ∷ 105 ∷ 108 ∷ 101 ∷ 100 ∷ []

-- the word that a text is
abbrev pub word_of : List ℕ → Word
word_of s =
    cond (same s fresh_bytes) fresh_word
    (cond (same s checkpoint_bytes) checkpoint_word
    (cond (same s send_bytes) send_word
    (cond (same s receipt_bytes) receipt_word
    (cond (same s line_bytes) line_word
    (cond (same s failed_bytes) failed_word no_word)))))

-- what a line says with a field that must be a number, and with one that must be empty
abbrev pub with_number : Field → (ℕ → Reading) → Reading
with_number empty f = unreadable
with_number (number v) f = f v
with_number other f = unreadable

abbrev pub with_empty : Field → Reading → Reading
with_empty empty r = r
with_empty (number v) r = unreadable
with_empty other r = unreadable

-- the calls that take one, two and three numbers; the fields that a word doesn't use are empty
abbrev pub one_number : Field → Field → Field → (ℕ → Ask) → Reading
one_number x y z f = with_number x (λ a. with_empty y (with_empty z (call (f a))))

abbrev pub two_numbers : Field → Field → Field → (ℕ → ℕ → Ask) → Reading
two_numbers x y z f = with_number x (λ a. with_number y (λ b. with_empty z (call (f a b))))

abbrev pub three_numbers : Field → Field → Field → (ℕ → ℕ → ℕ → Ask) → Reading
three_numbers x y z f = with_number x (λ a. with_number y (λ b. with_number z (λ c. call (f a b c))))

-- what a line says with this word and these three fields
abbrev pub asked : Word → Field → Field → Field → Reading
asked fresh_word x y z = two_numbers x y z fresh
asked checkpoint_word x y z = one_number x y z (λ p. step p checkpoint)
asked send_word x y z = two_numbers x y z (λ p q. step p (send q))
asked receipt_word x y z = three_numbers x y z (λ p q k. step p (receipt q k))
asked line_word x y z = one_number x y z line
asked failed_word x y z = one_number x y z failed
asked no_word x y z = unreadable

-- what a line says: it has at most 64 bytes and four fields
unfoldable pub read_line : List ℕ → Reading
read_line s =
    let fields = fields_from [] s in
    cond (leb (length s) 64 && eqb (length fields) 4)
    (asked (word_of (get_or fields 0 [])) (field_of (get_or fields 1 [])) (field_of (get_or fields 2 [])) (field_of (get_or fields 3 [])))
    unreadable

-- ---- answers

-- the digits of v, the last k at most; only that of 0 itself is a leading 0
abbrev pub last_digits : ℕ → ℕ → List ℕ
last_digits zero v = []
last_digits (suc k) v = cond (ltb v 10) [] (last_digits k (v / 10)) ++ ((48 + v % 10) ∷ [])

-- a number of 32 bits has at most ten digits
abbrev pub decimal : ℕ → List ℕ
decimal v = last_digits 10 v

-- k more fields, the first of them these numbers, the others empty
abbrev pub further_fields : ℕ → List ℕ → List ℕ
further_fields zero vs = []
further_fields (suc k) [] = 44 ∷ further_fields k []
further_fields (suc k) (v ∷ vs) = 44 ∷ (decimal v ++ further_fields k vs)

abbrev pub line_end : List ℕ
line_end = 13 ∷ 10 ∷ []

-- n + 3 fields: the returned number, then the answer words, unused fields empty
abbrev pub answer_line : ℕ → Outcome → List ℕ
answer_line n o = decimal o.returned ++ further_fields (n + 2) (answer_words o) ++ line_end

-- the one field v
abbrev pub alone_line : ℕ → List ℕ
alone_line v = decimal v ++ line_end

-- ---- the program

-- where the program stands: before its first line, with a table of n processes, or at its end
pub data Stage : Type 0 where
  waiting : Stage
  running : (n : ℕ) → (table : List ℕ) → Stage
  ended : Stage

-- the dimensions that the program takes
abbrev pub in_program_range : ℕ → ℕ → Bool
in_program_range n E = in_range n E && leb n 8 && leb E 256

-- the outcome of the fresh call on a table of the exact length
abbrev pub fresh_outcome : ℕ → ℕ → Outcome
fresh_outcome n E = fresh_on (replicate (size n E) 0) n E

-- the outcome of a later line: a call gets an answer area of the exact length; an unreadable line or second fresh gives 99
abbrev pub ran : ℕ → List ℕ → Reading → Outcome
ran n t (call (fresh m E)) = outcome 99 t []
ran n t (call (step p c)) = step_on t (replicate (area_length c) 0) p c
ran n t (call (line N)) = line_on t (replicate (4 * n) 0) N
ran n t (call (failed mask)) = failed_on t (replicate (4 * n + 8) 0) mask
ran n t unreadable = outcome 99 t []

-- what one line gets: the bytes written, and where the program stands after it
pub record Reply : Type 0 where
  pub text : List ℕ
  pub stage : Stage

abbrev pub reply : List ℕ → Stage → Reply
reply s g = record { text = s; stage = g }

-- a first line that is a fresh within the program's range gets that outcome's line, and its table is the program's from then on
abbrev pub fresh_reply : ℕ → ℕ → Reply
fresh_reply n E = reply (answer_line n (fresh_outcome n E)) (running n (fresh_outcome n E).table)

-- what the first line gets
abbrev pub opened : Reading → Reply
opened (call (fresh n E)) = cond (in_program_range n E) (fresh_reply n E) (reply (alone_line 1) ended)
opened (call (step p c)) = reply (alone_line 99) ended
opened (call (line N)) = reply (alone_line 99) ended
opened (call (failed mask)) = reply (alone_line 99) ended
opened unreadable = reply (alone_line 99) ended

-- what a line gets that is read at this stage
abbrev pub replied : Stage → Reading → Reply
replied waiting r = opened r
replied (running n t) r = reply (answer_line n (ran n t r)) (running n (ran n t r).table)
replied ended r = reply [] ended

-- what the lines get, one after the other, from this stage on
abbrev pub answers : Stage → List (List ℕ) → List ℕ
answers g [] = []
answers g (l ∷ ls) = (replied g (read_line l)).text ++ answers (replied g (read_line l)).stage ls

-- what the program writes for an input
unfoldable pub text_output : List ℕ → List ℕ
text_output input = answers waiting (lines_from [] input)

-- ---- the listing

-- fresh,2,4, · checkpoint,0,, · send,0,1, · receipt,1,0,1 · line,1,, · failed,1,,
abbrev pub listing : List ℕ
listing =
    102 ∷ 114 ∷ 101 ∷ 115 ∷ 104 ∷ 44 ∷ 50 ∷ 44 ∷ 52 ∷ 44 ∷ 13 ∷ 10
    ∷ 99 ∷ 104 ∷ 101 ∷ 99 ∷ 107 ∷ 112 ∷ 111 ∷ 105 ∷ 110 ∷ 116 ∷ 44 ∷ 48 ∷ 44 ∷ 44 ∷ 13 ∷ 10
    ∷ 115 ∷ 101 ∷ 110 ∷ 100 ∷ 44 ∷ 48 ∷ 44 ∷ 49 ∷ 44 ∷ 13 ∷ 10
    ∷ 114 ∷ 101 ∷ 99 ∷ 101 ∷ 105 ∷ 112 ∷ 116 ∷ 44 ∷ 49 ∷ 44 ∷ 48 ∷ 44 ∷ 49 ∷ 13 ∷ 10
    ∷ 108 ∷ 105 ∷ 110 ∷ 101 ∷ 44 ∷ 49 ∷ 44 ∷ 44 ∷ 13 ∷ 10
    ∷ 102 ∷ 97 ∷ 105 ∷ 108 ∷ 101 ∷ 100 ∷ 44 ∷ 49 ∷ 44 ∷ 44 ∷ 13 ∷ 10
    ∷ []

-- 0,,,, · 0,1,,, · 0,1,1,, · 0,1,1,2,2 · 0,1,1,, · 0,1,1,3,2; the receipt's line as document 02, slip 4 has it
abbrev pub listing_answers : List ℕ
listing_answers =
    48 ∷ 44 ∷ 44 ∷ 44 ∷ 44 ∷ 13 ∷ 10
    ∷ 48 ∷ 44 ∷ 49 ∷ 44 ∷ 44 ∷ 44 ∷ 13 ∷ 10
    ∷ 48 ∷ 44 ∷ 49 ∷ 44 ∷ 49 ∷ 44 ∷ 44 ∷ 13 ∷ 10
    ∷ 48 ∷ 44 ∷ 49 ∷ 44 ∷ 49 ∷ 44 ∷ 50 ∷ 44 ∷ 50 ∷ 13 ∷ 10
    ∷ 48 ∷ 44 ∷ 49 ∷ 44 ∷ 49 ∷ 44 ∷ 44 ∷ 13 ∷ 10
    ∷ 48 ∷ 44 ∷ 49 ∷ 44 ∷ 49 ∷ 44 ∷ 51 ∷ 44 ∷ 50 ∷ 13 ∷ 10
    ∷ []

pub listing_answered : text_output listing ≡ listing_answers
unfolding text_output read_line fresh_on step_on line_on failed_on layout decoded well_laid word put_word put_words failure_answer failure_line rounds round ones ones_in
listing_answered = same_equal (text_output listing) listing_answers refl
