-- What the functions that run a line's call and write its answer promise.
use Rattle.std.specs.Prelude.{◌≡◌, cond, List, [], ◌∷◌, ◌++◌, ℕ, ◌+◌, ◌*◌, ◌≤◌, eqb, ltb, length, take, Result, Ok, Err}
use Rattle.xdr.specs.Words.{word, words as words_of}
use Rattle.rules.specs.Calls.{Outcome, answer_words}
use Rattle.rules.specs.Text.{decimal, further_fields, line_end}
use Rattle.refusals.specs.Refusals.{number_of as refusal_number}
use Rattle.answers.specs.declared.Refused.{Refused}
use Rattle.answers.specs.declared.Refused.TheVariants as refused

-- ---- room

-- the bytes of an answer area: ten words, as many as a failure line of eight processes has
abbrev pub area_room : ℕ
area_room = 40

-- room for an answer, which has at most 122 bytes: a number, ten fields after a comma each, and CR LF
abbrev pub answer_room : ℕ
answer_room = 128

-- ---- answers

-- the number of a refusal: that of the call, or 99 for a line that makes none
abbrev pub number_of : Refused → ℕ
number_of (refused.Call r) = refusal_number r
number_of refused.Line = 99

-- the number that a call returned, and how many words of the area are answered
abbrev pub returned : Result ℕ Refused → ℕ
returned (Ok k) = 0
returned (Err e) = number_of e

abbrev pub count_of : Result ℕ Refused → ℕ
count_of (Ok k) = k
count_of (Err e) = 0

-- res says what a call that returned the number r and has k words answers
abbrev pub Told : ℕ → ℕ → Result ℕ Refused → Type 0
Told r k res = (returned res ≡ r) × (count_of res ≡ cond (eqb r 0) k 0)

-- the first `count` words of an area
abbrev pub shown : ℕ → List ℕ → List ℕ
shown count area = words_of (take (4 * count) area)

-- r and the area tell the number and the words of the outcome o, and `table` is the outcome's
pub record Shows (o : Outcome) (r : Result ℕ Refused) (table : List ℕ) (area : List ℕ) : Type 0 where
  pub number : returned r ≡ o.returned
  pub left : table ≡ o.table
  pub words : shown (count_of r) area ≡ answer_words o
  pub within : 4 * count_of r ≤ length area

-- field i of an answer: a comma, and word i of the area where i is below `count`
abbrev pub field_or : ℕ → List ℕ → ℕ → List ℕ
field_or count area i = 44 ∷ cond (ltb i count) (decimal (word area i)) []

-- the line of n + 3 fields that shows a number and the first `count` words of the area
abbrev pub shown_line : ℕ → ℕ → ℕ → List ℕ → List ℕ
shown_line n v count area = decimal v ++ further_fields (n + 2) (shown count area) ++ line_end

-- the line that tells r and the words of the area
abbrev pub told_line : ℕ → Result ℕ Refused → List ℕ → List ℕ
told_line n r area = shown_line n (returned r) (count_of r) area
