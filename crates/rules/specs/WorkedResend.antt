-- Document 02, slip 1, worked: what is to be sent again.
use Rattle.std.specs.Prelude.{refl, List, [], ◌∷◌, ℕ}
use Rattle.xdr.specs.Words.{word, put_word, put_words, bytes}
use Rattle.rules.specs.Table.{decoded, well_laid}
use Rattle.rules.specs.Resend.{in_transit, resend_on}
use Rattle.rules.specs.Worked.{Case, case, AsStated, as_stated, area, worked}

-- No run makes this table of three processes: 0 sends to 2, 1 sends to 0 and has a receipt of what 0 sent to 2.
abbrev pub stray_receipt : List ℕ
stray_receipt =
    bytes
    (3 ∷ 2
    ∷ 1 ∷ 0 ∷ 1 ∷ 3 ∷ 2 ∷ 1 ∷ 0 ∷ 0 ∷ 0 ∷ 0 ∷ 0
    ∷ 2 ∷ 0 ∷ 1 ∷ 3 ∷ 0 ∷ 1 ∷ 0 ∷ 4 ∷ 0 ∷ 1 ∷ 0
    ∷ 0 ∷ 0 ∷ 0 ∷ 0 ∷ 0 ∷ 0 ∷ 0 ∷ 0 ∷ 0 ∷ 0 ∷ 0
    ∷ [])

-- On document 01's worked controller: nothing at the counts; (1, 1) where (1, 2) overtook it; two messages at P6's line, with a word
-- behind them that stays; nothing where the receipt of (0, 1) is an orphan; a position above its count; a position too few; an area one
-- word too short for one message, and for none. On the other table both messages, by sender: the receipt at 1 isn't the receiver's.
abbrev pub resend_cases : List Case
resend_cases =
    case (resend_on worked (bytes (2 ∷ 4 ∷ 3 ∷ [])) (area 1)) (0 ∷ 0 ∷ [])
    ∷ case (resend_on worked (bytes (2 ∷ 4 ∷ 2 ∷ [])) (area 4)) (0 ∷ 1 ∷ 1 ∷ 1 ∷ 2 ∷ [])
    ∷ case (resend_on worked (bytes (2 ∷ 2 ∷ 1 ∷ [])) (area 8)) (0 ∷ 2 ∷ 0 ∷ 1 ∷ 1 ∷ 1 ∷ 1 ∷ 2 ∷ 4294967295 ∷ [])
    ∷ case (resend_on worked (bytes (0 ∷ 4 ∷ 3 ∷ [])) (area 1)) (0 ∷ 0 ∷ [])
    ∷ case (resend_on worked (bytes (2 ∷ 4 ∷ 4 ∷ [])) (area 1)) (12 ∷ [])
    ∷ case (resend_on worked (bytes (2 ∷ 4 ∷ [])) (area 1)) (12 ∷ [])
    ∷ case (resend_on worked (bytes (2 ∷ 4 ∷ 2 ∷ [])) (area 3)) (13 ∷ [])
    ∷ case (resend_on worked (bytes (2 ∷ 4 ∷ 3 ∷ [])) []) (13 ∷ [])
    ∷ case (resend_on stray_receipt (bytes (1 ∷ 2 ∷ 0 ∷ [])) (area 7)) (0 ∷ 2 ∷ 0 ∷ 1 ∷ 2 ∷ 1 ∷ 1 ∷ 0 ∷ [])
    ∷ []

pub resend_cases_lem : AsStated resend_cases
unfolding resend_on in_transit decoded well_laid word put_word put_words
resend_cases_lem = as_stated resend_cases refl
