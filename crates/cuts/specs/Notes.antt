-- Notes of where sends go. A process is noted from some index on: its send k stands k places behind.
use Rattle.std.specs.Prelude.{Bool, true, false, cond, List, [], ◌∷◌, ℕ, ◌+◌, ◌%◌, ◌<◌, leb, eqb, get_or, set, Option, Some, None}
use Rattle.rules.specs.Records.{Event, basic, forced, sent, received, History, sends}
use Rattle.cuts.specs.declared.Span.{Span}

-- what stands at the place of the next send once a record is read: its destination, 16 if it is no send
abbrev pub note_of : Event → ℕ
note_of (basic m) = 16
note_of (forced m) = 16
note_of (sent q) = q % 32
note_of (received q k c) = 16

-- the list after a process's records
abbrev pub noted : ℕ → History → List ℕ → List ℕ
noted from [] to = to
noted from (e ∷ h) to = set (noted from h to) (from + sends h + 1) (note_of e)

-- ---- receipts

-- where the sends of each of sixteen processes are noted; nothing is noted of a process that isn't one of them
abbrev pub span_of : List Span → ℕ → Span
span_of spans q = get_or spans q (record { start = 0; count = 0 })

-- where send k is noted in a span, if it is
abbrev pub place_in : Span → ℕ → Option ℕ
place_in span k = cond (leb k span.count) (Some (span.start + k)) None

-- every place is in a list of this length
abbrev pub Inside : List Span → ℕ → Type 0
Inside spans len = (q : ℕ) → (span_of spans q).start + (span_of spans q).count < len

-- a list once the note at a place is struck from it if it is of process p: 16 is noted then
abbrev pub struck_once : ℕ → Option ℕ → List ℕ → List ℕ
struck_once p None to = to
struck_once p (Some i) to = cond (eqb (get_or to i 0) p) (set to i 16) to

-- the list once process p's receipts are struck from it
abbrev pub struck : List Span → ℕ → History → List ℕ → List ℕ
struck spans p [] to = to
struck spans p (basic m ∷ h) to = struck spans p h to
struck spans p (forced m ∷ h) to = struck spans p h to
struck spans p (sent q ∷ h) to = struck spans p h to
struck spans p (received q k c ∷ h) to = struck_once p (place_in (span_of spans (q % 16)) k) (struck spans p h to)

-- ---- the same, and place 0 for a receipt whose send is not noted: no send is noted there

-- it is a receipt
abbrev pub is_receipt : Event → Bool
is_receipt (basic m) = false
is_receipt (forced m) = false
is_receipt (sent q) = false
is_receipt (received q k c) = true

-- where a receipt of send k looks for its note: at place 0 if it is not noted
abbrev pub place_of : Span → ℕ → ℕ
place_of span k = cond (leb k span.count) (span.start + k) 0

-- the list once process p's receipts are struck from it at these places
abbrev pub struck_by_place : List Span → ℕ → History → List ℕ → List ℕ
struck_by_place spans p [] to = to
struck_by_place spans p (basic m ∷ h) to = struck_by_place spans p h to
struck_by_place spans p (forced m ∷ h) to = struck_by_place spans p h to
struck_by_place spans p (sent q ∷ h) to = struck_by_place spans p h to
struck_by_place spans p (received q k c ∷ h) to =
    let u = struck_by_place spans p h to in
    let i = place_of (span_of spans (q % 16)) k in
    set u i (cond (eqb (get_or u i 0) p) 16 (get_or u i 0))
