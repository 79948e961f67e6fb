-- What one line gets: the answer in place, and the table in its room.
use mathlib.Core.Path.{◌≡◌, refl, ◌∙◌, sym, ap}
use mathlib.Core.Bool.{true, ◌&&◌, and-eq-true_iff}
use mathlib.Core.List.{List, [], ◌∷◌, ◌++◌}
use Prim.Native.Nat.{ℕ, ◌≤◌}
use native.Mathlib.Omega.{arith}
use native.Mathlib.Nat.{le_refl, add-le-add, mul-le-mul}
use lib.Dec.{leb}
use lib.ListN.{length, take, drop, replicate, length-replicate, length-append}
use lib.Seq.{take_at, length-take-le}
use Rattle.std.proofs.lemmas.List.{drop_at, drop-replicate}
use borrow.Author.Tests.{leb-true}
use Rattle.xdr.specs.Words.{put_words}
use Rattle.rules.specs.Table.{in_range, size}
use Rattle.rules.specs.Calls.{Outcome, outcome, fresh_on}
use Rattle.rules.specs.Text as text
use Rattle.replies.specs.Room.{table_room, unused}
use Rattle.layout.proofs.Rows.{fresh_done}

-- ---- a table in its room

-- the program's range in numbers
pub in_range_lem : (n e : ℕ) → text.in_program_range n e ≡ true → (in_range n e ≡ true) × (n ≤ 8) × (e ≤ 256)
in_range_lem n e h =
    let all = (and-eq-true_iff (in_range n e && leb n 8) (leb e 256)).0 h in
    let two = (and-eq-true_iff (in_range n e) (leb n 8)).0 all.0 in
    (two.0, leb-true n 8 two.1, leb-true e 256 all.1)

size_rises : (n m e f : ℕ) → n ≤ m → e ≤ f → size n e ≤ size m f
size_rises n m e f h k = add-le-add (le_refl 8) (mul-le-mul (omega arith) (omega arith))

-- a table in the program's range fits the room
room_enough : (n e : ℕ) {s : ℕ} → text.in_program_range n e ≡ true → s ≡ size n e → s ≤ table_room
room_enough n e h eq =
    let r = in_range_lem n e h in
    omega (arith, eq, size_rises n 8 e 256 r.1 r.2)

-- the room before the first line, and the table lent from it
abbrev pub zeros : List ℕ
zeros = replicate table_room 0

pub lent_zeros : (n e m : ℕ) → text.in_program_range n e ≡ true → m ≡ size n e → (m ≤ length zeros) × (length (take m zeros) ≡ size n e)
lent_zeros n e m h eq =
    let le : m ≤ length zeros = omega (arith, room_enough n e h eq, length-replicate {A = ℕ} table_room 0) in
    (le, length-take-le m zeros le ∙ eq)

-- a table of m bytes that is back in its room: the bytes behind it stay 0
pub placed : (n e m : ℕ) (t : List ℕ) → text.in_program_range n e ≡ true → m ≡ size n e → length t ≡ length (take m zeros)
    → (n ≤ 8) × (m ≤ length (t ++ drop m zeros)) × (drop m (t ++ drop m zeros) ≡ unused m)
placed n e m t h eq lent =
    let le = (lent_zeros n e m h eq).0 in
    let all : length t ≡ m = lent ∙ length-take-le m zeros le in
    ((in_range_lem n e h).1, omega (arith, all, length-append t (drop m zeros)), drop_at t (drop m zeros) m all ∙ drop-replicate m table_room 0)

-- a fresh call on a table of the exact length, whatever its bytes
pub fresh_outcome_lem : (t : List ℕ) (n e : ℕ) → text.in_program_range n e ≡ true → length t ≡ size n e → fresh_on t n e ≡ text.fresh_outcome n e
fresh_outcome_lem t n e h l =
    let r = (in_range_lem n e h).0 in
    let zeros : List ℕ = replicate (size n e) 0 in
    let z : length zeros ≡ size n e = length-replicate {A = ℕ} (size n e) 0 in
    sym (fresh_done t n e r l refl refl)
    ∙ ap (λ (m : ℕ). outcome 0 (put_words (replicate m 0) 0 (n ∷ e ∷ [])) []) (l ∙ sym z)
    ∙ fresh_done zeros n e r z refl refl

-- such a call is accepted
pub fresh_accepted : (t t₁ : List ℕ) (n e k : ℕ) → text.in_program_range n e ≡ true → length t ≡ size n e → outcome k t₁ [] ≡ fresh_on t n e → k ≡ 0
fresh_accepted t t₁ n e k h l done = ap (λ (o : Outcome). o.returned) (done ∙ sym (fresh_done t n e (in_range_lem n e h).0 l refl refl))

-- the first line's table, of m bytes, is back in its room
pub fresh_held : (n e m : ℕ) (t room : List ℕ) → outcome 0 t [] ≡ text.fresh_outcome n e → length t ≡ length (take m room) → m ≤ length room
    → text.reply (text.answer_line n (outcome 0 (take m (t ++ drop m room)) [])) (text.running n (take m (t ++ drop m room))) ≡ text.fresh_reply n e
fresh_held n e m t room done lent le =
    ap (λ (u : List ℕ). text.reply (text.answer_line n (outcome 0 u [])) (text.running n u)) (take_at t (drop m room) m (lent ∙ length-take-le m room le))
    ∙ ap (λ (o : Outcome). text.reply (text.answer_line n o) (text.running n o.table)) done

-- a later line's table, of m bytes, is back in its room
pub held_on : (n m : ℕ) (t room : List ℕ) (h : ℕ × List ℕ) (r : text.Reading) → (n, take m room) ≡ h → t ≡ (text.ran n (take m room) r).table
    → length t ≡ length (take m room) → m ≤ length room
    → text.running n (take m (t ++ drop m room)) ≡ text.running h.0 (text.ran h.0 h.1 r).table
held_on n m t room h r is left lent le =
    ap (text.running n) (take_at t (drop m room) m (lent ∙ length-take-le m room le) ∙ left)
    ∙ ap (λ (g : ℕ × List ℕ). text.running g.0 (text.ran g.0 g.1 r).table) is
