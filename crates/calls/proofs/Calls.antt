-- What a call on the engine left, and the words of its answer.
use mathlib.Core.Path.{◌≡◌, refl, ◌∙◌, sym, ap, subst}
use mathlib.Core.Bool.{Bool, true, false, cond}
use mathlib.Core.List.{List, [], ◌∷◌, ◌++◌}
use Prim.Native.Nat.{ℕ, zero, suc, ◌*◌, ◌≤◌}
use native.Mathlib.Omega.{arith}
use native.Mathlib.Nat.{not-suc-le-zero}
use lib.Dec.{eqb}
use lib.ListN.{length, take, drop, replicate, length-append, length-replicate}
use lib.Seq.{take_at}
use Rattle.std.specs.Prelude.{Result, Ok}
use Rattle.fields.specs.declared.Unreadable.{Unreadable}
use Rattle.xdr.specs.Words.{words}
use Rattle.rules.specs.Calls.{Outcome, outcome, answer_words}
use Rattle.rules.specs.Text.{ran}
use Rattle.reading.specs.declared.Call.{Call}
use Rattle.reading.specs.Meanings.{reading_of}
use Rattle.answers.specs.declared.Refused.{Refused}
use Rattle.answers.specs.Shows.{Shows, Told, area_room, shown, count_of}
use Rattle.calls.specs.Areas.{area_of}

-- the outcome of a line whose case of the enum is known
pub ran_as : (n : ℕ) (t : List ℕ) {s : Result Call Unreadable} {x y : Call} → s ≡ Ok x → x ≡ y → ran n t (reading_of (Ok y)) ≡ ran n t (reading_of s)
ran_as n t e f = ap (λ (z : Result Call Unreadable). ran n t (reading_of z)) (sym (e ∙ ap Ok f))

-- and the length of its area
pub area_as : (n : ℕ) {m : ℕ} {s : Result Call Unreadable} {x y : Call} → m ≡ area_of n (reading_of s) → s ≡ Ok x → x ≡ y → m ≡ area_of n (reading_of (Ok y))
area_as n a e f = a ∙ ap (λ (z : Result Call Unreadable). area_of n (reading_of z)) (e ∙ ap Ok f)

take_zeros : (m k : ℕ) → m ≤ k → take m (replicate {A = ℕ} k 0) ≡ replicate m 0
take_zeros zero k le = refl
take_zeros (suc m) zero le = absurd (not-suc-le-zero le)
take_zeros (suc m) (suc k) le = ap (λ (l : List ℕ). 0 ∷ l) (take_zeros m k (omega (arith, le)))

shows_words : (r k : ℕ) (t a rest : List ℕ) → length a ≡ 4 * k → shown (cond (eqb r 0) k 0) (a ++ rest) ≡ answer_words (outcome r t a)
shows_words r k t a rest e = either (eqb r 0)
  where
    either : (b : Bool) → shown (cond b k 0) (a ++ rest) ≡ cond b (words a) []
    either true = ap words (take_at a rest (4 * k) e)
    either false = refl

count_within : (b : Bool) (k : ℕ) → 4 * cond b k 0 ≤ 4 * k
count_within true k = omega arith
count_within false k = omega arith

-- F a is the outcome of the call with the area a; it was lent the first m bytes of `area`, b of them
pub shows_called : (F : List ℕ → Outcome) {o : Outcome} (r k b : ℕ) {m : ℕ} (t a area : List ℕ) (res : Result ℕ Refused) → outcome r t a ≡ F (take m area)
    → area ≡ replicate area_room 0 → F (replicate b 0) ≡ o → Told r k res → length a ≡ length (take m area) → m ≡ b → b ≡ 4 * k → b ≤ area_room
    → Shows o res t (a ++ drop m area)
shows_called F {o} r k b {m} t a area res e zeros f told len is words small =
    let lent : take m area ≡ replicate b 0 = ap (take m) zeros ∙ take_zeros m area_room (omega arith) ∙ ap (λ (l : ℕ). replicate {A = ℕ} l 0) is in
    let whole : outcome r t a ≡ o = e ∙ ap F lent ∙ f in
    let size : length a ≡ 4 * k = len ∙ ap length lent ∙ length-replicate {A = ℕ} b 0 ∙ words in
    let fit : 4 * count_of res ≤ 4 * k = subst (λ (c : ℕ). 4 * c ≤ 4 * k) (sym told.1) (count_within (eqb r 0) k) in
    record {
      number = told.0 ∙ ap (λ (x : Outcome). x.returned) whole;
      left = ap (λ (x : Outcome). x.table) whole;
      words = ap (λ (c : ℕ). shown c (a ++ drop m area)) told.1 ∙ shows_words r k t a (drop m area) size ∙ ap answer_words whole;
      within = omega (arith, fit, size, length-append a (drop m area));
    }
