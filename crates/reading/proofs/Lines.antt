-- The fields of a line, and what a line says.
use mathlib.Core.Path.{◌≡◌, refl, ◌∙◌, sym, ap}
use mathlib.Core.Bool.{Bool, true, false, cond, ◌&&◌, and-false, false≢true}
use mathlib.Core.List.{List, [], ◌∷◌, ◌++◌}
use Prim.Native.Nat.{ℕ, ◌≤◌, ◌<◌}
use native.Mathlib.Omega.{arith}
use lib.Dec.{leb, eqb}
use lib.ListN.{length, get_or}
use borrow.Author.Tests.{le-leb, lt-leb, ne_eqb}
use Rattle.rules.specs.Text.{Word, fresh_word, checkpoint_word, send_word, receipt_word, line_word, failed_word, no_word, word_of, Field, empty, number, other, Reading, unreadable, Ask, with_number, with_empty, one_number, two_numbers, three_numbers, asked, field_of, fields_from, read_line}
use Rattle.std.specs.Prelude.{Result, Ok, Err}
use Rattle.std.specs.Result.{IsErr}
use Rattle.fields.specs.declared.Unreadable.{Unreadable}
use Rattle.reading.specs.declared.Call.{Call}
use Rattle.reading.specs.Meanings.{reading_of}
use Rattle.basics.proofs.Booleans.{skips}

-- there is a field in every line
pub fields_some : (held s : List ℕ) → 0 < length (fields_from held s)
fields_some held [] = omega arith
fields_some held (b ∷ s) = either (eqb b 44) (fields_some (held ++ (b ∷ [])) s)
  where
    either : (a : Bool) → 0 < length (fields_from (held ++ (b ∷ [])) s)
        → 0 < length (cond a (held ∷ fields_from [] s) (fields_from (held ++ (b ∷ [])) s))
    either true h = omega arith
    either false h = h

-- a line with a fourth comma has more than four fields
pub five_fields : (s s₁ s₂ z w x y a b : List ℕ) → fields_from [] s ≡ w ∷ fields_from [] s₁ → fields_from [] s₁ ≡ x ∷ fields_from [] s₂
    → fields_from [] s₂ ≡ y ∷ fields_from [] z → fields_from [] z ≡ a ∷ fields_from [] b → length (fields_from [] s) ≡ 4 → ⊥
five_fields s s₁ s₂ z w x y a b h k l m e =
    omega (arith, fields_some [] b, e, ap length h, ap length k, ap length l, ap length m)

-- what four fields say
abbrev pub said_by : List (List ℕ) → Reading
said_by l = asked (word_of (get_or l 0 [])) (field_of (get_or l 1 [])) (field_of (get_or l 2 [])) (field_of (get_or l 3 []))

pub long_line : (s : List ℕ) → 64 < length s → unreadable ≡ read_line s
unfolding read_line
long_line s lt =
    sym (skips (said_by (fields_from [] s)) unreadable (ap (λ (a : Bool). a && eqb (length (fields_from [] s)) 4) (lt-leb (length s) 64 lt)))

-- a line with another count of fields than four is unreadable
pub not_four : (s : List ℕ) → (length (fields_from [] s) ≡ 4 → ⊥) → unreadable ≡ read_line s
unfolding read_line
not_four s ne =
    sym
    (skips (said_by (fields_from [] s)) unreadable
    (ap (λ (a : Bool). leb (length s) 64 && a) (ne_eqb _ 4 ne) ∙ and-false (leb (length s) 64)))

pub four : (s w x y z : List ℕ) → length s ≤ 64 → fields_from [] s ≡ w ∷ x ∷ y ∷ z ∷ []
    → asked (word_of w) (field_of x) (field_of y) (field_of z) ≡ read_line s
unfolding read_line
four s w x y z le h =
    sym
    (ap (λ (a : Bool). cond (a && eqb (length (fields_from [] s)) 4) (said_by (fields_from [] s)) unreadable) (le-leb (length s) 64 le)
    ∙ ap (λ (l : List (List ℕ)). cond (eqb (length l) 4) (said_by l) unreadable) h)

-- ---- what can't be read

-- a line that is refused is unreadable
pub refused : (r : Result Call Unreadable) (s : List ℕ) → IsErr r → unreadable ≡ read_line s → reading_of r ≡ read_line s
refused (Ok c) s h e = absurd (false≢true h)
refused (Err u) s h e = e

-- a word that is none
pub no_such_word : (x y z : Field) {W : Word} → no_word ≡ W → unreadable ≡ asked W x y z
no_such_word x y z e = ap (λ (W : Word). asked W x y z) e

-- fields that no call takes, with one number, two or three
none_takes : (W : Word) (x y z : Field)
    → ((f : ℕ → Ask) → one_number x y z f ≡ unreadable)
    → ((f : ℕ → ℕ → Ask) → two_numbers x y z f ≡ unreadable)
    → ((f : ℕ → ℕ → ℕ → Ask) → three_numbers x y z f ≡ unreadable)
    → unreadable ≡ asked W x y z
none_takes fresh_word x y z one two three = sym (two _)
none_takes checkpoint_word x y z one two three = sym (one _)
none_takes send_word x y z one two three = sym (two _)
none_takes receipt_word x y z one two three = sym (three _)
none_takes line_word x y z one two three = sym (one _)
none_takes failed_word x y z one two three = sym (one _)
none_takes no_word x y z one two three = refl

-- what is unreadable after each number or after an empty field is so after any field
after_number : (x : Field) {f : ℕ → Reading} → ((a : ℕ) → f a ≡ unreadable) → with_number x f ≡ unreadable
after_number empty h = refl
after_number (number v) h = h v
after_number other h = refl

after_empty : (x : Field) {r : Reading} → r ≡ unreadable → with_empty x r ≡ unreadable
after_empty empty h = h
after_empty (number v) h = refl
after_empty other h = refl

-- a field that is no number makes a line unreadable, whatever its word and the other fields are
pub first_other : (W : Word) (y z : Field) {x : Field} → other ≡ x → unreadable ≡ asked W x y z
first_other W y z e = none_takes W other y z (λ f. refl) (λ f. refl) (λ f. refl) ∙ ap (λ (x : Field). asked W x y z) e

pub second_other : (W : Word) (x z : Field) {y : Field} → other ≡ y → unreadable ≡ asked W x y z
second_other W x z e =
    none_takes W x other z (λ f. after_number x (λ a. refl)) (λ f. after_number x (λ a. refl)) (λ f. after_number x (λ a. refl))
    ∙ ap (λ (y : Field). asked W x y z) e

pub third_other : (W : Word) (x y : Field) {z : Field} → other ≡ z → unreadable ≡ asked W x y z
third_other W x y e =
    none_takes W x y other (λ f. after_number x (λ a. after_empty y refl)) (λ f. after_number x (λ a. after_number y (λ b. refl)))
    (λ f. after_number x (λ a. after_number y (λ b. refl)))
    ∙ ap (asked W x y) e

-- ---- what can be read

-- what a line says with its word and fields as they were read
pub read_as : {W W' : Word} {x y z x' y' z' : Field} → W ≡ W' → x ≡ x' → y ≡ y' → z ≡ z' → asked W x y z ≡ asked W' x' y' z'
read_as e f g h = cc
