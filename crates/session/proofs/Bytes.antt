-- A line that is held, and one byte of the input.
use mathlib.Core.Path.{◌≡◌, refl, ◌∙◌, sym, ap}
use mathlib.Core.Bool.{Bool, true, false, cond, ◌&&◌}
use mathlib.Core.List.{List, [], ◌∷◌, ◌++◌}
use Prim.Native.Nat.{ℕ, min, ◌+◌, ◌-◌, ◌≤◌, ◌<◌}
use native.Mathlib.Omega.{arith}
use native.Mathlib.Numerals.{add-one}
use native.Mathlib.Nat.{not-suc-le-zero}
use lib.Dec.{leb, eqb}
use lib.ListN.{length, get_or, set, take, drop, replicate, length-append, length-set}
use lib.Seq.{take-take, take-suc-set, length-take-le, get_or_at, take_all, drop-drop}
use Rattle.std.proofs.lemmas.List.{drop-set-lt, drop-replicate}
use borrow.Author.Tests.{lt-leb, leb-true, leb-false}
use Rattle.rules.specs.Text as text
use Rattle.basics.proofs.Booleans.{skips}
use Rattle.session.specs.declared.Session.{Session}
use Rattle.decimal.specs.Output.{Page}
use Rattle.session.specs.Line.{line_room, unused}
use Rattle.session.specs.Session.{Took}

-- lines of 66 bytes and more with the same last byte: neither is readable, and both end with the same byte
abbrev Alike : List ℕ → List ℕ → Type 0
Alike h k = (66 ≤ length h) × (66 ≤ length k) × (text.ends_in_cr h ≡ text.ends_in_cr k)

too_long : (l : List ℕ) → 64 < length l → text.read_line l ≡ text.unreadable
unfolding text.read_line
too_long l lt = simp (lt-leb (length l) 64 lt) refl

last_byte : (h : List ℕ) (b : ℕ) → text.ends_in_cr (h ++ (b ∷ [])) ≡ eqb b 13
last_byte h b =
    let n : length (h ++ (b ∷ [])) - 1 ≡ length h = omega (arith, length-append h (b ∷ [])) in
    ap (λ (m : ℕ). eqb (get_or (h ++ (b ∷ [])) m 0) 13) n ∙ ap (λ (c : ℕ). eqb c 13) (get_or_at h b [] 0 (length h) refl)

alike_on : (h k : List ℕ) (b : ℕ) → Alike h k → Alike (h ++ (b ∷ [])) (k ++ (b ∷ []))
alike_on h k b a =
    (omega (arith, length-append h (b ∷ []), a.0), omega (arith, length-append k (b ∷ []), a.1), last_byte h b ∙ sym (last_byte k b))

alike_first : (g : text.Stage) (h k : List ℕ) (ls : List (List ℕ)) → 64 < length h → 64 < length k → text.answers g (h ∷ ls) ≡ text.answers g (k ∷ ls)
alike_first g h k ls a b =
    ap (λ (r : text.Reading). (text.replied g r).text ++ text.answers (text.replied g r).stage ls) (too_long h a ∙ sym (too_long k b))

alike_last : (g : text.Stage) (h k : List ℕ) → 64 < length h → 64 < length k → text.answers g (text.last_line h) ≡ text.answers g (text.last_line k)
alike_last g [] k a b = absurd (not-suc-le-zero a)
alike_last g (c ∷ h) [] a b = absurd (not-suc-le-zero b)
alike_last g (c ∷ h) (d ∷ k) a b = alike_first g (c ∷ h) (d ∷ k) [] a b

-- answers to lists of lines that are chosen by one test
choose : (g : text.Stage) (p : Bool) (u v s t : List (List ℕ)) → text.answers g u ≡ text.answers g v → text.answers g s ≡ text.answers g t
    → text.answers g (cond p u s) ≡ text.answers g (cond p v t)
choose g true u v s t m n = m
choose g false u v s t m n = n

-- such lines get the same answers, whatever follows
alike : (g : text.Stage) (h k x : List ℕ) → Alike h k → text.answers g (text.lines_from h x) ≡ text.answers g (text.lines_from k x)
alike g h k [] a = alike_last g h k (omega (arith, a.0)) (omega (arith, a.1))
alike g h k (b ∷ x) a =
    let a₀ : 66 ≤ length h = a.0 in
    let a₁ : 66 ≤ length k = a.1 in
    let h' = take (length h - 1) h ∷ text.lines_from [] x in
    let k' = take (length k - 1) k ∷ text.lines_from [] x in
    let dh : 64 < length (take (length h - 1) h) = omega (arith, length-take-le (length h - 1) h (omega arith), a₀) in
    let dk : 64 < length (take (length k - 1) k) = omega (arith, length-take-le (length k - 1) k (omega arith), a₁) in
    choose g (eqb b 10 && text.ends_in_cr h) h' k' (text.lines_from (h ++ (b ∷ [])) x) (text.lines_from (k ++ (b ∷ [])) x)
    (alike_first g (take (length h - 1) h) (take (length k - 1) k) (text.lines_from [] x) dh dk)
    (alike g (h ++ (b ∷ [])) (k ++ (b ∷ [])) x (alike_on h k b a))
    ∙ ap (λ (e : Bool). text.answers g (cond (eqb b 10 && e) k' (text.lines_from (k ++ (b ∷ [])) x))) a.2

-- ---- one byte of the input

-- what is owed after a byte that does not end the line
kept : (g : text.Stage) (h : List ℕ) (b : ℕ) (x : List ℕ) {r : Bool} → r ≡ (eqb b 10 && text.ends_in_cr h) → r ≡ false
    → text.answers g (text.lines_from h (b ∷ x)) ≡ text.answers g (text.lines_from (h ++ (b ∷ [])) x)
kept g h b x e f = ap (text.answers g) (skips _ _ (sym e ∙ f))

-- of a line of 66 bytes and more the first 65 and the last do for all of them
same_held : (g : text.Stage) (h : List ℕ) (b : ℕ) (x : List ℕ)
    → text.answers g (text.lines_from (h ++ (b ∷ [])) x) ≡ text.answers g (text.lines_from (take 65 h ++ (b ∷ [])) x)
same_held g h b x = either (leb (length h) 65) refl
  where
    either : (e : Bool) → leb (length h) 65 ≡ e
        → text.answers g (text.lines_from (h ++ (b ∷ [])) x) ≡ text.answers g (text.lines_from (take 65 h ++ (b ∷ [])) x)
    either true e = ap (λ (k : List ℕ). text.answers g (text.lines_from (k ++ (b ∷ [])) x)) (sym (take_all 65 h (leb-true (length h) 65 e)))
    either false e =
        let long : 65 < length h = leb-false (length h) 65 e in
        let len : length (take 65 h) ≡ 65 = length-take-le 65 h (omega (arith, long)) in
        alike g (h ++ (b ∷ [])) (take 65 h ++ (b ∷ [])) x
        (omega (arith, length-append h (b ∷ []), long), omega (arith, length-append (take 65 h) (b ∷ []), len), last_byte h b ∙ sym (last_byte (take 65 h) b))

-- a byte that is held
pub took_byte : (s r : Session) (out : Page) (b : ℕ) {e : Bool} → e ≡ (eqb b 10 && text.ends_in_cr s.line) → e ≡ false
    → r.program ≡ s.program → r.line ≡ take 65 s.line ++ (b ∷ []) → Took s out (b ∷ []) r out
took_byte s r out b e f p h =
    record {
      total =
          λ x.
          ap (λ (l : List ℕ). out.written ++ l)
          (kept s.program s.line b x e f
          ∙ same_held s.program s.line b x
          ∙ ap (λ (l : List ℕ). text.answers s.program (text.lines_from l x)) (sym h)
          ∙ ap (λ (g : text.Stage). text.answers g (text.lines_from r.line x)) (sym p));
      most = omega arith;
      room = refl;
    }

-- ---- the bytes that are held

-- a byte behind the first `held` ones of l, or in the place of the last of 66
pub held_on : (l : List ℕ) (held i b : ℕ) → length l ≡ 66 → held ≤ 66 → i ≡ min held 65 → take (i + 1) (set l i b) ≡ take 65 (take held l) ++ (b ∷ [])
held_on l held i b len le e = rw (add-one i) (take-suc-set l i b (omega (arith, len, e)) ∙ ap (λ (k : List ℕ). k ++ (b ∷ [])) (either (leb held 65) refl))
  where
    either : (a : Bool) → leb held 65 ≡ a → take i l ≡ take 65 (take held l)
    either true h =
        let small : held ≤ 65 = leb-true held 65 h in
        let same : i ≡ held = omega (arith, e, small) in
        ap (λ (j : ℕ). take j l) same ∙ sym (take_all 65 (take held l) (omega (arith, length-take-le held l (omega (arith, le, len)), small)))
    either false h =
        let large : 65 < held = leb-false held 65 h in
        let last : i ≡ 65 = omega (arith, e, large) in
        ap (λ (j : ℕ). take j l) last ∙ sym (take-take 65 held l (omega (arith, large)))

-- the bytes behind those stay 0, d bytes further on
unused_from : (l : List ℕ) (held d : ℕ) → drop held l ≡ unused held → drop (held + d) l ≡ unused (held + d)
unused_from l held d rest =
    sym (drop-drop d held l) ∙ ap (drop d) rest ∙ drop-replicate d (line_room - held) 0 ∙ ap (λ (n : ℕ). replicate n 0) (omega arith)

-- the room of a line that holds a byte more
pub room_on : (l : List ℕ) (held i b : ℕ) → (held ≤ line_room) × (length l ≡ line_room) × (drop held l ≡ unused held) → i ≡ min held 65
    → (i + 1 ≤ line_room) × (length (set l i b) ≡ line_room) × (drop (i + 1) (set l i b) ≡ unused (i + 1))
room_on l held i b fits e =
    let over : held + (i + 1 - held) ≡ i + 1 = omega (arith, e, fits.0) in (
      omega (arith, e),
      length-set l i b ∙ fits.1,
      drop-set-lt (i + 1) l i b (omega arith) ∙ rw over at (unused_from l held (i + 1 - held) fits.2),
    )
