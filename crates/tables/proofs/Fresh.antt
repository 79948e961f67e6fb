-- The table of n processes without records has n, E and zeros.
use mathlib.Core.Path.{◌≡◌, refl, sym, ap, ◌∙◌}
use mathlib.Core.Logic.{inr}
use mathlib.Core.List.{List, [], ◌∷◌, ◌++◌}
use Prim.Native.Nat.{ℕ, zero, suc, ◌+◌, ◌-◌, ◌*◌, ◌≤◌, ◌<◌}
use native.Mathlib.Omega.{arith}
use lib.ListN.{length, get_or, replicate, length-replicate}
use Rattle.xdr.specs.Words.{word, put_words}
use Rattle.xdr.proofs.Words.{Small, bytes_of}
use Rattle.xdr.proofs.Puts.{all_length, all_bytes, all_other, all_at}
use Rattle.rules.specs.Table.{heading, width, size, section_words, sections_words, layout, fresh}
use Rattle.records.proofs.Steps.{history_fresh}
use Rattle.tables.proofs.Laid.{sections_length}
use Rattle.tables.proofs.Ranges.{InRange}

abbrev Zeros : List ℕ → Type 0
Zeros xs = (i : ℕ) → get_or xs i 0 ≡ 0

zeros_replicate : (m : ℕ) → Zeros (replicate m 0)
zeros_replicate zero i = refl
zeros_replicate (suc m) zero = refl
zeros_replicate (suc m) (suc i) = zeros_replicate m i

zeros_append : (xs ys : List ℕ) → Zeros xs → Zeros ys → Zeros (xs ++ ys)
zeros_append [] ys a b i = b i
zeros_append (x ∷ xs) ys a b zero = a 0
zeros_append (x ∷ xs) ys a b (suc i) = zeros_append xs ys (λ j. a (suc j)) b i

zeros_section : (E : ℕ) → Zeros (section_words E [])
zeros_section E zero = refl
zeros_section E (suc zero) = refl
zeros_section E (suc (suc zero)) = refl
zeros_section E (suc (suc (suc i))) = zeros_replicate (width * (E - 0)) i

zeros_fresh : (E n : ℕ) → Zeros (sections_words E (fresh n))
zeros_fresh E zero i = refl
zeros_fresh E (suc n) i = zeros_append (section_words E []) (sections_words E (fresh n)) (zeros_section E) (zeros_fresh E n) i

word_zeros : (t : List ℕ) → Zeros t → (i : ℕ) → word t i ≡ 0
unfolding word
word_zeros t z i = rw (z (4 * i), z (4 * i + 1), z (4 * i + 2), z (4 * i + 3))

pub fresh_layout : (n E : ℕ) → InRange n E → put_words (replicate (size n E) 0) 0 (n ∷ E ∷ []) ≡ layout n E (fresh n)
unfolding layout
fresh_layout n E d =
    bytes_of (n ∷ E ∷ sections_words E (fresh n)) (put_words t 0 (n ∷ E ∷ [])) size_of
    (all_bytes t 0 (n ∷ E ∷ []) (λ i. let z = zeros_replicate (size n E) i in omega arith)) words
  where
    t : List ℕ
    t = replicate (size n E) 0

    wide : length t ≡ size n E
    wide = length-replicate {A = ℕ} (size n E) 0

    few : length (sections_words E (fresh n)) ≡ n * (heading + width * E)
    few =
        sections_length E (fresh n) (λ q. let h = ap length (history_fresh n q) in omega arith)
        ∙ ap (λ (x : ℕ). x * (heading + width * E)) (length-replicate n [])

    size_of : length (put_words t 0 (n ∷ E ∷ [])) ≡ 4 * length (n ∷ E ∷ sections_words E (fresh n))
    size_of = let a = all_length t 0 (n ∷ E ∷ []) in let b = wide in let c = few in omega arith

    small : Small (n ∷ E ∷ [])
    small = let a = d.processes in let b = d.records in (omega arith, (omega arith, tt))

    long : 4 * (0 + length (n ∷ E ∷ [])) ≤ length t
    long = let b = wide in omega arith

    words : (i : ℕ) → i < length (n ∷ E ∷ sections_words E (fresh n)) → word (put_words t 0 (n ∷ E ∷ [])) i ≡ get_or (n ∷ E ∷ sections_words E (fresh n)) i 0
    words zero l = all_at t 0 (n ∷ E ∷ []) small long 0 (omega arith)
    words (suc zero) l = all_at t 0 (n ∷ E ∷ []) small long 1 (omega arith)
    words (suc (suc i)) l =
        all_other t 0 (n ∷ E ∷ []) (suc (suc i)) (inr (omega arith)) ∙ word_zeros t (zeros_replicate (size n E)) (suc (suc i)) ∙ sym (zeros_fresh E n i)
