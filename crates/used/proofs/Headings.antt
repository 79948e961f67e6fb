-- A section's marks, and what its heading says beside what was found.
use Rattle.std.proofs.Common.{◌≡◌, ℕ, ◌+◌, ◌*◌, ◌<◌, true, ◌&&◌, eqb, ◌∙◌}
use lib.Bits.{bit_and, bit_or, bit_xor, or_shifted}
use Rattle.rules.specs.Records.{number, sends}
use Rattle.rules.specs.Table.{heading, records_at, records_ok}
use Rattle.used.specs.Marks.{clear, top, upper, wrap, pair_of}
use Rattle.tables.specs.Sections.{front_ok}
use Rattle.used.proofs.Marks.{marks_zero}
use Rattle.basics.proofs.Booleans.{Test, passes, fails, test}
use Rattle.basics.proofs.Bits.{or_zero, xor_zero, halves_same}

module _ (e : ℕ) (w : ℕ → ℕ) {at c : ℕ} (h : c ≡ w at) where
  -- marks, and the heading's number and count of sends beside those that were found
  pub front_fold : (n p m : ℕ) {last k pair : ℕ} → m < wrap → clear m ≡ records_ok n e w p (at + heading) c
      → (records_ok n e w p (at + heading) c ≡ true → (last ≡ number (records_at w (at + heading) c) * upper) × (k ≡ sends (records_at w (at + heading) c)))
      → k < upper → w (at + 2) < upper → pair ≡ w (at + 1) * upper + w (at + 2)
      → eqb (bit_or (bit_and m (pair_of top top)) (bit_xor pair (bit_or last k))) 0 ≡ front_ok n e w p at
  front_fold n p m {last} {k} {pair} ml f g kl yl hp =
      or_zero (bit_and m (pair_of top top)) (bit_xor pair (bit_or last k))
      ∙ rw (marks_zero m ml, xor_zero pair (bit_or last k), f, ← h) (go (test (records_ok n e w p (at + heading) c)))
    where
      go : Test (records_ok n e w p (at + heading) c)
          → (records_ok n e w p (at + heading) c && eqb pair (bit_or last k))
          ≡ (records_ok n e w p (at + heading) c && eqb (w (at + 1)) (number (records_at w (at + heading) c)) && eqb (w (at + 2)) (sends (records_at w (at + heading) c)))
      go (fails o) = rw o
      go (passes o) =
          let small : sends (records_at w (at + heading) c) < upper = rw (g o).1 at kl in
          rw (o, hp, (g o).0, (g o).1, or_shifted (number (records_at w (at + heading) c)) 32 (sends (records_at w (at + heading) c)) small)
          (halves_same (w (at + 1)) (w (at + 2)) (number (records_at w (at + heading) c)) (sends (records_at w (at + heading) c)) yl small)
