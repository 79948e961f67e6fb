-- The test of a section in two parts: its count of used records with what is behind them, and its used records with what its heading says
-- of them. And what it says of the words of a send.
use Rattle.std.specs.Prelude.{◌≡◌, Bool, true, ◌&&◌, ℕ, zero, suc, ◌+◌, ◌-◌, ◌*◌, ◌<◌, eqb, leb}
use Rattle.rules.specs.Records.{number, sends}
use Rattle.rules.specs.Table.{heading, width, records_at, records_ok, zeros_at}

-- a test holds of every number below m
abbrev pub every : (ℕ → Bool) → ℕ → Bool
every f zero = true
every f (suc m) = every f m && f m

-- c ≤ E, and every word of an unused record is 0, in the section that starts at word `at`
abbrev pub rear_ok : ℕ → (ℕ → ℕ) → ℕ → Bool
rear_ok E w at = leb (w at) E && zeros_at w (at + heading + width * w at) (width * (E - w at))

-- the used records, the current number and the send count of section p, which starts at word `at`
abbrev pub front_ok : ℕ → ℕ → (ℕ → ℕ) → ℕ → ℕ → Bool
front_ok n E w p at =
    records_ok n E w p (at + heading) (w at)
    && eqb (w (at + 1)) (number (records_at w (at + heading) (w at)))
    && eqb (w (at + 2)) (sends (records_at w (at + heading) (w at)))

-- every send among the first c records from word `at` on has its number as its third word and the number that it carries as its fourth
abbrev pub SendsLaid : (ℕ → ℕ) → ℕ → ℕ → Type 0
SendsLaid w at c =
    (i : ℕ) → i < c → w (at + width * i) ≡ 3
    → (w (at + width * i + 2) ≡ suc (sends (records_at w at i))) × (w (at + width * i + 3) ≡ number (records_at w at i))
