use Rattle.std.proofs.Common.{◌≡◌, ℕ, Bool, refl, true, false, rules, arith}
use Rattle.std.proofs.lemmas.Iterator.{cases_from_all, YieldsList-from_range}
use Rattle.xdr.specs.Words.{word}
use Rattle.rules.specs.Table.{start}
use Rattle.tables.specs.Sections.{rear_ok}
use Rattle.shape.proofs.Every.{every_cases}
use Rattle.unused.proofs.rears.Goals as goal

pub returns : goal.returns
returns c = let a = c.args in
    let ok : ℕ → Bool = λ (p : ℕ). rear_ok a.dims.e (word a.t.now) (start a.dims.e p) in
    every_cases ok a.dims.n c.all.result
    (cases_from_all _ _ _ (λ p. ok p ≡ true) (λ p. ok p ≡ false) c.all.ensures.ran (YieldsList-from_range 0 a.dims.n a.dims.n refl (omega arith))
    (λ x q r. search rules) (λ x q r. search rules))
