use Rattle.std.proofs.Common.{◌≡◌, ℕ, Bool, refl, true, false, rules, arith}
use Rattle.std.proofs.lemmas.Iterator.{cases_from_all, YieldsList-from_range, serves_from_Range}
use Rattle.xdr.specs.Words.{word}
use Rattle.rules.specs.Table.{start}
use Rattle.tables.specs.Sections.{front_ok}
use Rattle.tables.proofs.Sections.{rears_count}
use Rattle.shape.proofs.Every.{every_cases}
use Rattle.used.proofs.fronts.Goals as goal

pub all-requires-clause-callable : goal.all-requires-clause-callable
all-requires-clause-callable c = let l = c.args.limits.now.dims in
    serves_from_Range (λ x q r. search rules) (λ x a b. let w = rears_count l.e (word c.args.t.now) l.n x b c.requires.1 in search rules)

pub returns : goal.returns
returns c = let a = c.args in
    let l = a.limits.now.dims in
    let ok : ℕ → Bool = λ (p : ℕ). front_ok l.n l.e (word a.t.now) p (start l.e p) in
    every_cases ok l.n c.all.result
    (cases_from_all _ _ _ (λ p. ok p ≡ true) (λ p. ok p ≡ false) c.all.ensures.ran (YieldsList-from_range 0 l.n l.n refl (omega arith))
    (λ x q r. search rules) (λ x q r. search rules))
