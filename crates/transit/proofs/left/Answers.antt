use Rattle.std.proofs.Common.{rules, arith, length, ◌≤◌}
use Rattle.std.proofs.lemmas.Iterator.{YieldsList-from_slice}
use Rattle.std.proofs.lemmas.Iterator.Adapters.{fits_from_length, at_most_from_yields_List}
use Rattle.transit.proofs.left.Goals as goal

-- a note counts at most 1
pub sum-requires-clause-fits : goal.sum-requires-clause-fits
sum-requires-clause-fits c =
    let few : length c.args.notes.now ≤ 18446744073709551615 = omega arith in
    fits_from_length _ _ 18446744073709551615 18446744073709551616 (at_most_from_yields_List (YieldsList-from_slice c.args.notes.now cc) few) c.map.ensures.closure (omega arith) (λ x r q k. search rules)
