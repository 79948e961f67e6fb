use Rattle.std.proofs.Common.{rules, arith, refl, length}
use mathlib.Core.Path.{◌∙◌}
use Rattle.std.proofs.lemmas.Iterator.{YieldsList-from_range, YieldsList-from_map}
use Rattle.std.proofs.lemmas.Iterator.Consumers.{sum_from_yields_List, fits_from_yields_list}
use Rattle.rules.specs.Records.{history}
use Rattle.layout.specs.Tables.{state_of}
use Rattle.basics.proofs.Sums.{sum_mapped}
use Rattle.replay.proofs.Rounds.{few_records, none_done, start_left, start}
use Rattle.replay.proofs.Replay.new.Goals as goal

pub sum-requires-clause-fits : goal.sum-requires-clause-fits
sum-requires-clause-fits c = let t = c.args.table in
    let few = few_records t in
    let total = sum_mapped (λ p. length (history (state_of t) p)) t.n in
    fits_from_yields_list c.map.result 18446744073709551616
    (YieldsList-from_map _ (λ p. length (history (state_of t) p)) (YieldsList-from_range 0 t.n t.n c.map.ensures.source (omega arith)) c.map.ensures.closure (λ x r q k. search rules))
    (omega arith)

pub returns : goal.returns
returns c = let t = c.args.table in
    let total = sum_from_yields_List c.map.result c.sum.result c.sum.ensures.ran
    (YieldsList-from_map _ (λ p. length (history (state_of t) p)) (YieldsList-from_range 0 t.n t.n c.map.ensures.source (omega arith)) c.map.ensures.closure (λ x r q k. search rules))
    ∙ sum_mapped (λ p. length (history (state_of t) p)) t.n ∙ start_left t in
    (refl, (start t _ _ refl none_done, total))
