use Rattle.std.proofs.Common.{rules, ◌+◌, ◌*◌}
use lib.ListN.{get_or}
use mathlib.Core.Path.{refl}
use Rattle.xdr.specs.Words.{word}
use Rattle.xdr.proofs.Zeros.{eight_zero}
use Rattle.xdr.proofs.raw_pair.Goals as goal

pub returns : goal.returns
unfolding word
returns c = let s = c.args.s.now in
    let i = 4 * c.args.i in
    eight_zero (get_or s i 0) (get_or s (i + 1) 0) (get_or s (i + 2) 0) (get_or s (i + 3) 0) (get_or s (i + 4) 0) (get_or s (i + 5) 0) (get_or s (i + 6) 0) (get_or s (i + 7) 0)
    (word s c.args.i) (word s (c.args.i + 1)) c.from_le_bytes.result refl (search rules) (search rules)
