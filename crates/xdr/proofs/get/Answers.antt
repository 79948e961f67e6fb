use Rattle.std.proofs.Common.{rules}
use Rattle.xdr.specs.Words.{word}
use Rattle.xdr.proofs.get.Goals as goal

pub returns : goal.returns
unfolding word
returns c = search rules
