use Rattle.std.proofs.Common.{arith, ◌≡◌}
use mathlib.Core.Path.{◌∙◌}
use Rattle.xdr.specs.Words.{turned, put_word}
use Rattle.xdr.proofs.Words.{swapped, turned_bytes, top_byte_of}
use Rattle.xdr.proofs.put.Goals as goal

pub returns : goal.returns
unfolding put_word
returns c = let v = c.args.v in
    let w = c.swap_bytes.result in
    let t : w ≡ turned v = c.swap_bytes.ensures ∙ swapped v (omega arith) in
    let b = turned_bytes v w (omega arith) t in
    rw (c.to_le_bytes-bytes.ensures, b.0, b.1, b.2, top_byte_of v w b.3)
