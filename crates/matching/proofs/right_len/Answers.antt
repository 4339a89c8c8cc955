-- The right side of a law comes to as many words as its row says.
use Rattle.std.proofs.Common.{arith}
use Rattle.matching.specs.Right.{law_size}
use Rattle.matching.proofs.Sides.{side-short}
use Rattle.matching.proofs.right_len.Goals as goal

pub words_len-requires : goal.words_len-requires
words_len-requires c = rw c.right_side.ensures (omega (arith, side-short c.args.law c.requires.0 c.requires.1))

pub returns : goal.returns
unfolding law_size
returns c = rw c.right_side.ensures at c.words_len.ensures
