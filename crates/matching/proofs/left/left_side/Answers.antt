-- The row of a law is its left side.
use Rattle.matching.proofs.Table.{now_at}
use Rattle.matching.proofs.LawTables.{left, left_of}
use Rattle.matching.proofs.left.left_side.Goals as goal

pub returns : goal.returns
unfolding left
returns c = rw now_at (left_of c.args.law c.requires.0 c.requires.1)
