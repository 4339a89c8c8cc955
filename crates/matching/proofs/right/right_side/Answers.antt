-- The row of a law is its right side.
use Rattle.matching.proofs.Table.{now_at}
use Rattle.matching.proofs.LawTables.{right, right_of}
use Rattle.matching.proofs.right.right_side.Goals as goal

pub returns : goal.returns
unfolding right
returns c = rw now_at (right_of c.args.law c.requires.0 c.requires.1)
