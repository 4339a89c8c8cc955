-- Words are put into an array of entries. The invariant: the array with the first i words copied.
use native.Mathlib.Omega.{arith}
use mathlib.Core.Path.{◌∙◌}
use lib.ListN.{length-set}
use Rattle.areas.proofs.Area.{paste_more, paste_all}
use Rattle.graph.proofs.load_words.Goals as goal

pub loop-i-preserved : goal.loop-i-preserved
loop-i-preserved c =
    let e = c.from.ensures in
    (omega arith, simp length-set c.loop-i.invariant.1, rw (e, c.loop-i.invariant.2) (paste_more c.args.dst.now c.args.src.now c.args.at c.loop-i.i (omega arith) (omega arith)))

pub returns : goal.returns
returns c = c.loop-i.invariant.2 ∙ paste_all c.args.dst.now c.args.src.now c.args.at c.loop-i.i (omega arith) (omega arith)
