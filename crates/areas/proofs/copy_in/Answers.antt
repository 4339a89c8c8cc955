-- Words are copied into an area. The invariant: the area with the first i words copied.
use native.Mathlib.Omega.{arith}
use mathlib.Core.Path.{refl, ◌∙◌}
use lib.ListN.{length-set}
use Rattle.areas.proofs.Area.{paste_more, paste_all}
use Rattle.areas.proofs.copy_in.Goals as goal

pub loop-i-preserved : goal.loop-i-preserved
loop-i-preserved c =
    (omega arith, simp length-set c.loop-i.invariant.1, rw c.loop-i.invariant.2 (paste_more c.args.dst.now c.args.src.now c.args.at c.loop-i.i (omega arith) (omega arith)))

pub returns : goal.returns
returns c = (c.loop-i.invariant.2 ∙ paste_all c.args.dst.now c.args.src.now c.args.at c.loop-i.i (omega arith) (omega arith), refl)
