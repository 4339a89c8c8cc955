-- `buffer::load` meets its contract: what was copied to the end stands there alone.
use native.Mathlib.Omega.{arith}
use Prim.Native.Nat.{◌-◌}
use mathlib.Core.Path.{refl, ◌∙◌}
use lib.ListN.{length}
use Rattle.areas.proofs.Area.{end-written, overwrite-length}
use Rattle.areas.specs.Area.{most_words}
use Rattle.buffer.proofs.load.Goals as goal

pub returns : goal.returns
returns c =
    let a = c.args in
    let e = c.copy_in.ensures.0 in
    (rw c.no_step.ensures refl, rw e (end-written a.right.now (most_words - length a.plan.now) a.plan.now (omega arith)), rw e (overwrite-length a.right.now _ a.plan.now (omega arith) ∙ (omega arith)))
