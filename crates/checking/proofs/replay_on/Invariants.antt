-- `replay_on` meets its contract. The loop's invariant: the records left, replayed on the plan under work, have the outcome of the whole
-- rewriting, their laws are known and their left sides are accepted plans. The measure is the bytes left.
use Prim.Native.Nat.{◌-◌}
use lib.ListN.{length}
use Rattle.areas.specs.Storing.{before}
use Rattle.steps.specs.Working.{plan_in}
use Rattle.checking.proofs.Turning.{Going}
use Rattle.checking.proofs.replay_on.Given as goal

abbrev pub invariant-loop-record : goal.invariant-loop-record
invariant-loop-record l =
    Going l.tables l.limit l.rewriting (plan_in l.initial.left l.initial.right l.initial.gap) (before l.initial.gap.made (plan_in l.initial.left l.initial.right l.initial.gap) l.initial.old) l.at l.left l.starts l.right l.old l.gap

abbrev pub decreases-loop-record : goal.decreases-loop-record
decreases-loop-record l = length l.rewriting - l.at
