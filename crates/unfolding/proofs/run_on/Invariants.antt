-- `unfolding::run_on` meets its contract. The invariant: `Going`, what is left of the run has the outcome of the whole run. The measure is the steps
-- still allowed, since a round that another follows has made one.
use lib.ListN.{drop}
use Rattle.unfolding.proofs.Running.{Going}
use Rattle.unfolding.proofs.run_on.Given as goal

abbrev pub invariant-loop-stop : goal.invariant-loop-stop
invariant-loop-stop l =
    Going l.tables l.limit l.allowance (drop l.front l.initial.words) l.initial.list l.list l.words l.old l.start l.state l.allowed l.used

abbrev pub decreases-loop-stop : goal.decreases-loop-stop
decreases-loop-stop l = l.allowed
