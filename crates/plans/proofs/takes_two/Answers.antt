-- `plans::takes_two` meets its contract: it compares the count of operands with 2.
use Rattle.plans.specs.Word.{takes_two?}
use Rattle.plans.proofs.takes_two.Goals as goal

pub returns : goal.returns
unfolding takes_two?
returns c = record { whole = rw c.operands.ensures.whole }
