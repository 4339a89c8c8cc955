-- `rewritings::position_after` meets its contract: behind a step of either direction stands what its record says.
use Rattle.std.proofs.Common.{rules}
use Rattle.rewritings.proofs.position_after.Goals as goal

-- written out, so that an arm that answers another place is refused at this equation
pub returns-in-Some-Step : goal.returns-in-Some-Step
returns-in-Some-Step c = search rules
