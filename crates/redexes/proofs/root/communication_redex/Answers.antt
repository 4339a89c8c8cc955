-- `communication_redex` meets its contract: law 15's letters are the first operand's action, then the second operand.
use mathlib.Core.Path.{◌≡◌}
use Rattle.std.proofs.Common.{rules}
use Rattle.redexes.specs.Redexes.{on_actions, communication_redex}
use Rattle.redexes.proofs.root.communication_redex.Goals as goal

pub returns-in-Action-q-2 : goal.returns-in-Action-q-2
unfolding communication_redex
returns-in-Action-q-2 c =
    let letters : c.on_actions-in-Action-q-2.result ≡ on_actions 15 c.in-Product.i c.in-Action-q-2.j c.in-Product.x 0 = c.on_actions-in-Action-q-2.ensures in
    search rules
