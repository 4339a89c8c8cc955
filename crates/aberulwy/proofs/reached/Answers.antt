-- `aberulwy::reached` meets its contract: the remainder of the steps by 2 tells their parity.
use native.Mathlib.Omega.{arith}
use Rattle.std.proofs.Common.{rules}
use Rattle.areas.specs.Reached.{reached_part}
use Rattle.aberulwy.proofs.Parity.{parity}
use Rattle.aberulwy.proofs.reached.Goals as goal
use Rattle.aberulwy.proofs.reached.Goals.{then-steps-eq0, else-steps-eq0}

pub returns : goal.returns
unfolding reached_part
returns c =
    let odd_even = parity c.args.steps in
    elim c.if-steps-eq0.branch [
      | then-steps-eq0 w ↦ record { whole = rw (odd_even.0 (omega arith)) (search rules) }
      | else-steps-eq0 w ↦ record { whole = rw (odd_even.1 (omega arith)) (search rules) }
    ]
