-- `paths::find_starts` meets its contract: word after word, each start by the starts before it.
use native.Mathlib.Omega.{arith}
use native.Mathlib.Numerals.{add-one}
use Rattle.plans.proofs.Accepted.{accepted-length}
use Rattle.paths.proofs.Starting.{operands_there, first_more}
use Rattle.paths.proofs.find_starts.Goals as goal

pub start_of_next-requires-clause-n_bound : goal.start_of_next-requires-clause-n_bound
start_of_next-requires-clause-n_bound c = (c.requires.0, omega (arith, accepted-length _ c.requires.0 _ c.requires.1), omega arith)

pub start_of_next-requires-clause-operands : goal.start_of_next-requires-clause-operands
start_of_next-requires-clause-operands c = operands_there _ c.requires.0 c.args.plan.now c.requires.1 _ c.loop-i-test.true _ c.loop-i.invariant

pub loop-i-preserved : goal.loop-i-preserved
loop-i-preserved c =
    rw add-one (first_more _ c.requires.0 c.args.plan.now c.requires.1 _ c.loop-i-test.true _ c.loop-i.invariant (omega arith) _ c.start_of_next.ensures)
