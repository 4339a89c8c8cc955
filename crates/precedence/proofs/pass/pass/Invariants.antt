-- `precedence::pass::pass` meets its contract: what is left of the pass at each word gives what the whole pass gives.
use Rattle.precedence.proofs.Turning.{Left}
use Rattle.precedence.proofs.pass.pass.Given as goal

abbrev pub invariant-loop-i : goal.invariant-loop-i
invariant-loop-i l = Left l.n l.plan l.starts l.first l.second l.initial.seen l.seen l.least l.i
