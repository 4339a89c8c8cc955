-- `walks::pass::pass` meets its contract: what is left of the pass at each word gives what the whole pass gives.
use Rattle.walks.proofs.Turning.{Left}
use Rattle.walks.proofs.pass.pass.Given as goal

abbrev pub invariant-loop-i : goal.invariant-loop-i
invariant-loop-i l = Left l.n l.plan l.starts l.message l.initial.left l.initial.next l.left l.next l.finishes l.i
