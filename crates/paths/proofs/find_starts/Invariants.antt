-- `paths::find_starts` meets its contract: word after word, each start by the starts before it.
use Rattle.paths.proofs.Starting.{First}
use Rattle.paths.proofs.find_starts.Given as goal

abbrev pub invariant-loop-i : goal.invariant-loop-i
invariant-loop-i l = First l.n l.plan l.starts l.i
