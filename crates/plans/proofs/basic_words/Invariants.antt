-- `plans::basic_words` meets its contract. The invariant: scanning the words left, with the kinds of the subplans that wait, answers for the plan.
use Rattle.plans.proofs.Scanning.{Scanned}
use Rattle.plans.proofs.basic_words.Given as goal

abbrev pub invariant-loop-byte : goal.invariant-loop-byte
invariant-loop-byte l = Scanned l.n l.plan l.kinds l.depth l.byte-index
