-- `checking::judge_records` meets its contract. The loop's invariant: what is found from the position on, or was found before it, is what is found of all
-- records. The measure is the bytes left.
use Prim.Native.Nat.{◌-◌}
use lib.ListN.{length}
use Rattle.checking.proofs.Judging.{JudgedTo}
use Rattle.checking.proofs.judge_records.Given as goal

abbrev pub invariant-loop-record : goal.invariant-loop-record
invariant-loop-record l = JudgedTo l.n l.rewriting l.at l.step l.unknown l.no_plan

abbrev pub decreases-loop-record : goal.decreases-loop-record
decreases-loop-record l = length l.rewriting - l.at
