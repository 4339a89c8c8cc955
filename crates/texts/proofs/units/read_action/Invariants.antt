-- `texts::units::read_action` meets its contract. While the loop runs, the digits so far are read, and their value is at most n.
use Prim.Native.Nat.{◌-◌}
use lib.ListN.{length}
use Rattle.texts.proofs.Beginnings.{Digits}
use Rattle.texts.proofs.units.read_action.Given as goal

abbrev pub invariant-loop-next : goal.invariant-loop-next
invariant-loop-next l = Digits l.n l.depth l.text l.at l.here l.action

abbrev pub decreases-loop-next : goal.decreases-loop-next
decreases-loop-next l = length l.text - l.here
