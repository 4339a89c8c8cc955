-- `stations::file::gather` meets its contract. The invariant: what is copied and what the blocks left hold make the whole.
use Prim.Native.Nat.{◌≤◌}
use Rattle.stations.proofs.Gathering.{left, Gathers}
use Rattle.stations.proofs.file.gather.Given as goal

abbrev pub invariant-loop-i : goal.invariant-loop-i
invariant-loop-i l = (l.i ≤ l.end) × Gathers l.file l.end (left l.file l.end l.first) l.initial.area l.area l.at l.i
