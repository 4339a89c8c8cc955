-- `writing::write_station` meets its contract. The invariant: with the blocks from block i on put into it, the area is the one lent with the file in
-- front.
use Prim.Native.Nat.{◌≤◌}
use Rattle.writing.proofs.Turns.{Writes}
use Rattle.writing.proofs.write_station.Given as goal

abbrev pub invariant-loop-i : goal.invariant-loop-i
invariant-loop-i l = (l.i ≤ l.count) × Writes l.tables l.plan l.initial.area l.area l.i
