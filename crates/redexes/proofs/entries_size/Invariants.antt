-- The sizes of the entries are added up. The invariant: with the sizes of the entries left, the sum is that of all.
use Prim.Native.Nat.{◌+◌, ◌*◌, ◌≤◌}
use mathlib.Core.Path.{◌≡◌}
use lib.ListN.{drop}
use Rattle.redexes.specs.Slots.{entries_size}
use Rattle.redexes.proofs.entries_size.Given as goal

abbrev pub invariant-loop-v : goal.invariant-loop-v
invariant-loop-v l =
    (l.size ≤ l.v-index * 65535) × (l.size + entries_size l.sizes (drop l.v-index l.entries) ≡ entries_size l.sizes l.entries)
