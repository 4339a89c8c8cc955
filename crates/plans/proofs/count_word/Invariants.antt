-- `plans::count_word` meets its contract. The invariant: the words counted and those that are left to count are all of them.
use Prim.Native.Nat.{◌≤◌, ◌+◌}
use mathlib.Core.Path.{◌≡◌}
use lib.ListN.{drop}
use Rattle.plans.specs.Occurrences.{occurrences}
use Rattle.plans.proofs.count_word.Given as goal

abbrev pub invariant-loop-byte : goal.invariant-loop-byte
invariant-loop-byte l =
    (l.count ≤ l.byte-index) × (l.count + occurrences l.word (drop l.byte-index l.plan) ≡ occurrences l.word l.plan)
