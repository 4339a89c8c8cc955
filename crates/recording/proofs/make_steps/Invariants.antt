-- `recording::make_steps` meets its contract. The invariant: `Going`, the run from the first plan comes to the plan held now. The measure
-- is the steps still allowed, and within a step the entries still to read.
use Prim.Native.Nat.{suc, ◌+◌, ◌-◌, ◌*◌}
use mathlib.Core.Path.{◌≡◌}
use lib.ListN.{length}
use Rattle.graphsteps.specs.Holding.{arrays}
use Rattle.recording.proofs.Stepping.{Going}
use Rattle.areas.specs.Area.{most_words}
use Rattle.recording.proofs.make_steps.Given as goal

abbrev pub invariant-loop-here : goal.invariant-loop-here
invariant-loop-here l =
    Going l.tables l.limit l.allowed l.used l.initial.list (arrays l.initial.own l.initial.first l.initial.second l.initial.sizes l.initial.stack l.initial.todo) l.initial.here l.initial.reached l.list (arrays l.own l.first l.second l.sizes l.stack l.todo) l.here l.cut l.reached l.left l.end
    × (length l.own ≡ length l.initial.own)

abbrev pub decreases-loop-here : goal.decreases-loop-here
decreases-loop-here l =
    suc most_words * l.left + (most_words - l.here.rest)
