-- `fixing::gathering::gather` meets its contract. The invariant: the summands of the words before place i are gathered.
use mathlib.Core.Path.{◌≡◌}
use lib.ListN.{length}
use Rattle.areas.specs.Area.{most_words}
use Rattle.fixing.specs.Gathered.{Gathered}
use Rattle.fixing.proofs.gathering.gather.Given as goal

abbrev pub invariant-loop-i : goal.invariant-loop-i
invariant-loop-i l = record {
  room : length l.buffer ≡ most_words;
  gathered : Gathered l.plan l.i l.links l.sizes l.ends l.entries l.starts l.stack.entries l.stack.parts;
}
