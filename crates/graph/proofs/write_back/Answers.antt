-- Entries are written from the last word to the first. The invariant: with the words of the entries left written too, the area is as it shall be.
-- The measure is the place of the word written last.
use mathlib.Core.Path.{sym, ◌∙◌}
use native.Mathlib.Omega.{arith}
use lib.ListN.{length-set}
use Rattle.graph.proofs.Writing.{writing_starts, turn_inside, turn-word, turn_one, two-room, turn_two, writing_ends}
use Rattle.graph.proofs.write_back.Goals as goal

pub loop-h-init : goal.loop-h-init
loop-h-init c = writing_starts c.requires

pub loop-h-preserved-then-v-lt-FIRST_NODE : goal.loop-h-preserved-then-v-lt-FIRST_NODE
loop-h-preserved-then-v-lt-FIRST_NODE c = turn-word c.loop-h.invariant c.loop-h-test.true c.if-v-lt-FIRST_NODE.true

pub overflow_cast-word : goal.overflow_cast-word
overflow_cast-word c = omega (arith, turn_inside c.loop-h.invariant c.loop-h-test.true c.if-v-lt-FIRST_NODE.false)

pub bounds-own-v : goal.bounds-own-v
bounds-own-v c = (turn_inside c.loop-h.invariant c.loop-h-test.true c.if-v-lt-FIRST_NODE.false).0

pub overflow_cast-stack : goal.overflow_cast-stack
overflow_cast-stack c = omega (arith, turn_inside c.loop-h.invariant c.loop-h-test.true c.if-v-lt-FIRST_NODE.false)

pub offset_bounds-first-v : goal.offset_bounds-first-v
offset_bounds-first-v c = omega (arith, turn_inside c.loop-h.invariant c.loop-h-test.true c.if-v-lt-FIRST_NODE.false)

pub bounds-first-v : goal.bounds-first-v
bounds-first-v c = (turn_inside c.loop-h.invariant c.loop-h-test.true c.if-v-lt-FIRST_NODE.false).1

pub overflow_cast-stack-then-takes_two : goal.overflow_cast-stack-then-takes_two
overflow_cast-stack-then-takes_two c = omega (arith, turn_inside c.loop-h.invariant c.loop-h-test.true c.if-v-lt-FIRST_NODE.false)

pub offset_bounds-second-v : goal.offset_bounds-second-v
offset_bounds-second-v c = omega (arith, turn_inside c.loop-h.invariant c.loop-h-test.true c.if-v-lt-FIRST_NODE.false)

pub bounds-second-v : goal.bounds-second-v
bounds-second-v c = (turn_inside c.loop-h.invariant c.loop-h-test.true c.if-v-lt-FIRST_NODE.false).2

pub bounds-stack-h-then-takes_two : goal.bounds-stack-h-then-takes_two
bounds-stack-h-then-takes_two c =
    simp length-set (two-room c.loop-h.invariant c.loop-h-test.true c.if-v-lt-FIRST_NODE.false (sym c.takes_two.ensures.whole ∙ c.if-takes_two.true))

pub loop-h-preserved-then-takes_two : goal.loop-h-preserved-then-takes_two
loop-h-preserved-then-takes_two c = turn_two c.loop-h.invariant c.loop-h-test.true c.if-v-lt-FIRST_NODE.false (sym c.takes_two.ensures.whole ∙ c.if-takes_two.true)

pub loop-h-preserved : goal.loop-h-preserved
loop-h-preserved c = turn_one c.loop-h.invariant c.loop-h-test.true c.if-v-lt-FIRST_NODE.false (sym c.takes_two.ensures.whole ∙ c.if-takes_two.false)

pub returns : goal.returns
returns c = writing_ends c.loop-h.invariant (omega arith)
