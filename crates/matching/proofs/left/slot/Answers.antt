-- The letter that a word is, by the tests on it.
use borrow.Author.Tests.{lt-ltb, le-ltb}
use Rattle.matching.specs.Left.{slot_of}
use Rattle.matching.proofs.left.slot.Goals as goal

pub returns-then-word-lt96 : goal.returns-then-word-lt96
unfolding slot_of
returns-then-word-lt96 c = rw (lt-ltb _ _ c.if-word-lt96.true)

pub returns-then-word-lt102 : goal.returns-then-word-lt102
unfolding slot_of
returns-then-word-lt102 c = rw (le-ltb _ _ c.if-word-lt96.false, lt-ltb _ _ c.if-word-lt102.true)

pub returns : goal.returns
unfolding slot_of
returns c = rw (le-ltb _ _ c.if-word-lt96.false, le-ltb _ _ c.if-word-lt102.false)
