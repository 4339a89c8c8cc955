-- How many words one word comes to, by the tests on it.
use Rattle.std.proofs.Common.{arith}
use borrow.Author.Tests.{lt-ltb, le-ltb}
use Rattle.matching.specs.Right.{width}
use Rattle.matching.proofs.right.word_len.Goals as goal

pub returns-then-word-lt96 : goal.returns-then-word-lt96
unfolding width
returns-then-word-lt96 c = (rw (lt-ltb _ _ c.if-word-lt96.true), omega arith)

pub returns-then-word-lt102 : goal.returns-then-word-lt102
unfolding width
returns-then-word-lt102 c = (rw (le-ltb _ _ c.if-word-lt96.false, lt-ltb _ _ c.if-word-lt102.true) c.saturating_sub.ensures, omega (arith, c.saturating_sub.type_inv))

pub returns : goal.returns
unfolding width
returns c = (rw (le-ltb _ _ c.if-word-lt96.false, le-ltb _ _ c.if-word-lt102.false), omega arith)
