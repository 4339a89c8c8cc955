-- The words of a sign and of its operands.
use native.Mathlib.Omega.{arith}
use mathlib.Core.Path.{sym, ◌∙◌}
use Rattle.graphsteps.specs.Holding.{size_under}
use Rattle.graphsteps.proofs.redex_size.Goals as goal

pub size_of-requires : goal.size_of-requires
size_of-requires c = c.requires.1 (sym c.takes_two.ensures.whole ∙ c.if-takes_two.true)

pub returns-then-takes_two : goal.returns-then-takes_two
unfolding size_under
returns-then-takes_two c = (rw (sym c.takes_two.ensures.whole ∙ c.if-takes_two.true, c.size_of-first.ensures.0, c.size_of.ensures.0), omega (arith, c.size_of-first.ensures.1, c.size_of.ensures.1))

pub returns : goal.returns
unfolding size_under
returns c = (rw (sym c.takes_two.ensures.whole ∙ c.if-takes_two.false, c.size_of-first.ensures.0), omega (arith, c.size_of-first.ensures.1))
