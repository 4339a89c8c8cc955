-- The set of ∂'s word: what it is above 80.
use Rattle.matching.specs.Check.{set_from}
use native.Mathlib.Omega.{arith}
use Rattle.matching.proofs.condition.set_at.Goals as goal

pub returns-then-word-lt80 : goal.returns-then-word-lt80
unfolding set_from
returns-then-word-lt80 c = omega (arith, c.word_at-word.ensures)

pub returns-else-word-lt80 : goal.returns-else-word-lt80
unfolding set_from
returns-else-word-lt80 c = omega (arith, c.word_at-word.ensures)
