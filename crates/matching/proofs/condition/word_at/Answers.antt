-- The word where a letter starts, and past the plan's end the 0 that `get_or` has there.
use mathlib.Core.Path.{sym, refl}
use lib.ListN.{get_or-eq_default}
use Rattle.matching.specs.Check.{word_from}
use Rattle.matching.proofs.condition.word_at.Goals as goal

pub returns-then-at-plan : goal.returns-then-at-plan
unfolding word_from
returns-then-at-plan c = refl

pub returns-else-at-plan : goal.returns-else-at-plan
unfolding word_from
returns-else-at-plan c = sym (get_or-eq_default c.args.plan.now 0 c.if-at-plan.false)
