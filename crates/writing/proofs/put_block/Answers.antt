-- `writing::put_block` meets its contract: a part of the tables, or of the plan.
use mathlib.Core.Path.{◌∙◌}
use Rattle.writing.specs.Writing.{block_due}
use Rattle.writing.proofs.File.{tables_due, plan_due}
use Rattle.writing.proofs.put_block.Goals as goal

pub returns-then-i-lt-TABLE_BLOCKS : goal.returns-then-i-lt-TABLE_BLOCKS
unfolding block_due
returns-then-i-lt-TABLE_BLOCKS c = c.put_part.ensures ∙ rw (tables_due _ _ _ c.if-i-lt-TABLE_BLOCKS.true)

pub returns-else-i-lt-TABLE_BLOCKS : goal.returns-else-i-lt-TABLE_BLOCKS
unfolding block_due
returns-else-i-lt-TABLE_BLOCKS c = c.put_part-else-i-lt-TABLE_BLOCKS.ensures ∙ rw (plan_due _ _ _ c.if-i-lt-TABLE_BLOCKS.false)
