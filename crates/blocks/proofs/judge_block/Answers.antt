-- Each refusal is what the definition answers, by the calls' answers; so a block is accepted where the plain statement holds.
use Rattle.std.proofs.Common.{arith, rules}
use Rattle.blocks.specs.Block.{block_refusal}
use Rattle.blocks.proofs.Made.{answered_right}
use Rattle.blocks.proofs.judge_block.Goals as goal

pub returns-then-not-sum_right-clause-exactly : goal.returns-then-not-sum_right-clause-exactly
unfolding block_refusal
returns-then-not-sum_right-clause-exactly c = answered_right _ _ _ _ c.requires.0 (λ j. omega (arith, c.type_inv.block j)) (search rules)

pub returns-then-not-number_right-clause-exactly : goal.returns-then-not-number_right-clause-exactly
unfolding block_refusal
returns-then-not-number_right-clause-exactly c = answered_right _ _ _ _ c.requires.0 (λ j. omega (arith, c.type_inv.block j)) (search rules)

pub returns-then-not-use_right-clause-exactly : goal.returns-then-not-use_right-clause-exactly
unfolding block_refusal
returns-then-not-use_right-clause-exactly c = answered_right _ _ _ _ c.requires.0 (λ j. omega (arith, c.type_inv.block j)) (search rules)
