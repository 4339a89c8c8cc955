-- `writing::judge_writing` meets its contract: the plan's own refusal first, then 74.
use Rattle.std.proofs.Common.{rules}
use mathlib.Core.Path.{sym, ◌∙◌}
use lib.ListN.{length}
use borrow.Author.Tests.{lt-ltb, le-ltb}
use Rattle.refusals.proofs.Judging.{accepted_none}
use Prim.Native.Nat.{◌≤◌}
use Rattle.areas.specs.Area.{most_words}
use Rattle.plans.proofs.Accepted.{accepted-plan}
use Rattle.plans.proofs.Passing.{passed_on, passed}
use Rattle.writing.specs.Writing.{file_length, block_count, write_refusal}
use native.Mathlib.Omega.{arith}
use Rattle.writing.proofs.judge_writing.Goals as goal

pub returns-in_err-judge_plan : goal.returns-in_err-judge_plan
unfolding write_refusal
returns-in_err-judge_plan c = passed_on _ _ c.judge_plan.ensures.whole _ c.in_err-judge_plan.was (search rules)

pub count_blocks-requires : goal.count_blocks-requires
count_blocks-requires c = ((accepted-plan _ _).0 (accepted_none _ (sym c.judge_plan.ensures.whole ∙ c.in_ok-judge_plan.was))).few_words

pub overflow_mul-count_blocks : goal.overflow_mul-count_blocks
unfolding block_count
overflow_mul-count_blocks c =
    let few : length c.args.plan.now ≤ most_words = ((accepted-plan _ _).0 (accepted_none _ (sym c.judge_plan.ensures.whole ∙ c.in_ok-judge_plan.was))).few_words in
    omega (arith, c.count_blocks.ensures)

pub returns-then-area-count_blocks : goal.returns-then-area-count_blocks
unfolding file_length write_refusal
returns-then-area-count_blocks c =
    passed _ _ c.judge_plan.ensures.whole _ c.in_ok-judge_plan.was (rw (c.from.ensures, lt-ltb c.args.area (file_length (length c.args.plan.now)) (omega (arith, c.count_blocks.ensures))))

pub returns-else-area-count_blocks : goal.returns-else-area-count_blocks
unfolding file_length write_refusal
returns-else-area-count_blocks c =
    passed _ _ c.judge_plan.ensures.whole _ c.in_ok-judge_plan.was (rw (le-ltb c.args.area (file_length (length c.args.plan.now)) (omega (arith, c.count_blocks.ensures))))
