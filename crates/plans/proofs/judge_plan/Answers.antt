-- `plans::judge_plan` meets its contract: the tables' refusal stands first, and accepted tables have at most 31 actions, as the words' judge asks.
use Rattle.std.proofs.Common.{rules}
use Rattle.plans.specs.Judging.{plan_refusal}
use Rattle.plans.proofs.Passing.{passed_on, passed}
use Rattle.plans.proofs.judge_plan.Goals as goal

pub returns-in_err-judge_tables : goal.returns-in_err-judge_tables
unfolding plan_refusal
returns-in_err-judge_tables c = record { whole = passed_on _ _ c.judge_tables.ensures.whole _ c.in_err-judge_tables.was (search rules) }

pub returns : goal.returns
unfolding plan_refusal
returns c = record { whole = passed _ _ c.judge_tables.ensures.whole _ c.in_ok-judge_tables.was (rw (← c.actions_of.ensures.whole) c.judge_words.ensures.whole) }
