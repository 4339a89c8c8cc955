-- `fixing::judge_basic` meets its contract: the plan's own refusal first, then 70.
use mathlib.Core.Path.{sym}
use Rattle.std.proofs.lemmas.Result.{err_from_is_err_and}
use Rattle.refusals.proofs.Judging.{accepted_none}
use Rattle.plans.proofs.Accepted.{plan-accepted_iff, few_actions, accepted-length}
use Rattle.fixing.proofs.Outcomes.{judged-plan, judged-basic, judged-not_basic}
use Rattle.fixing.proofs.judge_basic.Goals as goal

pub returns-in_err-judge_plan : goal.returns-in_err-judge_plan
returns-in_err-judge_plan c =
    let p = err_from_is_err_and c.from_residual.result c.from_residual.ensures.1 in
    rw (p.1, p.2) (judged-plan _ _ c.in_err-judge_plan.ensures.whole)

pub basic_words-requires : goal.basic_words-requires
basic_words-requires c =
    let k = (plan-accepted_iff _ _).0 (accepted_none _ (sym c.in_ok-judge_plan.ensures.whole)) in
    let few = few_actions _ k.0 in
    (rw c.actions_of.ensures.whole few, accepted-length _ few _ k.1)

pub returns-then-basic_words : goal.returns-then-basic_words
returns-then-basic_words c =
    judged-basic _ _ c.in_ok-judge_plan.ensures.whole (rw c.actions_of.ensures.whole at c.if-basic_words.ensures.whole)

pub returns-else-basic_words : goal.returns-else-basic_words
returns-else-basic_words c =
    rw c.from.ensures (judged-not_basic _ _ c.in_ok-judge_plan.ensures.whole (rw c.actions_of.ensures.whole at c.if-basic_words.ensures.whole))
