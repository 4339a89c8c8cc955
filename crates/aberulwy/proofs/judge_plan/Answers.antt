-- `aberulwy::judge_plan` meets its contract: the answer is the lower layer's, and acceptance means the words of one term.
use Rattle.refusals.proofs.Judging.{accepts_iff}
use Rattle.aberulwy.proofs.Judging.{numbers_of}
use Rattle.plans.specs.Judging.{plan_refusal}
use Rattle.plans.proofs.Accepted.{accepted-plan}
use Rattle.aberulwy.proofs.judge_plan.Goals as goal

pub returns : goal.returns
returns c =
    let t = c.args.tables.now in
    let ws = c.args.plan.now in
    let whole = c.judge_plan.ensures.whole in
    record { whole = whole; numbers = numbers_of (plan_refusal t ws) _ whole; accepts = accepts_iff (plan_refusal t ws) _ _ whole (accepted-plan t ws) }
