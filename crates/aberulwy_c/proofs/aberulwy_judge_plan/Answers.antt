-- `aberulwy_c::aberulwy_judge_plan` meets its contract: the answer of the call is handed over, and its report is what is reported.
use Rattle.aberulwy_c.proofs.Answers.{answered}
use Rattle.aberulwy_c.proofs.Seen.{plan-seen}
use Rattle.aberulwy_c.proofs.aberulwy_judge_plan.Goals as goal

pub returns : goal.returns
returns c =
    let all = plan-seen _ _ (answered c.judge_plan.ensures.numbers c.hand_judged.ensures) in
    record { whole = all.0; accepts = all.1 }
