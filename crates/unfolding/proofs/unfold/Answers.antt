-- `unfolding::unfold` meets its contract: the refusals first, in order, and then the outcome of the run.
use Rattle.std.specs.Prelude.{Err}
use borrow.Author.Rules.{rules}
use mathlib.Core.Path.{◌≡◌, sym, ◌∙◌}
use Rattle.refusals.proofs.Judging.{accepted_none, refused_some}
use Rattle.unfolding.proofs.Settling.{is_capacity, outcome-refused, outcome-long, outcome-settled}
use Rattle.unfolding.proofs.unfold.Goals as goal

pub returns-in_err-judge_plan : goal.returns-in_err-judge_plan
returns-in_err-judge_plan c =
    let a = c.args in
    let e : c.from_residual.result ≡ Err c.in_err-judge_plan.field-0.0 = search rules in
    record { whole = rw e (outcome-refused a.tables.now a.plan.now a.allowance a.list.now a.a.now a.b.now _ (refused_some _ _ (sym c.judge_plan.ensures.whole ∙ c.in_err-judge_plan.was))) }

-- past the test nothing is refused of the tables and the plan
pub returns-then-limit-plan : goal.returns-then-limit-plan
returns-then-limit-plan c =
    let a = c.args in
    let accepted = accepted_none _ (sym c.judge_plan.ensures.whole ∙ c.in_ok-judge_plan.was) in
    record { whole = rw c.from.ensures (outcome-long a.tables.now a.plan.now a.allowance a.list.now a.a.now a.b.now accepted c.least-limit.result c.least-limit.ensures c.if-limit-plan.true) }

pub unfold_accepted-requires : goal.unfold_accepted-requires
unfold_accepted-requires c =
    let accepted = accepted_none _ (sym c.judge_plan.ensures.whole ∙ c.in_ok-judge_plan.was) in
    (accepted, is_capacity c.args.a.now c.args.b.now c.least-limit.result c.least-limit.ensures, c.if-limit-plan.false)

pub returns : goal.returns
returns c =
    let a = c.args in
    let accepted = accepted_none _ (sym c.judge_plan.ensures.whole ∙ c.in_ok-judge_plan.was) in
    record { whole = outcome-settled a.tables.now a.plan.now a.allowance a.list.now a.a.now a.b.now accepted c.least-limit.result c.least-limit.ensures c.unfold_accepted.ensures c.if-limit-plan.false }
