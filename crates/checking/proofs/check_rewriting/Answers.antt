-- `check_rewriting` meets its contract: the refusals in order, and past them the outcome of the replay.
use mathlib.Core.Path.{◌≡◌, refl, sym, ◌∙◌}
use mathlib.Core.Option.{none}
use Rattle.std.proofs.lemmas.Result.{err_from_is_err_and}
use Rattle.refusals.specs.Refusal.{judged}
use Rattle.refusals.proofs.Judging.{accepted_none, refused_some}
use Rattle.tables.specs.Tables.{actions}
use Rattle.plans.specs.Judging.{plan_refusal}
use Rattle.plans.proofs.Accepted.{plan-accepted_iff, few_actions}
use Rattle.areas.specs.Reached.{capacity}
use Rattle.checking.specs.Checking.{rewriting_refusal, check_refusal, check_outcome}
use Rattle.checking.proofs.Accepting.{rewriting-accepted}
use Rattle.checking.proofs.check_rewriting.Goals.{In_ok-judge_plan, After-judge_rewriting}
use Rattle.checking.proofs.check_rewriting.Goals as goal

-- past the first test nothing is refused of tables and start plan
accepted : (c : In_ok-judge_plan) → plan_refusal c.args.tables.now c.args.start.now ≡ none
accepted c = accepted_none _ (sym c.judge_plan.ensures.whole ∙ c.in_ok-judge_plan.was)

-- what is judged of the rewriting, in the definition's terms: the limit is what both areas can hold
judged-rest : (c : After-judge_rewriting)
    → c.judge_rewriting.result
    ≡ judged (rewriting_refusal (actions c.args.tables.now) c.args.start.now c.args.claimed.now c.args.rewriting.now (capacity c.args.a.now c.args.b.now))
unfolding capacity
judged-rest c = rw (← c.actions_of-n.ensures.whole, ← c.least-limit.ensures) c.judge_rewriting.ensures

pub returns-in_err-judge_plan : goal.returns-in_err-judge_plan
unfolding check_outcome check_refusal
returns-in_err-judge_plan c =
    let p = err_from_is_err_and c.from_residual.result c.from_residual.ensures.1 in
    record { whole = rw (p.1, p.2, refused_some _ _ (sym c.judge_plan.ensures.whole ∙ c.in_err-judge_plan.was)) refl }

pub judge_rewriting-requires : goal.judge_rewriting-requires
judge_rewriting-requires c =
    rw c.actions_of-n.ensures.whole (few_actions _ ((plan-accepted_iff _ _).0 (accepted (goal.at.judge_rewriting-requires c).In_ok-judge_plan)).0)

pub returns-in_err-judge_rewriting : goal.returns-in_err-judge_rewriting
unfolding check_outcome check_refusal
returns-in_err-judge_rewriting c =
    let at = goal.at.returns-in_err-judge_rewriting c in
    let p = err_from_is_err_and c.from_residual-in_err-judge_rewriting.result c.from_residual-in_err-judge_rewriting.ensures.1 in
    record {
      whole =
          rw (p.1, p.2, accepted at.In_ok-judge_plan, refused_some _ _ (sym (judged-rest at.After-judge_rewriting) ∙ c.in_err-judge_rewriting.was)) refl;
    }

pub check_accepted-requires : goal.check_accepted-requires
unfolding capacity
check_accepted-requires c =
    let p = goal.at.check_accepted-requires c in
    let l : c.least-limit.result ≡ capacity c.args.a.now c.args.b.now = c.least-limit.ensures in
    let r = rewriting-accepted _ _ _ _ _ (accepted_none _ (sym (judged-rest p.After-judge_rewriting) ∙ c.in_ok-judge_rewriting.was)) in
    (accepted p.In_ok-judge_plan, l, rw l r.0, r.1, r.2)

pub returns : goal.returns
unfolding capacity check_outcome check_refusal
returns c =
    let p = goal.at.returns c in
    let l : c.least-limit.result ≡ capacity c.args.a.now c.args.b.now = c.least-limit.ensures in
    let r = accepted_none _ (sym (judged-rest p.After-judge_rewriting) ∙ c.in_ok-judge_rewriting.was) in
    record { whole = rw (accepted p.In_ok-judge_plan, r, ← l) c.check_accepted.ensures }
