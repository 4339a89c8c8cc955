-- `replay_on` meets its contract. The loop's invariant: the records left, replayed on the plan under work, have the outcome of the whole
-- rewriting, their laws are known and their left sides are accepted plans. The measure is the bytes left.
use Prim.Native.Nat.{◌<◌}
use mathlib.Core.Path.{refl, sym, ◌∙◌, ap}
use native.Mathlib.Omega.{arith}
use Rattle.std.specs.Prelude.{Some}
use Rattle.std.proofs.lemmas.Result.{err_from_is_err_and}
use Rattle.rewritings.proofs.Reading.{StepRead, BackRead, records-end, records-step, records-back}
use Rattle.checking.proofs.Turning.{turn_end, law-next, left-next, step-turn, back-turn, turn-done, turn-stopped, forward_of, backward_of}
use Rattle.checking.proofs.replay_on.Goals.{In-Step, In-Back}
use Rattle.checking.proofs.replay_on.Goals as goal

-- what a turn read
read : (c : In-Step) → StepRead c.args.rewriting.now c.loop-record.at c.in-Step.law c.in-Step.place c.in-Step.next
read c = records-step _ _ _ _ _ (ap Some (sym c.in-Step.is) ∙ c.in-Some.ensures)

back_read : (c : In-Back) → BackRead c.args.rewriting.now c.loop-record.at c.in-Back.law c.in-Back.place c.in-Back.from c.in-Back.next
back_read c = records-back _ _ _ _ _ _ (ap Some (sym c.in-Back.is) ∙ c.in-Some.ensures)

pub loop-record-init : goal.loop-record-init
loop-record-init c =
    let p = c.requires in
    record {
      working = p.working.0;
      kept = p.working.1;
      old_long = p.n_value.3;
      few = omega (arith, p.working.2);
      known = rw p.working.2 p.n_value.4;
      passing = rw (p.working.2, ← p.n_value.0) p.n_value.5;
      rest = λ claimed. rw p.working.2 refl;
    }

pub returns : goal.returns
returns c = turn_end _ _ _ _ _ _ _ _ _ _ _ c.loop-record.invariant (records-end _ _ c.in_default.ensures)

pub make_step-requires : goal.make_step-requires
make_step-requires c =
    let l = c.loop-record in
    let p = c.requires in
    let g = l.invariant in
    let r = read (goal.at.make_step-requires c).In-Step in
    let k = law-next _ _ _ _ _ _ _ _ _ _ _ g _ _ _ r in
    let few : l.gap.made.steps < 18446744073709551615 = omega (arith, g.few, r.within, r.after) in
    record {
      n_value = (p.n_value.0, p.n_value.1, k.0, k.1);
      limit_le_most_words = (p.n_value.2, few, g.old_long);
      working = (g.working, g.kept);
    }

pub loop-record-smaller-in-Step : goal.loop-record-smaller-in-Step
loop-record-smaller-in-Step c = let r = read (goal.at.loop-record-smaller-in-Step c).In-Step in omega (arith, r.within, r.after)

pub loop-record-preserved-in-Step : goal.loop-record-preserved-in-Step
loop-record-preserved-in-Step c =
    let i = c.loop-record.invariant in
    let u = step-turn _ _ _ _ _ _ _ _ _ _ _ i _ _ _ (read (goal.at.loop-record-preserved-in-Step c).In-Step) in
    turn-done _ _ _ _ _ _ _ _ _ _ _ i _ _ u _ _ _ _ _ (forward_of _ _ _ _ _ _ _ _ _ _ _ _ _ _ c.make_step.ensures) _ c.make_step.auto.old c.in_ok-gap-in-Step.was

pub returns-in_err-gap-in-Step : goal.returns-in_err-gap-in-Step
returns-in_err-gap-in-Step c =
    let i = c.loop-record.invariant in
    let u = step-turn _ _ _ _ _ _ _ _ _ _ _ i _ _ _ (read (goal.at.returns-in_err-gap-in-Step c).In-Step) in
    let p = err_from_is_err_and c.from_residual.result c.from_residual.ensures.1 in
    rw (p.1, p.2) (turn-stopped _ _ _ _ _ _ _ _ _ _ _ i _ _ u _ _ _ _ _ (forward_of _ _ _ _ _ _ _ _ _ _ _ _ _ _ c.make_step.ensures) _ c.in_err-gap-in-Step.was)

pub slice_bounds-carried-count : goal.slice_bounds-carried-count
slice_bounds-carried-count c = (back_read (goal.at.slice_bounds-carried-count c).In-Back).words-there

pub slice_bounds-carried-start : goal.slice_bounds-carried-start
slice_bounds-carried-start c = (back_read (goal.at.slice_bounds-carried-start c).In-Back).words-there

pub slice_bounds-carried-end : goal.slice_bounds-carried-end
slice_bounds-carried-end c = (back_read (goal.at.slice_bounds-carried-end c).In-Back).within

pub step_back-requires : goal.step_back-requires
step_back-requires c =
    let l = c.loop-record in
    let p = c.requires in
    let g = l.invariant in
    let r = back_read (goal.at.step_back-requires c).In-Back in
    let k = left-next _ _ _ _ _ _ _ _ _ _ _ g _ _ _ _ r in
    let few : l.gap.made.steps < 18446744073709551615 = omega (arith, g.few, r.within, r.after, r.words-there) in
    record {
      n_value = (p.n_value.0, p.n_value.1, r.known.0, r.known.1, rw p.n_value.0 k.0);
      limit_le_most_words = (p.n_value.2, few, g.old_long);
      working = (g.working, g.kept);
    }

pub loop-record-smaller : goal.loop-record-smaller
loop-record-smaller c = let r = back_read (goal.at.loop-record-smaller c).In-Back in omega (arith, r.within, r.after, r.words-there)

pub loop-record-preserved : goal.loop-record-preserved
loop-record-preserved c =
    let i = c.loop-record.invariant in
    let u = back-turn _ _ _ _ _ _ _ _ _ _ _ i _ _ _ _ (back_read (goal.at.loop-record-preserved c).In-Back) in
    turn-done _ _ _ _ _ _ _ _ _ _ _ i _ _ u _ _ _ _ _ (backward_of _ _ _ _ _ _ _ _ _ _ _ _ _ _ _ c.step_back.ensures) _ c.step_back.auto.old c.in_ok-gap-in-Back.was

pub returns-in_err-gap-in-Back : goal.returns-in_err-gap-in-Back
returns-in_err-gap-in-Back c =
    let i = c.loop-record.invariant in
    let u = back-turn _ _ _ _ _ _ _ _ _ _ _ i _ _ _ _ (back_read (goal.at.returns-in_err-gap-in-Back c).In-Back) in
    let p = err_from_is_err_and c.from_residual-in_err-gap-in-Back.result c.from_residual-in_err-gap-in-Back.ensures.1 in
    rw (p.1, p.2) (turn-stopped _ _ _ _ _ _ _ _ _ _ _ i _ _ u _ _ _ _ _ (backward_of _ _ _ _ _ _ _ _ _ _ _ _ _ _ _ c.step_back.ensures) _ c.in_err-gap-in-Back.was)
