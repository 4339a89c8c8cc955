-- `stations::read_station` meets its contract: what is delivered is what the file's blocks hold.
use Rattle.std.proofs.Common.{rules}
use mathlib.Core.Path.{◌≡◌, sym, ◌∙◌}
use lib.ListN.{take}
use lib.Seq.{length-take-le}
use Rattle.stations.specs.File.{tables_held, plan_held, form_refusal}
use Rattle.refusals.proofs.Judging.{refused_some}
use Rattle.stations.proofs.Forms.{few, tables-long, plan_fits}
use Rattle.stations.proofs.Reading.{filled, front, sound, form-refused, form-accepted}
use native.Mathlib.Omega.{arith}
use Rattle.stations.proofs.read_station.Goals as goal

pub returns-in_err-judge_form : goal.returns-in_err-judge_form
returns-in_err-judge_form c =
    let e = refused_some (form_refusal c.args.file.now) _ (sym c.judge_form.ensures.whole ∙ c.in_err-judge_form.was) in
    record { whole = form-refused c.args.file.now c.args.tables.now c.args.plan.now e (search rules) }

pub gather-requires : goal.gather-requires
unfolding tables_held
gather-requires c =
    let s = sound _ c.judge_form.ensures.whole c.in_ok-judge_form.was in
    (s, omega arith, omega (arith, (few _ s).0), omega (arith, tables-long _ s))

pub gather-size-requires : goal.gather-size-requires
unfolding plan_held
gather-size-requires c =
    let s = sound _ c.judge_form.ensures.whole c.in_ok-judge_form.was in
    rw c.count_blocks-count.ensures (s, omega (arith, (few _ s).0), omega arith, omega (arith, plan_fits _ s))

pub slice_bounds-held_plan-end : goal.slice_bounds-held_plan-end
unfolding plan_held
slice_bounds-held_plan-end c =
    let s = sound _ c.judge_form.ensures.whole c.in_ok-judge_form.was in
    omega (arith, plan_fits _ s, rw c.count_blocks-count.ensures at c.gather-size.ensures.1, c.gather-size.auto.area)

pub slice_bounds-deliver-end-2 : goal.slice_bounds-deliver-end-2
unfolding plan_held
slice_bounds-deliver-end-2 c =
    let s = sound _ c.judge_form.ensures.whole c.in_ok-judge_form.was in
    sym (length-take-le c.gather-size.result c.gather-size.new.area (omega (arith, plan_fits _ s, rw c.count_blocks-count.ensures at c.gather-size.ensures.1, c.gather-size.auto.area)))

pub returns : goal.returns
unfolding plan_held tables_held
returns c =
    let s = sound _ c.judge_form.ensures.whole c.in_ok-judge_form.was in
    -- what is gathered
    let tables-are : c.gather.new.area ≡ tables_held c.args.file.now = c.gather.ensures.0 ∙ filled _ _ (tables-long _ s) in
    let plan-is : take c.gather-size.result c.gather-size.new.area ≡ plan_held c.args.file.now =
    rw (c.gather-size.ensures.0, c.count_blocks-count.ensures) (front _ _ _ (rw c.count_blocks-count.ensures at c.gather-size.ensures.1)) in
    record { whole = c.deliver.ensures.whole ∙ form-accepted _ _ _ s tables-are plan-is }
