-- `recording::make_steps` meets its contract. The invariant: `Going`, the run from the first plan comes to the plan held now. The measure
-- is the steps still allowed, and within a step the entries still to read.
use native.Mathlib.Omega.{arith}
use mathlib.Core.Path.{refl, ◌∙◌}
use Rattle.recording.proofs.Stepping.{starts, read_low, on, step, stop, full, goes_on, goes_further, stops, fills, finishes}
use Rattle.recording.proofs.make_steps.Goals as goal

pub loop-here-init : goal.loop-here-init
loop-here-init c = (starts c.requires.n_value.3 c.requires.fits.0 c.requires.fits.1, refl)

pub overflow_sub-room : goal.overflow_sub-room
overflow_sub-room c = c.loop-here.invariant.0.end_low

pub advance-entry-requires : goal.advance-entry-requires
advance-entry-requires c =
    let p = c.requires.n_value in
    let l = c.loop-here in
    record { n_value = (p.0, p.1, p.2, c.loop-here-test.true); fits = (l.invariant.0.fits, l.invariant.0.plan) }

pub loop-here-smaller-in-Read : goal.loop-here-smaller-in-Read
loop-here-smaller-in-Read c =
    let s = c.loop-here.invariant.0.plan in
    omega (arith, (on c.advance-entry.ensures c.in-Read.is s.some_plan s.holding).rest_more, c.loop-here-test.true)

pub loop-here-preserved-in-Read : goal.loop-here-preserved-in-Read
loop-here-preserved-in-Read c =
    (goes_on c.loop-here.invariant.0 (on c.advance-entry.ensures c.in-Read.is), c.advance-entry.auto.own ∙ c.loop-here.invariant.1)

pub put_record-requires : goal.put_record-requires
put_record-requires c =
    let l = c.loop-here in
    let s = l.invariant.0.plan in
    let n = step c.advance-entry.ensures c.in-Step.is s.some_plan s.holding in
    (omega (arith, n.some_room, l.invariant.0.end_low), omega (arith, read_low s, c.requires.n_value.2))

pub after_step-reached-requires : goal.after_step-reached-requires
after_step-reached-requires c =
    let l = c.loop-here in
    let s = l.invariant.0.plan in
    let n = step c.advance-entry.ensures c.in-Step.is s.some_plan s.holding in
    omega (arith, n.some_left, l.invariant.0.count, c.requires.n_value.4)

pub overflow_sub-left : goal.overflow_sub-left
overflow_sub-left c =
    let s = c.loop-here.invariant.0.plan in
    (step c.advance-entry.ensures c.in-Step.is s.some_plan s.holding).some_left

pub overflow_add-end : goal.overflow_add-end
overflow_add-end c =
    let l = c.loop-here in
    let s = l.invariant.0.plan in
    let n = step c.advance-entry.ensures c.in-Step.is s.some_plan s.holding in
    omega (arith, n.some_room, l.invariant.0.list_long)

pub loop-here-smaller : goal.loop-here-smaller
loop-here-smaller c =
    let s = c.loop-here.invariant.0.plan in
    omega (arith, (step c.advance-entry.ensures c.in-Step.is s.some_plan s.holding).some_left)

pub loop-here-preserved : goal.loop-here-preserved
loop-here-preserved c =
    let l = c.loop-here in
    (rw c.after_step-reached.ensures (goes_further l.invariant.0 (step c.advance-entry.ensures c.in-Step.is) c.put_record.ensures c.put_record.auto.list), c.advance-entry.auto.own ∙ l.invariant.1)

-- the next step is not made, or no node is left: the arrays are as they were
pub returns-in-Stopped : goal.returns-in-Stopped
returns-in-Stopped c = stops c.loop-here.invariant.0 (stop c.advance-entry.ensures c.in-Stopped.is)

pub returns-in-NoNode : goal.returns-in-NoNode
returns-in-NoNode c =
    let g = c.loop-here.invariant.0 in
    fills g (full c.advance-entry.ensures c.in-NoNode.is g.plan) c.loop-here-test.true

pub returns : goal.returns
returns c = finishes c.loop-here.invariant.0 c.loop-here-test.false
