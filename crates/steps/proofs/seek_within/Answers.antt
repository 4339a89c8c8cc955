-- `steps::seek_within` meets its contract: a place past the end, or the word there is sought.
use native.Mathlib.Omega.{arith}
use mathlib.Core.Path.{refl}
use Rattle.steps.specs.Working.{past, here}
use Rattle.steps.proofs.Making.{plan-long}
use Rattle.steps.proofs.seek_within.Goals as goal

pub overflow_sub-size : goal.overflow_sub-size
overflow_sub-size c = c.requires.2.held.rest_in

pub overflow_add-size : goal.overflow_add-size
overflow_add-size c = let h = c.requires.2.held in omega (arith, h.rest_in, h.apart)

pub returns-then-size-place : goal.returns-then-size-place
returns-then-size-place c =
    let a = c.args in
    past (omega (arith, plan-long a.tables.now a.left.now a.starts.now a.right.now a.state c.requires.2, c.if-size-place.true)) refl refl refl

pub seek-requires : goal.seek-requires
seek-requires c =
    let a = c.args in
    let e = plan-long a.tables.now a.left.now a.starts.now a.right.now a.state c.requires.2 in
    (c.requires.0, c.requires.1, c.requires.2, omega (arith, e, c.if-size-place.false))

pub returns : goal.returns
returns c =
    let a = c.args in
    let e = plan-long a.tables.now a.left.now a.starts.now a.right.now a.state c.requires.2 in
    here c.seek.result (omega (arith, e, c.if-size-place.false)) c.seek.ensures.0 c.seek.ensures.1
