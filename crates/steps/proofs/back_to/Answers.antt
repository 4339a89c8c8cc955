-- The gap is moved back: the words behind the place go to the rest.
use native.Mathlib.Omega.{arith}
use Prim.Native.Nat.{◌+◌}
use mathlib.Core.Path.{refl}
use Rattle.tables.specs.Tables.{actions}
use Rattle.buffer.proofs.Whole.{held_back}
use Rattle.steps.proofs.Making.{gap}
use Rattle.steps.proofs.Seeking.{same_start, same_on}
use Rattle.steps.proofs.back_to.Goals as goal

pub overflow_add-place : goal.overflow_add-place
overflow_add-place c =
    let h = c.requires.0.held in omega (arith, h.rest_in, h.apart, c.requires.1)

pub back-requires : goal.back-requires
back-requires c =
    let a = c.args in
    (gap a.tables.now a.left.now a.starts.now a.right.now a.state c.requires.0, omega (arith, c.requires.1))

pub returns : goal.returns
returns c =
    let a = c.args in
    let s = a.state in
    let d = c.back in
    let h =
    held_back (actions a.tables.now) a.left.now a.starts.now a.right.now d.new.right s.read s.rest (a.place + 1) c.requires.0.held d.auto.right (omega (arith, c.requires.1)) in
    let w = rw d.ensures.0 at d.ensures.1 in
    rw d.ensures.0 (
      same_on a.tables.now a.left.now a.starts.now a.right.now a.left.now a.starts.now a.right.now s s.read s.rest
          (same_start a.tables.now a.left.now a.starts.now a.right.now s c.requires.0) a.left.now a.starts.now d.new.right _ _ w h,
      refl,
    )
