-- The gap is moved forward word by word: a word is left to read until the place is behind the last one read.
use native.Mathlib.Omega.{arith}
use Prim.Native.Nat.{◌+◌, ◌-◌}
use Rattle.buffer.specs.Buffer.{moved}
use Rattle.steps.proofs.Making.{plan-long}
use Rattle.steps.proofs.Seeking.{rest-left, count_held}
use Rattle.steps.proofs.forward_to.Goals as goal

pub overflow_add-read-end : goal.overflow_add-read-end
overflow_add-read-end c =
    let a = c.args in
    let w = c.requires.n_value.2 in
    omega (arith, c.requires.read_bound.1, plan-long a.tables.now a.left.now a.starts.now a.right.now a.state w, w.held.apart, w.held.rest_in)

pub forward-requires-clause-n_bound : goal.forward-requires-clause-n_bound
forward-requires-clause-n_bound c =
    let l = c.loop-read in
    let a = c.args in
    let g = moved a.state l.read (a.state.rest - a.state.read + l.read) in
    let more = rest-left a.tables.now a.left.now a.starts.now a.right.now l.left l.starts a.right.now a.state g l.invariant a.place c.requires.read_bound.1 (omega (arith, c.loop-read-test.true)) in
    (c.requires.n_value.1, more, count_held a.tables.now a.n c.requires.n_value.0 l.left l.starts a.right.now g l.invariant.working)
