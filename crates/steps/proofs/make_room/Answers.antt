-- `steps::make_room` meets its contract: the words taken away are copied to old.
use mathlib.Core.Path.{refl}
use Rattle.steps.specs.Working.{no_room}
use Rattle.steps.proofs.Putting.{now_room}
use Rattle.steps.proofs.make_room.Goals as goal

pub returns-then-limit-start : goal.returns-then-limit-start
returns-then-limit-start c = no_room (rw c.from-start.ensures at c.if-limit-start.true) refl

pub returns : goal.returns
returns c =
    let a = c.args in
    let e = c.from-start.ensures in
    now_room a.limit a.size a.left.now a.starts.now a.old.now a.state c.requires.subplan _ c.after_step.result
    (rw e at c.if-limit-start.false) c.requires.size_bound.3 (rw e at c.copy_in.ensures.0) (rw e at c.after_step.ensures)
