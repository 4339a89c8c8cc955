-- `areas::put_both` meets its contract: the plan stands at the front of its area, and the one before it is made from there.
use mathlib.Core.List.{◌++◌}
use lib.ListN.{length}
use Rattle.areas.proofs.Storing.{put-within, put-undoable, take_put}
use Rattle.areas.proofs.put_both.Goals as goal

pub put_before-requires : goal.put_before-requires
put_before-requires c =
    let plan = c.args.left.now ++ c.args.right.now in
    let put = c.put_plan-size.ensures in
    let u = c.requires.undoable in
    let room = c.requires.room in (
      put-within plan _ _ _ put room,
      put-undoable plan _ _ _ put room c.args.state c.args.old.now (length c.args.past.now) _ u u.before_fits,
    )

pub returns-clause-plan_before : goal.returns-clause-plan_before
returns-clause-plan_before c =
    rw (take_put (c.args.left.now ++ c.args.right.now) _ _ _ c.put_plan-size.ensures c.requires.room) at c.put_before.ensures
