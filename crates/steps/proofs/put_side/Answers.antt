-- `steps::put_side` meets its contract: room is made for the right side, and it is written there.
use native.Mathlib.Omega.{arith}
use mathlib.Core.Path.{sym}
use lib.Seq.{length-take-le}
use Rattle.steps.specs.Working.{side_here}
use Rattle.steps.proofs.Putting.{subplan-here, side-size, size_bound, front, not_put, now_put}
use Rattle.steps.proofs.put_side.Goals as goal

pub make_room-requires : goal.make_room-requires
make_room-requires c =
    let a = c.args in
    let b = size_bound a.tables.now a.law a.left.now a.starts.now a.right.now a.letters.now.from a.letters.now.to a.state c.requires.le_read.1 c.requires.le_read.2 c.right_len-size.result c.right_len-size.ensures c.requires.le_law.0 c.requires.le_law.1 in
    record {
      size_bound = (b, c.requires.le_law.2, c.requires.le_law.3, c.requires.le_read.3);
      subplan = subplan-here a.tables.now a.left.now a.starts.now a.right.now a.state c.requires.le_read.0 c.requires.le_read.1;
    }

pub slice_bounds-put_side-end : goal.slice_bounds-put_side-end
slice_bounds-put_side-end c =
    let h = c.requires.le_read.1.held in
    sym (length-take-le _ _ (omega (arith, h.apart, h.rest_in, h.left_long)))

pub put_side-requires : goal.put_side-requires
put_side-requires c =
    let a = c.args in
    let e = side-size a.tables.now a.law a.left.now a.starts.now a.right.now a.letters.now.from a.letters.now.to a.state c.requires.le_read.1 c.requires.le_read.2 c.right_len-size.result c.right_len-size.ensures in
    let f = front a.tables.now a.left.now a.starts.now a.right.now a.state c.requires.le_read.0 c.requires.le_read.1 a.limit (side_here c.args.tables.now c.args.law c.args.left.now c.args.letters.now.from c.args.letters.now.to c.args.state) a.old.now c.right_len-size.result e _ c.make_room.result _ c.make_room.ensures c.in_ok-next.was in
    record {
      le_law = (c.requires.le_law.0, c.requires.le_law.1, c.requires.le_read.2);
      to_in_bounds = omega (arith, e, f.0, f.1, c.requires.le_law.2, c.requires.le_read.1.held.rest_in, c.requires.le_read.1.held.right_long);
    }

pub returns-in_err-next : goal.returns-in_err-next
returns-in_err-next c =
    let a = c.args in
    let e = side-size a.tables.now a.law a.left.now a.starts.now a.right.now a.letters.now.from a.letters.now.to a.state c.requires.le_read.1 c.requires.le_read.2 c.right_len-size.result c.right_len-size.ensures in
    rw c.from_residual.ensures (not_put a.tables.now a.left.now a.starts.now a.right.now a.state c.requires.le_read.0 c.requires.le_read.1 a.limit (side_here c.args.tables.now c.args.law c.args.left.now c.args.letters.now.from c.args.letters.now.to c.args.state) a.old.now c.right_len-size.result e _ c.make_room.result c.make_room.ensures c.in_err-next.was)

pub returns : goal.returns
returns c =
    let a = c.args in
    let e = side-size a.tables.now a.law a.left.now a.starts.now a.right.now a.letters.now.from a.letters.now.to a.state c.requires.le_read.1 c.requires.le_read.2 c.right_len-size.result c.right_len-size.ensures in
    now_put a.tables.now a.left.now a.starts.now a.right.now a.state c.requires.le_read.0 c.requires.le_read.1 a.limit (side_here c.args.tables.now c.args.law c.args.left.now c.args.letters.now.from c.args.letters.now.to c.args.state) a.old.now c.right_len-size.result e _ _ c.make_room.result _ c.make_room.ensures c.in_ok-next.was c.put_side.ensures.0
