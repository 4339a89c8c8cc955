-- `steps::put_words` meets its contract: room is made for the words, and they are copied there.
use native.Mathlib.Omega.{arith}
use mathlib.Core.Path.{refl}
use Rattle.steps.proofs.Putting.{subplan-here, front, not_put, now_put}
use Rattle.steps.proofs.put_words.Goals as goal

pub make_room-requires : goal.make_room-requires
make_room-requires c =
    let a = c.args in
    record {
      size_bound = (omega (arith, c.requires.words_len_bound.0), c.requires.words_len_bound.1, c.requires.words_len_bound.2, c.requires.le_read.2);
      subplan = subplan-here a.tables.now a.left.now a.starts.now a.right.now a.state c.requires.le_read.0 c.requires.le_read.1;
    }

pub copy_in-requires : goal.copy_in-requires
copy_in-requires c =
    let a = c.args in
    let f = front a.tables.now a.left.now a.starts.now a.right.now a.state c.requires.le_read.0 c.requires.le_read.1 a.limit a.words.now a.old.now _ refl _ c.make_room.result _ c.make_room.ensures c.in_ok-next.was in
    omega (arith, f.0, f.1, c.requires.words_len_bound.1, c.requires.le_read.1.held.rest_in, c.requires.le_read.1.held.right_long)

pub returns-in_err-next : goal.returns-in_err-next
returns-in_err-next c =
    let a = c.args in
    rw c.from_residual.ensures (not_put a.tables.now a.left.now a.starts.now a.right.now a.state c.requires.le_read.0 c.requires.le_read.1 a.limit a.words.now a.old.now _ refl _ c.make_room.result c.make_room.ensures c.in_err-next.was)

pub returns : goal.returns
returns c =
    let a = c.args in
    now_put a.tables.now a.left.now a.starts.now a.right.now a.state c.requires.le_read.0 c.requires.le_read.1 a.limit a.words.now a.old.now _ refl _ _ c.make_room.result _ c.make_room.ensures c.in_ok-next.was c.copy_in.ensures.0
