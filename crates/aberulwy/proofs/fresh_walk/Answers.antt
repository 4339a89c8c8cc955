-- `aberulwy::fresh_walk` meets its contract: the answer and the lent bytes are the lower layer's.
use Rattle.walks.proofs.Claims.{fresh-said}
use Rattle.aberulwy.proofs.fresh_walk.Goals as goal

pub returns : goal.returns
returns c =
    let k = c.args in
    let the_whole = fresh-said k.tables.now k.plan.now (record { marks = k.marks.now; finish = k.finished.now }) c.fresh_walk.ensures.whole in
    record { whole = the_whole.0; numbers = the_whole.1.0; claims = the_whole.1.1 }
