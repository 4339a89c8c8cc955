-- `aberulwy::walk` meets its contract: the answer and the lent bytes are the lower layer's.
use Rattle.walks.proofs.Claims.{walk-said}
use Rattle.aberulwy.proofs.walk.Goals as goal

pub returns : goal.returns
returns c =
    let k = c.args in
    let the_whole = walk-said k.tables.now k.plan.now k.message (record { marks = k.marks.now; finish = k.finished.now }) c.walk.ensures.whole in
    record { whole = the_whole.0; numbers = the_whole.1.0; claims = the_whole.1.1 }
