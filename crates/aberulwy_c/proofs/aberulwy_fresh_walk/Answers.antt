-- `aberulwy_c::aberulwy_fresh_walk` meets its contract: the call below is made with the progress that was lent, and its answer handed over.
use Rattle.aberulwy_c.proofs.Walks.{walk_returned_as, fresh-seen}
use Rattle.aberulwy_c.proofs.aberulwy_fresh_walk.Goals as goal

pub returns : goal.returns
returns c =
    let call = c.fresh_walk-answer.ensures in
    let handed = c.hand_walked.ensures in
    record { whole = walk_returned_as call.whole handed; claims = fresh-seen _ _ _ call.whole call.claims handed }
