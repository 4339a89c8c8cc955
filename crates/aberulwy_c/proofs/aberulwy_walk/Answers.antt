-- `aberulwy_c::aberulwy_walk` meets its contract: the call below is made with the progress that was lent, and its answer handed over.
use Rattle.aberulwy_c.proofs.Walks.{walk_returned_as, walk-seen}
use Rattle.aberulwy_c.proofs.aberulwy_walk.Goals as goal

pub returns : goal.returns
returns c =
    let call = c.walk-answer.ensures in
    let handed = c.hand_walked.ensures in
    record { whole = walk_returned_as call.whole handed; claims = walk-seen _ _ _ _ call.whole call.claims handed }
