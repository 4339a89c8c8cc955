-- `aberulwy_c::aberulwy_unfold_checked` meets its contract: the numbers are those of both reports, and the lent bytes are as the call below
-- leaves them.
use Rattle.aberulwy_c.proofs.Answers.{answered, returned_both}
use Rattle.aberulwy_c.proofs.Seen.{both_seen}
use Rattle.aberulwy_c.proofs.aberulwy_unfold_checked.Goals as goal

pub returns : goal.returns
returns c =
    let call = c.unfold_checked-both.ensures in
    let handed = answered c.unfolded_so_far.ensures c.hand_came.ensures in
    let seen = both_seen _ _ _ _ _ _ _ _ _ _ call.whole (call.claims, call.accepted) handed c.hand_own.ensures in
    record { whole = returned_both call.whole handed c.hand_own.ensures; claims = seen.0; accepted = seen.1 }
