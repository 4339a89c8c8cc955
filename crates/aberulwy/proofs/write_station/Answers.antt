-- `aberulwy::write_station` meets its contract: the answer and the lent bytes are the lower layer's, and what is claimed
-- follows from them.
use Rattle.writing.proofs.Claims.{write_said}
use Rattle.aberulwy.proofs.write_station.Goals as goal

pub returns : goal.returns
returns c =
    let the_whole = write_said _ _ _ c.write_station.ensures.whole in
    record { whole = the_whole.0; numbers = the_whole.1.0; claims = the_whole.1.1 }
