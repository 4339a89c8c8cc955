-- `aberulwy::read_station` meets its contract: the answer and the lent bytes are the lower layer's, and what is claimed
-- follows from them, since a file that is lent is bytes.
use native.Mathlib.Omega.{arith}
use Rattle.writing.proofs.Claims.{read-said}
use Rattle.aberulwy.proofs.read_station.Goals as goal

pub returns : goal.returns
returns c =
    let the_whole = read-said _ _ _ (λ i. omega (arith, c.type_inv.file i)) c.read_station.ensures.whole in
    record { whole = the_whole.0; numbers = the_whole.1.0; claims = the_whole.1.1 }
