-- `aberulwy::precedes` meets its contract: the answer is the lower layer's.
use Rattle.precedence.proofs.Claims.{precedence_said}
use Rattle.aberulwy.proofs.precedes.Goals as goal

pub returns : goal.returns
returns c =
    let the_whole = precedence_said _ _ _ _ c.precedes.ensures.whole in
    record { whole = the_whole.0; numbers = the_whole.1.0; claims = the_whole.1.1 }
