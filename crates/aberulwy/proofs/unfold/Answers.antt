-- `aberulwy::unfold` meets its contract: the answer and the lent bytes are the lower layer's, and the claims follow from the outcome.
use Rattle.aberulwy.proofs.Rewriting.{unfold_contract}
use Rattle.aberulwy.proofs.unfold.Goals as goal

pub returns : goal.returns
returns c =
    let the_whole = unfold_contract _ _ _ _ _ _ _ c.unfold.ensures.whole in
    record { whole = the_whole.0; numbers = the_whole.1; claims = the_whole.2 }
