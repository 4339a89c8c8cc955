-- `aberulwy::check_rewriting` meets its contract: the answer and the lent bytes are the lower layer's, and the claims follow from the outcome.
use Rattle.aberulwy.proofs.Rewriting.{check_contract}
use Rattle.aberulwy.proofs.check_rewriting.Goals as goal

pub returns : goal.returns
returns c =
    let the_whole = check_contract _ _ _ _ _ _ _ c.check_rewriting.ensures.whole in
    record { whole = the_whole.0; numbers = the_whole.1; claims = the_whole.2; single = the_whole.3 }
