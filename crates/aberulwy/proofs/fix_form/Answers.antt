-- `aberulwy::fix_form` meets its contract: the answer and the lent bytes are the lower layer's, and what is claimed
-- follows from them.
use Rattle.fixing.proofs.Claims.{form-said}
use Rattle.aberulwy.proofs.fix_form.Goals as goal

pub returns : goal.returns
returns c =
    let the_whole = form-said _ _ _ c.fix_form.ensures.whole in
    record { whole = the_whole.0; numbers = the_whole.1.0; claims = the_whole.1.1 }
