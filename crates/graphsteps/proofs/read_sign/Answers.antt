-- `graphsteps::read_sign` meets its contract: the sign and its operands become one node more.
use Rattle.std.proofs.Common.{refl}
use Rattle.graphsteps.proofs.read_sign.Goals as goal

pub returns : goal.returns
returns c = (c.after_sign.ensures, refl, refl, refl, refl, refl)
