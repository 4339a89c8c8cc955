-- An entry goes on the stack.
use mathlib.Core.Path.{refl, ◌∙◌}
use Rattle.graphsteps.proofs.read_term.Goals as goal

pub returns : goal.returns
returns c = (c.after_term.ensures ∙ rw c.size_of-size.ensures.0, refl)
