-- What `==` says of two slices is what the definition says.
use mathlib.Core.Path.{◌∙◌}
use Rattle.matching.proofs.Same.{pointwise_same}
use Rattle.matching.proofs.same_words.Goals as goal

pub returns : goal.returns
returns c = c.eq.ensures ∙ pointwise_same _ _
