-- `aberulwy_c::aberulwy_unfold` meets its contract: the numbers are those of the report of the call below, and the lent bytes are as it leaves them.
use mathlib.Core.Path.{◌∙◌, ap}
use Rattle.aberulwy_c.specs.Answers.{of_unfold}
use Rattle.aberulwy_c.proofs.Answers.{answered, returned_2}
use Rattle.aberulwy_c.proofs.Seen.{unfold_seen}
use Rattle.aberulwy_c.proofs.aberulwy_unfold.Goals as goal

pub returns : goal.returns
returns c =
    let call = c.unfold-answer.ensures in
    let handed = answered c.unfolded_so_far.ensures c.hand_came.ensures in
    record { whole = returned_2 _ handed ∙ ap of_unfold call.whole; claims = unfold_seen _ _ _ _ _ _ call.whole call.claims handed }
