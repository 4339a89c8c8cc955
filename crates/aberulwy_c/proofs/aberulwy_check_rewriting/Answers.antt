-- `aberulwy_c::aberulwy_check_rewriting` meets its contract: the numbers are those of the report of the call below, and the areas are as it leaves
-- them.
use mathlib.Core.Path.{◌∙◌, ap}
use Rattle.aberulwy_c.specs.Answers.{of_check}
use Rattle.aberulwy_c.proofs.Answers.{answered, returned_2}
use Rattle.aberulwy_c.proofs.Seen.{check_seen}
use Rattle.aberulwy_c.proofs.aberulwy_check_rewriting.Goals as goal

pub returns : goal.returns
returns c =
    let call = c.check_rewriting-answer.ensures in
    let handed = answered c.checked_so_far.ensures c.hand_came.ensures in
    record {
      whole = returned_2 _ handed ∙ ap of_check call.whole;
      claims = check_seen _ _ _ _ _ _ call.whole (call.claims, call.single) handed;
    }
