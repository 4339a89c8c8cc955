-- `aberulwy_c::aberulwy_fix_form` meets its contract: the answer of the call is handed over, and the area is as it leaves them.
use mathlib.Core.Path.{◌∙◌, ap}
use Rattle.aberulwy_c.specs.Answers.{of_fixed}
use Rattle.aberulwy_c.proofs.Answers.{returned_1}
use Rattle.aberulwy_c.proofs.Forms.{form-seen}
use Rattle.aberulwy_c.proofs.aberulwy_fix_form.Goals as goal

pub returns : goal.returns
returns c =
    let call = c.fix_form.ensures in
    record {
      whole = returned_1 _ c.hand_size.ensures ∙ ap of_fixed call.whole;
      claims = form-seen _ _ _ call.whole call.claims c.hand_size.ensures;
    }
