-- `aberulwy_c::aberulwy_read_text` meets its contract: the answer of the call is handed over, and the area is as it leaves them.
use mathlib.Core.Path.{◌∙◌, ap}
use Rattle.aberulwy_c.specs.Answers.{of_text}
use Rattle.aberulwy_c.proofs.Answers.{returned_1}
use Rattle.aberulwy_c.proofs.Texts.{text_seen}
use Rattle.aberulwy_c.proofs.aberulwy_read_text.Goals as goal

pub returns : goal.returns
returns c =
    let call = c.read_text.ensures in
    record {
      whole = returned_1 _ c.hand_size.ensures ∙ ap of_text call.whole;
      claims = text_seen _ _ _ call.whole call.claims c.hand_size.ensures;
    }
