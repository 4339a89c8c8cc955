-- `aberulwy_c::hand_walked` meets its contract: the finish is set where the answer accepts, and else is as it was.
use mathlib.Core.Path.{◌≡◌, ◌∙◌}
use Rattle.aberulwy_c.specs.Answers.{finish_left}
use Rattle.aberulwy_c.proofs.Answers.{bit_of}
use Rattle.aberulwy_c.proofs.hand_walked.Goals as goal
use Rattle.aberulwy_c.proofs.hand_walked.Goals.{in-Ok, in-Err}

pub returns : goal.returns
returns c =
    let k = c.args in
    let left : c.match-answer.finished ≡ finish_left k.answer k.finished.now k.finish =
    elim c.match-answer.branch [
      | in-Ok w ↦ rw w.in-Ok.is (w.finished-is ∙ (w.from.ensures ∙ bit_of k.finish))
      | in-Err w ↦ rw w.in-Err.is w.finished-is
    ] in
    record { number = c.hand_judged.ensures.number; place = c.hand_judged.ensures.place; finish = left }
