-- `aberulwy_c::aberulwy_is_basic` meets its contract: in each arm the call's answer is known, and so its report.
use mathlib.Core.Path.{refl, ◌∙◌}
use Rattle.aberulwy.specs.Judging.{basic_report}
use Rattle.aberulwy_c.proofs.Answers.{said, refused, bit_of}
use Rattle.aberulwy_c.proofs.Seen.{basic-seen}
use Rattle.aberulwy_c.proofs.aberulwy_is_basic.Goals as goal

pub returns-in-Ok : goal.returns-in-Ok
returns-in-Ok c =
    let set = rw (← (c.from.ensures ∙ bit_of c.in-Ok.is')) at (said basic_report _ c.in-Ok.is c.is_basic.ensures.numbers) in
    let all = basic-seen _ _ set in
    record { whole = all.0; accepts = all.1 }

pub returns-in-Err : goal.returns-in-Err
returns-in-Err c =
    let all = basic-seen _ _ (refused basic_report c.in-Err.refusal c.in-Err.is c.is_basic.ensures.numbers refl c.refuse.ensures) in
    record { whole = all.0; accepts = all.1 }
