-- `aberulwy_c::aberulwy_precedes` meets its contract: in each arm the call's answer is known, and so its report.
use mathlib.Core.Path.{refl}
use Rattle.precedence.specs.Outcome.{precedence_report}
use Rattle.aberulwy_c.proofs.Answers.{said, refused}
use Rattle.aberulwy_c.proofs.Precedence.{precedence_seen}
use Rattle.aberulwy_c.proofs.aberulwy_precedes.Goals as goal

pub returns-in-Ok-None : goal.returns-in-Ok-None
returns-in-Ok-None c =
    let call = c.precedes.ensures in
    let known = rw c.in-Ok-None.field-0-is at c.in-Ok-None.is in
    let all = precedence_seen _ _ _ _ (call.whole, (call.numbers, call.claims)) (said precedence_report _ known refl) in
    record { whole = all.0; claims = all.1 }

pub returns-in-Ok-Some : goal.returns-in-Ok-Some
returns-in-Ok-Some c =
    let call = c.precedes.ensures in
    let known = rw c.in-Ok-Some.field-0-is at c.in-Ok-Some.is in
    let all = precedence_seen _ _ _ _ (call.whole, (call.numbers, call.claims)) (said precedence_report _ known refl) in
    record { whole = all.0; claims = all.1 }

pub returns-in-Err : goal.returns-in-Err
returns-in-Err c =
    let call = c.precedes.ensures in
    let known = refused precedence_report c.in-Err.refusal c.in-Err.is refl refl c.refuse.ensures in
    let all = precedence_seen _ _ _ _ (call.whole, (call.numbers, call.claims)) known in
    record { whole = all.0; claims = all.1 }
