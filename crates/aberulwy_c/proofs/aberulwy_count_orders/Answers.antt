-- `aberulwy_c::aberulwy_count_orders` meets its contract: in each arm the call's answer is known, and so its report.
use mathlib.Core.Path.{refl}
use Rattle.aberulwy.specs.Judging.{orders_report}
use Rattle.aberulwy_c.proofs.Answers.{said, refused}
use Rattle.aberulwy_c.proofs.Seen.{orders_seen}
use Rattle.aberulwy_c.proofs.aberulwy_count_orders.Goals as goal

pub returns-in-Ok : goal.returns-in-Ok
returns-in-Ok c =
    let all = orders_seen _ _ (said orders_report _ c.in-Ok.is c.count_orders.ensures.numbers) in
    record { whole = all.0; claims = all.1 }

pub returns-in-Err : goal.returns-in-Err
returns-in-Err c =
    let all = orders_seen _ _ (refused orders_report c.in-Err.refusal c.in-Err.is c.count_orders.ensures.numbers refl c.refuse.ensures) in
    record { whole = all.0; claims = all.1 }
