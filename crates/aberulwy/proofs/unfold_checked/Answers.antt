-- `aberulwy::unfold_checked` meets its contract: the two calls leave both outcomes, and what the unfolding claims of its own rewriting is what the
-- check then answers.
use Rattle.aberulwy.proofs.Rewriting.{both_checked, both_refused}
use Rattle.aberulwy.proofs.unfold_checked.Goals as goal

pub returns-in-Ok : goal.returns-in-Ok
returns-in-Ok c =
    let k = c.args in
    let both = both_checked k.tables.now k.plan.now k.allowance k.list.now k.a.now k.b.now k.c.now k.d.now _ _ _ c.in-Ok.is c.made-steps.ensures
    c.unfold-unfolded.ensures.whole _ c.check_own.ensures in
    record { whole = both.0; numbers = both.1; claims = both.2; accepted = both.3 }

pub returns-in-Err : goal.returns-in-Err
returns-in-Err c =
    let k = c.args in
    let both = both_refused k.tables.now k.plan.now k.allowance k.list.now k.a.now k.b.now k.c.now k.d.now _ _ _ c.in-Err.is
    c.unfold-unfolded.ensures.whole in
    record { whole = both.0; numbers = both.1; claims = both.2; accepted = both.3 }
