-- `listing::put_plan` meets its contract: the ending of the unfolding is listed, or why it was refused.
use native.Mathlib.Omega.{arith}
use mathlib.Core.Path.{refl, sym, ◌∙◌}
use Rattle.listing.proofs.Ending.{only_line}
use Rattle.listing.proofs.Unfolds.{refused-listing, ended-listing}
use Rattle.listing.proofs.put_plan.Goals as goal

pub put_ending-requires : goal.put_ending-requires
put_ending-requires c =
    let p = ended-listing c.args.tables.now c.args.plan.now _ _ _ refl refl refl _ _ _ _ c.from.ensures c.in-Ok.is c.unfold.ensures.whole in
    (p.few, c.unfold.auto.a, c.unfold.auto.b, omega (arith, p.long, c.unfold.auto.list), c.unfold.auto.list, c.requires)

pub returns-in-Err : goal.returns-in-Err
returns-in-Err c =
    only_line c.requires c.put_refusal.ensures.0 ∙ sym (refused-listing c.args.tables.now c.args.plan.now _ _ _ refl refl refl _ _ _ _ c.in-Err.is c.unfold.ensures.whole)

pub returns-in-Ok : goal.returns-in-Ok
returns-in-Ok c =
    let p = ended-listing c.args.tables.now c.args.plan.now _ _ _ refl refl refl _ _ _ _ c.from.ensures c.in-Ok.is c.unfold.ensures.whole in
    c.put_ending.ensures ∙ sym p.text
