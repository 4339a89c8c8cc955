-- `aberulwy::count_orders` meets its contract: a refusal stands first, and an accepted plan is what the lower layer asks for.
use native.Mathlib.Omega.{arith}
use mathlib.Core.Path.{◌≡◌, sym}
use Rattle.std.specs.Prelude.{Ok}
use Rattle.std.proofs.lemmas.Grind.{common_steps}
use Rattle.aberulwy.specs.Judging.{orders_answer}
use Rattle.aberulwy.proofs.Judging.{few_of, orders_refused, orders_told, orders_numbers, orders_claimed}
use Rattle.aberulwy.proofs.count_orders.Goals as goal

pub returns-in_err-judge_plan : goal.returns-in_err-judge_plan
returns-in_err-judge_plan c =
    let e : c.from_residual.result ≡ orders_answer c.args.tables.now c.args.plan.now = grind (arith, common_steps, orders_refused) in
    record { whole = e; numbers = orders_numbers _ _ _ e; claims = orders_claimed _ _ _ e }

pub count_orders-requires : goal.count_orders-requires
count_orders-requires c = grind (arith, common_steps, few_of)

pub returns : goal.returns
returns c =
    let e : orders_answer c.args.tables.now c.args.plan.now ≡ Ok c.count_orders.result = grind (arith, common_steps, orders_told) in
    record { whole = sym e; numbers = orders_numbers _ _ _ (sym e); claims = orders_claimed _ _ _ (sym e) }
