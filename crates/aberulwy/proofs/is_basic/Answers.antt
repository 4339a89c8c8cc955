-- `aberulwy::is_basic` meets its contract: a refusal stands first, and an accepted plan is what the lower layer asks for.
use native.Mathlib.Omega.{arith}
use mathlib.Core.Path.{◌≡◌, sym}
use Rattle.std.specs.Prelude.{Ok}
use Rattle.std.proofs.lemmas.Grind.{common_steps}
use Rattle.aberulwy.specs.Judging.{basic_answer}
use Rattle.aberulwy.proofs.Judging.{few_of, basic_refused, basic_told, basic_numbers, basic_yes}
use Rattle.aberulwy.proofs.is_basic.Goals as goal

pub returns-in_err-judge_plan : goal.returns-in_err-judge_plan
returns-in_err-judge_plan c =
    let e : c.from_residual.result ≡ basic_answer c.args.tables.now c.args.plan.now = grind (arith, common_steps, basic_refused) in
    record { whole = e; numbers = basic_numbers _ _ _ e; accepts = basic_yes _ _ _ e }

pub basic_words-requires : goal.basic_words-requires
basic_words-requires c = grind (arith, common_steps, few_of)

pub returns : goal.returns
returns c =
    let e : basic_answer c.args.tables.now c.args.plan.now ≡ Ok c.basic_words.result = grind (arith, common_steps, basic_told) in
    record { whole = sym e; numbers = basic_numbers _ _ _ (sym e); accepts = basic_yes _ _ _ (sym e) }
