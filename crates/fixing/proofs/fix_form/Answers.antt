-- `fixing::fix_form` meets its contract: a refusal of the plan, or what putting its form comes to.
use mathlib.Core.Path.{sym}
use Rattle.std.proofs.lemmas.Result.{err_from_is_err_and}
use Rattle.refusals.proofs.Judging.{accepted_none, refused_some}
use Rattle.fixing.proofs.Outcomes.{basic-accepted, form-refused-basic, not_fixed, gatherable, put-short, put-long}
use native.Mathlib.Omega.{arith}
use Rattle.fixing.proofs.fix_form.Goals as goal

pub returns-in_err-judge_basic : goal.returns-in_err-judge_basic
returns-in_err-judge_basic c =
    let p = err_from_is_err_and c.from_residual.result c.from_residual.ensures.1 in
    record { whole = rw (p.1, p.2) (not_fixed _ _ _ (form-refused-basic _ _ _ (refused_some _ _ (sym c.in_err-judge_basic.ensures)))) }

pub put_form-size-requires : goal.put_form-size-requires
put_form-size-requires c = gatherable ((basic-accepted _ _).0 (accepted_none _ (sym c.in_ok-judge_basic.ensures)))

pub returns-then-area-size : goal.returns-then-area-size
returns-then-area-size c =
    let basic = accepted_none _ (sym c.in_ok-judge_basic.ensures) in
    let e = c.put_form-size.ensures in
    record {
      whole = rw c.from.ensures (put-short _ _ _ _ _ basic e.0 e.1 (omega (arith, c.if-area-size.true, c.put_form-size.auto.area)));
    }

pub returns : goal.returns
returns c =
    let basic = accepted_none _ (sym c.in_ok-judge_basic.ensures) in
    let e = c.put_form-size.ensures in
    record { whole = put-long _ _ _ _ _ basic e.0 e.1 (omega (arith, c.if-area-size.false, c.put_form-size.auto.area)) }
