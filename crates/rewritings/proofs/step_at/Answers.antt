-- `step_at` meets its contract: none where three bytes are no longer left, else a record by its first byte.
use mathlib.Core.Path.{◌∙◌}
use Rattle.std.proofs.lemmas.List.{take_rest}
use Rattle.rewritings.proofs.Reading.{record_short, record_low, record_high, record_back}
use native.Mathlib.Omega.{arith}
use Rattle.rewritings.proofs.step_at.Goals as goal
use Rattle.rewritings.proofs.step_at.Goals.{else-first-gt128-via-then-first-gt128+else-first, else-first-gt128-via-else-first-gt128}

pub returns-in_err-get : goal.returns-in_err-get
returns-in_err-get c = c.from_residual.ensures ∙ record_short _ _ (omega (arith, c.in_err-get.ensures))

pub returns-in_default : goal.returns-in_default
returns-in_default c = record_short _ _ (omega (arith, c.in_ok-get.ensures))

pub returns-then-first : goal.returns-then-first
returns-then-first c =
    let lent = c.in_ok-get.ensures.lookup.0.2 ∙ take_rest c.args.rewriting.now c.args.at in
    c.back_at.ensures
    ∙ record_back c.args.rewriting.now c.args.at c.in_ok-get.field-0.now _ lent (omega arith) (omega arith) (omega arith) (omega arith)

pub returns : goal.returns
returns c =
    let lent = c.in_ok-get.ensures.lookup.0.2 ∙ take_rest c.args.rewriting.now c.args.at in
    elim c.else-first-gt128.branch [
      | else-first-gt128-via-then-first-gt128+else-first w ↦
          record_high c.args.rewriting.now c.args.at c.in_ok-get.field-0.now _ lent (omega arith) (omega arith) (omega (arith, w))
      | else-first-gt128-via-else-first-gt128 w ↦
          record_low c.args.rewriting.now c.args.at c.in_ok-get.field-0.now _ lent (omega arith) (omega arith) (omega (arith, w))
    ]
