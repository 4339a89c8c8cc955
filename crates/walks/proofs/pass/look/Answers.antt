-- `walks::pass::look` meets its contract: by the word, whose operands stand where the starts say.
use native.Mathlib.Omega.{arith}
use mathlib.Core.Path.{◌∙◌}
use lib.ListN.{length-set}
use Rattle.walks.proofs.Turning.{sum_at, product_at, starts-reach, looked-sum, looked-product, looked_other, looked-action}
use Rattle.walks.proofs.pass.look.Goals as goal

pub operands-first-requires : goal.operands-first-requires
operands-first-requires c = let at = sum_at c.requires.0 _ c.requires.1 c.in-64.is in (at.some_word, starts-reach c.requires.0 _ c.requires.1, at.some_start)

pub bounds-left-first : goal.bounds-left-first
bounds-left-first c =
    let at = sum_at c.requires.0 _ c.requires.1 c.in-64.is in
    omega (arith, at.some_start, at.start-before, c.requires.0.left_long, length-set c.args.left.now c.operands-first.result.1 1)

pub operands-first-requires-in-65 : goal.operands-first-requires-in-65
operands-first-requires-in-65 c = let at = product_at c.requires.0 _ c.requires.1 c.in-65.is in (at.some_word, starts-reach c.requires.0 _ c.requires.1, at.some_start)

pub bounds-plan-first : goal.bounds-plan-first
bounds-plan-first c = let at = product_at c.requires.0 _ c.requires.1 c.in-65.is in omega (arith, at.some_start, at.start-before)

pub returns-in-64 : goal.returns-in-64
returns-in-64 c =
    let at = sum_at c.requires.0 _ c.requires.1 c.in-64.is in
    let o = c.operands-first.ensures in
    looked-sum c.requires.0 _ _ (o.0 ∙ at.first-there) o.1 c.in-64.is

pub returns-then-plan-first : goal.returns-then-plan-first
returns-then-plan-first c =
    let at = product_at c.requires.0 _ c.requires.1 c.in-65.is in
    let o = c.operands-first-in-65.ensures in
    looked-product c.requires.0 _ _ (o.0 ∙ at.first-there) o.1 c.in-65.is c.if-plan-first.true

pub returns-else-plan-first : goal.returns-else-plan-first
returns-else-plan-first c =
    let at = product_at c.requires.0 _ c.requires.1 c.in-65.is in
    let o = c.operands-first-in-65.ensures in
    looked_other c.requires.0 _ _ (o.0 ∙ at.first-there) o.1 c.in-65.is c.if-plan-first.false

pub returns-in_default : goal.returns-in_default
returns-in_default c = looked-action c.requires.0 _ _ (λ e. omega arith) (λ e. omega arith)
