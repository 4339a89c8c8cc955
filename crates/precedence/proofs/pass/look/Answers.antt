-- `precedence::pass::look` meets its contract: by the word, whose operands stand where the starts say.
use native.Mathlib.Omega.{arith}
use mathlib.Core.Path.{◌∙◌}
use lib.ListN.{length-set}
use borrow.Author.Tests.{eq-eqb, ne_eqb}
use Rattle.precedence.proofs.Turning.{sum_at, product_at, reached, looked-sum, looked-product, looked-action}
use Rattle.precedence.proofs.pass.look.Goals as goal

pub bounds-seen-i : goal.bounds-seen-i
bounds-seen-i c = omega (arith, reached c.requires.0 _ c.requires.1, c.requires.0.seen_long)

pub operands-left-requires : goal.operands-left-requires
operands-left-requires c =
    let at = sum_at c.requires.0 _ c.requires.1 c.in-64.is in
    (at.some_word, omega (arith, reached c.requires.0 _ c.requires.1, c.requires.0.starts_long), at.some_start)

pub bounds-seen-right : goal.bounds-seen-right
bounds-seen-right c =
    let at = sum_at c.requires.0 _ c.requires.1 c.in-64.is in
    omega (arith, at.some_word, reached c.requires.0 _ c.requires.1, c.requires.0.seen_long)

pub bounds-seen-left : goal.bounds-seen-left
bounds-seen-left c =
    let at = sum_at c.requires.0 _ c.requires.1 c.in-64.is in
    rw length-set (omega (arith, at.some_start, at.start-before, reached c.requires.0 _ c.requires.1, c.requires.0.seen_long))

pub operands-factor-requires : goal.operands-factor-requires
operands-factor-requires c =
    let at = product_at c.requires.0 _ c.requires.1 c.in-65.is in
    (at.some_word, omega (arith, reached c.requires.0 _ c.requires.1, c.requires.0.starts_long), at.some_start)

pub bounds-seen-factor : goal.bounds-seen-factor
bounds-seen-factor c =
    let at = product_at c.requires.0 _ c.requires.1 c.in-65.is in
    omega (arith, at.some_start, at.start-before, reached c.requires.0 _ c.requires.1, c.requires.0.seen_long)

pub bounds-plan-factor : goal.bounds-plan-factor
bounds-plan-factor c = let at = product_at c.requires.0 _ c.requires.1 c.in-65.is in omega (arith, at.some_start, at.start-before)

pub bounds-seen-rest : goal.bounds-seen-rest
bounds-seen-rest c =
    let at = product_at c.requires.0 _ c.requires.1 c.in-65.is in
    rw length-set (omega (arith, at.some_word, reached c.requires.0 _ c.requires.1, c.requires.0.seen_long))

pub returns-in-64 : goal.returns-in-64
returns-in-64 c =
    let at = sum_at c.requires.0 _ c.requires.1 c.in-64.is in
    let o = c.operands-left.ensures in
    looked-sum c.requires.0 _ _ _ c.requires.2 (o.0 ∙ at.first-there) o.1 c.in-64.is

pub returns-in-65 : goal.returns-in-65
returns-in-65 c =
    let at = product_at c.requires.0 _ c.requires.1 c.in-65.is in
    let o = c.operands-factor.ensures in
    looked-product c.requires.0 _ _ _ c.requires.2 (o.0 ∙ at.first-there) o.1 c.in-65.is c.behind.ensures

pub returns-then-word-second : goal.returns-then-word-second
returns-then-word-second c =
    looked-action c.requires.0 _ _ _ c.requires.2 (λ e. omega arith) (λ e. omega arith) (rw (eq-eqb _ _ c.if-word-second.true))

pub returns-else-word-second : goal.returns-else-word-second
returns-else-word-second c =
    looked-action c.requires.0 _ _ _ c.requires.2 (λ e. omega arith) (λ e. omega arith) (rw (ne_eqb _ _ c.if-word-second.false))
