-- `plans::count_orders` meets its contract: what the words count for a basic plan.
use native.Mathlib.Omega.{arith}
use mathlib.Core.Path.{◌≡◌, sym, ◌∙◌}
use mathlib.Core.Bool.{true}
use Rattle.plans.specs.Basic.{basic_words?}
use Rattle.plans.proofs.Orders.{occurrences-few, none_counted, both_counted}
use Rattle.plans.proofs.count_orders.Goals as goal

pub returns-then-not-basic_words : goal.returns-then-not-basic_words
returns-then-not-basic_words c = record { whole = none_counted _ c.requires.0 _ (sym c.basic_words.ensures.whole ∙ c.if-not-basic_words.true) }

pub overflow_add-paths : goal.overflow_add-paths
overflow_add-paths c = omega (arith, occurrences-few 64 c.args.plan.now, c.count_word-paths.ensures, c.requires)

pub overflow_sub-result : goal.overflow_sub-result
overflow_sub-result c =
    -- past the test the plan is basic
    let basic : basic_words? c.args.n c.args.plan.now ≡ true = sym c.basic_words.ensures.whole ∙ c.if-not-basic_words.false in
    omega (arith, (both_counted c.args.n c.requires.0 c.args.plan.now basic).0, c.count_word-paths.ensures, c.count_word-stuck.ensures)

pub returns : goal.returns
returns c =
    -- past the test the plan is basic
    let basic : basic_words? c.args.n c.args.plan.now ≡ true = sym c.basic_words.ensures.whole ∙ c.if-not-basic_words.false in
    record { whole = rw (c.count_word-paths.ensures, c.count_word-stuck.ensures) (both_counted _ c.requires.0 _ basic).1 }
