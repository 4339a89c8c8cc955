-- A sign's operands are the last one or two entries of the stack.
use native.Mathlib.Omega.{arith}
use mathlib.Core.Path.{◌≡◌, sym, ◌∙◌}
use mathlib.Core.Bool.{true, false}
use Rattle.plans.specs.Word.{takes_two?}
use Rattle.graphsteps.proofs.Redexes.{signed_some, signed_both, taken-one, taken-two}
use Rattle.graphsteps.proofs.take_operands.Goals as goal

pub overflow_sub-b : goal.overflow_sub-b
overflow_sub-b c = (signed_some _ _ _ c.requires).0

pub offset_bounds-stack-height : goal.offset_bounds-stack-height
offset_bounds-stack-height c = omega (arith, signed_some _ _ _ c.requires, c.well_formed)

pub bounds-stack-height : goal.bounds-stack-height
bounds-stack-height c = omega (arith, signed_some _ _ _ c.requires)

pub overflow_sub-result : goal.overflow_sub-result
overflow_sub-result c =
    -- the test on the sign, by what `takes_two` says
    let two : takes_two? c.args.word ≡ true = sym c.takes_two.ensures.whole ∙ c.if-takes_two.true in
    signed_both _ _ _ c.requires two

pub offset_bounds-stack-height-then-takes_two : goal.offset_bounds-stack-height-then-takes_two
offset_bounds-stack-height-then-takes_two c = omega (arith, signed_some _ _ _ c.requires, c.well_formed)

pub bounds-stack-height-then-takes_two : goal.bounds-stack-height-then-takes_two
bounds-stack-height-then-takes_two c =
    -- the test on the sign, by what `takes_two` says
    let two : takes_two? c.args.word ≡ true = sym c.takes_two.ensures.whole ∙ c.if-takes_two.true in
    omega (arith, signed_some _ _ _ c.requires, signed_both _ _ _ c.requires two)

pub overflow_sub-result-then-takes_two : goal.overflow_sub-result-then-takes_two
overflow_sub-result-then-takes_two c =
    -- the test on the sign, by what `takes_two` says
    let two : takes_two? c.args.word ≡ true = sym c.takes_two.ensures.whole ∙ c.if-takes_two.true in
    signed_both _ _ _ c.requires two

pub returns-then-takes_two : goal.returns-then-takes_two
returns-then-takes_two c =
    -- the test on the sign, by what `takes_two` says
    let two : takes_two? c.args.word ≡ true = sym c.takes_two.ensures.whole ∙ c.if-takes_two.true in
    taken-two _ _ _ c.requires two

pub overflow_sub-result-2 : goal.overflow_sub-result-2
overflow_sub-result-2 c = (signed_some _ _ _ c.requires).0

pub returns : goal.returns
returns c =
    let one : takes_two? c.args.word ≡ false = sym c.takes_two.ensures.whole ∙ c.if-takes_two.false in
    taken-one _ _ _ c.requires one
