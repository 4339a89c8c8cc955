-- `texts::units::read_action` meets its contract. While the loop runs, the digits so far are read, and their value is at most n.
use mathlib.Core.Path.{◌≡◌, sym, ◌∙◌}
use mathlib.Core.Option.{some}
use lib.ListN.{drop}
use Rattle.texts.specs.Readers.{next_numeral}
use Rattle.texts.proofs.Next.{found_value, found_none}
use Rattle.texts.proofs.Beginnings.{action-begins, action-goes-on, action-above, action_grows_above, action-nought, action-ends}
use Rattle.texts.proofs.units.read_action.Goals as goal

pub returns-then-n-digit : goal.returns-then-n-digit
returns-then-n-digit c =
    let s = c.args in
    rw c.no_text.ensures (action-above s.n s.depth s.text.now s.at s.digit c.requires.1 c.if-n-digit.true)

pub loop-next-init : goal.loop-next-init
loop-next-init c = let s = c.args in action-begins s.n s.depth s.text.now s.at s.digit c.requires.0 c.requires.1 c.if-n-digit.false

pub returns : goal.returns
returns c = let s = c.args in action-ends s.n s.depth s.text.now s.at c.loop-next.here c.loop-next.action c.loop-next.invariant (found_none _ (sym c.numeral_at.ensures ∙ c.in_default.is))

pub returns-then-action-eq0 : goal.returns-then-action-eq0
returns-then-action-eq0 c =
    let s = c.args in
    let next : next_numeral 9 (drop c.loop-next.here s.text.now) ≡ some c.in-Some.next = found_value _ (sym c.numeral_at.ensures ∙ c.in-Some.is) in
    rw c.no_text-then-action-eq0.ensures
    (action-nought s.n s.depth s.text.now s.at c.loop-next.here c.loop-next.action _ c.loop-next.invariant next c.if-action-eq0.true)

pub returns-then-n-value : goal.returns-then-n-value
returns-then-n-value c =
    let s = c.args in
    let next : next_numeral 9 (drop c.loop-next.here s.text.now) ≡ some c.in-Some.next = found_value _ (sym c.numeral_at.ensures ∙ c.in-Some.is) in
    rw c.no_text-then-n-value.ensures
    (action_grows_above s.n s.depth s.text.now s.at c.loop-next.here c.loop-next.action _ c.loop-next.invariant next c.if-action-eq0.false c.if-n-value.true)

pub loop-next-preserved : goal.loop-next-preserved
loop-next-preserved c =
    let s = c.args in
    let next : next_numeral 9 (drop c.loop-next.here s.text.now) ≡ some c.in-Some.next = found_value _ (sym c.numeral_at.ensures ∙ c.in-Some.is) in
    action-goes-on s.n s.depth s.text.now s.at c.loop-next.here c.loop-next.action _ c.requires.0 c.loop-next.invariant next c.if-action-eq0.false c.if-n-value.false
