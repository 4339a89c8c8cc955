-- `walks::pass::pass` meets its contract: what is left of the pass at each word gives what the whole pass gives.
use mathlib.Core.Path.{refl}
use Rattle.walks.proofs.Turning.{left_none, left_unmarked, left-marked}
use Rattle.walks.proofs.pass.pass.Goals as goal

pub loop-i-init : goal.loop-i-init
loop-i-init c = record { given = c.requires; same = refl }

pub loop-i-preserved-then-left-i-ne0 : goal.loop-i-preserved-then-left-i-ne0
loop-i-preserved-then-left-i-ne0 c = left-marked c.loop-i.invariant c.loop-i-test.true c.if-left-i-ne0.true c.look-finishes.ensures

pub loop-i-preserved : goal.loop-i-preserved
loop-i-preserved c = left_unmarked c.loop-i.invariant c.loop-i-test.true c.if-left-i-ne0.false

pub returns : goal.returns
returns c = left_none c.loop-i.invariant c.loop-i-test.false
