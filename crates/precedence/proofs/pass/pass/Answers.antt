-- `precedence::pass::pass` meets its contract: what is left of the pass at each word gives what the whole pass gives.
use mathlib.Core.Path.{refl}
use Rattle.precedence.proofs.Turning.{left_none, left-more}
use Rattle.precedence.proofs.pass.pass.Goals as goal

pub loop-i-init : goal.loop-i-init
loop-i-init c = record { given = c.requires.0; same = refl }

pub loop-i-preserved-then-look : goal.loop-i-preserved-then-look
loop-i-preserved-then-look c = left-more c.loop-i.invariant c.loop-i-test.true c.look.ensures c.if-look.true

pub loop-i-preserved : goal.loop-i-preserved
loop-i-preserved c = left-more c.loop-i.invariant c.loop-i-test.true c.look.ensures c.if-look.false

pub returns : goal.returns
returns c = left_none c.loop-i.invariant c.loop-i-test.false
