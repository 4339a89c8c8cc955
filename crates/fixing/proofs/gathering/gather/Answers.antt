-- `fixing::gathering::gather` meets its contract. The invariant: the summands of the words before place i are gathered.
use mathlib.Core.Path.{subst, ◌∙◌}
use Rattle.fixing.specs.Gathered.{Gathered}
use Rattle.fixing.proofs.Steps.{nothing_gathered}
use native.Mathlib.Omega.{arith}
use Rattle.fixing.proofs.gathering.gather.Goals as goal

pub loop-i-init : goal.loop-i-init
loop-i-init c = record { room = c.requires.6; gathered = nothing_gathered _ _ _ _ _ _ c.requires.1 c.requires.2 c.requires.3 c.requires.4 c.requires.5 }

pub take_word-stack-requires : goal.take_word-stack-requires
take_word-stack-requires c =
    let v = c.loop-i.invariant in
    (v.gathered, c.requires.0, c.loop-i-test.true, v.room)

pub loop-i-preserved : goal.loop-i-preserved
loop-i-preserved c =
    let w = c.take_word-stack in
    record { room = w.auto.buffer ∙ c.loop-i.invariant.room; gathered = w.ensures }

pub returns : goal.returns
returns c =
    let l = c.loop-i in
    subst (λ i. Gathered c.args.plan.now i l.links l.sizes l.ends l.entries l.starts l.stack.entries l.stack.parts) (omega arith) l.invariant.gathered
