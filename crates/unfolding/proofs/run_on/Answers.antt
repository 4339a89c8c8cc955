-- `unfolding::run_on` meets its contract. The invariant: `Going`, what is left of the run has the outcome of the whole run. The measure is the steps
-- still allowed, since a round that another follows has made one.
use native.Mathlib.Omega.{arith}
use lib.ListN.{drop}
use Rattle.unfolding.proofs.Running.{started, after_round, fewer, over}
use Rattle.unfolding.proofs.run_on.Goals as goal

pub loop-stop-init : goal.loop-stop-init
loop-stop-init c =
    let a = c.args in
    rw c.no_step-state.ensures (started a.tables.now a.limit a.allowance a.list.now a.words.now a.old.now a.front c.requires.n_value.3 c.requires.given)

pub make_round-round-requires : goal.make_round-round-requires
make_round-round-requires c =
    let p = c.requires.n_value in
    let g = c.loop-stop.invariant in
    record { n_value = (p.0, p.1, p.2, g.used_low, omega (arith, g.count)); given = g.given }

pub returns-in-Over : goal.returns-in-Over
returns-in-Over c =
    let l = c.loop-stop in
    let a = c.args in
    let m = c.make_round-round in
    over a.tables.now a.limit a.allowance (drop a.front a.words.now) a.list.now l.list l.words l.old l.start l.state l.allowed l.used l.invariant m.new.words m.new.old m.new.list m.result m.ensures m.auto.list _ c.in-Over.is

pub loop-stop-smaller : goal.loop-stop-smaller
loop-stop-smaller c =
    let l = c.loop-stop in
    let a = c.args in
    let m = c.make_round-round in
    fewer a.tables.now a.limit a.allowance (drop a.front a.words.now) a.list.now l.list l.words l.old l.start l.state l.allowed l.used l.invariant m.new.words m.new.old m.new.list m.result m.ensures m.auto.list c.in-NoNode.is

pub loop-stop-preserved : goal.loop-stop-preserved
loop-stop-preserved c =
    let l = c.loop-stop in
    let a = c.args in
    let m = c.make_round-round in
    after_round a.tables.now a.limit a.allowance (drop a.front a.words.now) a.list.now l.list l.words l.old l.start l.state l.allowed l.used l.invariant m.new.words m.new.old m.new.list m.result m.ensures m.auto.list
