-- `listing::put_ending` meets its contract: the first line, the words reached and the steps stand one after another.
use Prim.Native.Nat.{◌*◌, ◌≤◌}
use native.Mathlib.Omega.{arith}
use lib.ListN.{length, take}
use lib.Seq.{length-take-le}
use Rattle.areas.specs.Reached.{even?}
use Rattle.rewritings.specs.Moves.{moves_of}
use Rattle.demands.specs.Reports.{own_rewriting}
use Rattle.listing.proofs.Ending.{wrote-ending, part-short}
use Rattle.listing.proofs.put_ending.Goals.{After-reached-plan}
use Rattle.listing.proofs.put_ending.Goals as goal

-- the plan reached is a part of an area
few : (c : After-reached-plan) → length c.reached-plan.result.now ≤ 8192
few c = rw c.reached-plan.ensures.whole (part-short (even? c.args.end.steps) c.args.end.size 8192 c.args.a.now c.args.b.now c.requires.1 c.requires.2)

pub count_orders-counts-requires : goal.count_orders-counts-requires
count_orders-counts-requires c = (omega (arith, c.actions_of.ensures), omega (arith, few (goal.at.count_orders-counts-requires c).After-reached-plan))

pub put_words-requires : goal.put_words-requires
put_words-requires c = omega (arith, few (goal.at.put_words-requires c).After-reached-plan, c.put_first.ensures.1)

pub put_steps-requires : goal.put_steps-requires
put_steps-requires c =
    omega (arith, few (goal.at.put_steps-requires c).After-reached-plan, c.put_words.ensures.1, c.put_first.ensures.1, length-take-le (3 * c.args.end.steps) c.args.list.now c.requires.3)

pub returns : goal.returns
unfolding own_rewriting
returns c =
    let e = c.args.end in
    rw (← c.actions_of.ensures.whole, ← c.reached-plan.ensures.whole)
    (wrote-ending c.actions_of.result e.number e.steps c.count_orders-counts.result c.reached-plan.result.now (moves_of (take (3 * e.steps) c.args.list.now))
    c.requires.5 c.count_orders-counts.ensures.whole c.put_first.ensures.0 c.put_words.ensures.0 c.put_steps.ensures.0)
