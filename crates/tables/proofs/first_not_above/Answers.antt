-- A search over actions. The invariant: what is found from action a on is what is found at all.
use native.Mathlib.Omega.{arith}
use Prim.Native.Nat.{◌+◌}
use mathlib.Core.Path.{◌≡◌, sym, ap}
use Rattle.refusals.specs.Refusal.{judged}
use Rattle.tables.specs.Judging.{least_right}
use Rattle.tables.proofs.Searching.{begins, passes, fails, ends, met, unmet}
use Rattle.tables.proofs.first_not_above.Goals as goal

pub loop-a-init : goal.loop-a-init
loop-a-init c = (omega arith, omega arith, begins _ (omega arith))

pub returns-then-not-is_marked : goal.returns-then-not-is_marked
unfolding least_right
returns-then-not-is_marked c =
    let at : c.index_of.result ≡ c.args.start + c.loop-a.a = omega arith in
    record {
      whole = rw (c.at.ensures, at)
          (sym (ap judged (fails c.loop-a.invariant.2 (omega arith) (unmet _ c.is_marked.ensures.whole c.if-not-is_marked.true))));
    }

pub loop-a-preserved : goal.loop-a-preserved
unfolding least_right
loop-a-preserved c = (omega arith, omega arith, passes c.loop-a.invariant.2 (omega arith) (met _ c.is_marked.ensures.whole c.if-not-is_marked.false))

pub returns : goal.returns
returns c = record { whole = sym (ap judged (ends c.loop-a.invariant.2 (omega arith))) }

pub returns-else-not-is_marked : goal.returns-else-not-is_marked
unfolding least_right
returns-else-not-is_marked c =
    let all = passes c.loop-a.invariant.2 (omega arith) (met _ c.is_marked.ensures.whole c.if-not-is_marked.false) in
    record { whole = sym (ap judged (ends all (omega arith))) }
