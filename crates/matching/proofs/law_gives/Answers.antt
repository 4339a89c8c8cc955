-- `matching::law_gives` meets its contract: the longer array is long enough for any plan.
use Rattle.std.proofs.Common.{arith}
use Rattle.plans.proofs.Accepted.{accepted-length}
use Rattle.matching.proofs.law_gives.Goals as goal

pub gives_within-requires-2 : goal.gives_within-requires-2
gives_within-requires-2 c =
    let p = c.requires in
    record {
      le_law = (p.0, p.1, p.2, p.3);
      plan_in_bounds = (omega arith, accepted-length _ p.2 _ p.3, p.4);
    }
