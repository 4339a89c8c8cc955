-- `order_right` meets its contract: where a<b and b<c, what is asked is a<c.
use mathlib.Core.Path.{◌≡◌}
use Rattle.std.proofs.Common.{arith, rules}
use Rattle.tables.specs.Tables.{marked}
use Rattle.tables.specs.Judging.{order_right}
use Rattle.tables.proofs.order_right.Goals as goal
use Rattle.tables.proofs.order_right.Goals.{then-below-3, else-below-3}

pub returns-after-below-3 : goal.returns-after-below-3
unfolding order_right
returns-after-below-3 c =
    elim c.if-below-3.branch [
      | then-below-3 w ↦
          let asked : w.below-then-below-3.result ≡ marked c.args.tables.now c.args.start c.args.a c.args.c = grind arith in
          search rules
      | else-below-3 w ↦ search rules
    ]
