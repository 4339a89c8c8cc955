-- `use_right` meets its contract: what has to be zero is the filling, the content past the count.
use Prim.Native.Nat.{ℕ}
use mathlib.Core.Bool.{Bool}
use mathlib.Core.List.{List}
use mathlib.Core.Path.{◌≡◌, ap, ◌∙◌}
use lib.ListN.{drop}
use Rattle.std.proofs.Common.{arith, rules}
use Rattle.blocks.specs.Block.{kind_of, count_of, content, filling, all_zero, use_right}
use Rattle.blocks.proofs.use_right.Goals as goal

-- zero past a count is zero past the count that the block names, where they are one
filled : (b : List ℕ) (count : ℕ) {r : Bool} → r ≡ all_zero (drop count (content b)) → count ≡ count_of b → r ≡ all_zero (filling b)
unfolding filling
filled b count e h = e ∙ ap (λ k. all_zero (drop k (content b))) h

pub returns-then-count_right : goal.returns-then-count_right
unfolding use_right kind_of count_of
returns-then-count_right c =
    let past : c.zero_past.result ≡ all_zero (filling c.args.block.now) = filled _ c.from-count.result c.zero_past.ensures.whole (omega arith) in
    search rules
