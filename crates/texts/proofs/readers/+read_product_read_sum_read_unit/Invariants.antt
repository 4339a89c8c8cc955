-- The three readers meet their contracts. The measure is three times the text that is left, and a rank: 2 for a sum, 1 for a product, 0 for a unit.
-- While a loop runs, some units of the product, or some products of the sum, are read and their words stored.
use Prim.Native.Nat.{◌+◌, ◌-◌, ◌*◌}
use lib.ListN.{length}
use Rattle.texts.specs.Readers.{Reached}
use Rattle.texts.proofs.Reaching.{Units, Products}
use Rattle.texts.proofs.readers.+read_product_read_sum_read_unit.Given as goal

abbrev pub decreases-read_product : goal.decreases-read_product
decreases-read_product l = 3 * (length l.text.now - l.from.at) + 1

abbrev pub decreases-read_sum : goal.decreases-read_sum
decreases-read_sum l = 3 * (length l.text.now - l.from.at) + 2

abbrev pub decreases-read_unit : goal.decreases-read_unit
decreases-read_unit l = 3 * (length l.text.now - l.from.at)

-- A product: units with `.` between them.
abbrev pub invariant-read_product-loop-here : goal.invariant-read_product-loop-here
invariant-read_product-loop-here l = Reached (Units l.n l.depth l.text l.fn.from.at) l.text l.fn.out l.out l.fn.from.at l.fn.from.words l.here.at l.here.words

abbrev pub decreases-read_product-loop-here : goal.decreases-read_product-loop-here
decreases-read_product-loop-here l = length l.text - l.here.at

-- A sum: products with `+` between them.
abbrev pub invariant-read_sum-loop-here : goal.invariant-read_sum-loop-here
invariant-read_sum-loop-here l = Reached (Products l.n l.depth l.text l.fn.from.at) l.text l.fn.out l.out l.fn.from.at l.fn.from.words l.here.at l.here.words

abbrev pub decreases-read_sum-loop-here : goal.decreases-read_sum-loop-here
decreases-read_sum-loop-here l = length l.text - l.here.at
