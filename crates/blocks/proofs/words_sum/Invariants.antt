-- `blocks::words_sum` meets its contract. The invariant: the sum so far and the words left have the whole sum, modulo 65,536.
use Rattle.std.proofs.Common.{◌≡◌, ◌+◌, ◌-◌, ◌%◌, ◌<◌, ◌≤◌}
use Rattle.blocks.specs.Block.{words_sum}
use Rattle.blocks.proofs.words_sum.Given as goal

abbrev pub invariant-loop-k : goal.invariant-loop-k
invariant-loop-k l = (l.k ≤ 255) × (l.sum < 65536) × ((l.sum + words_sum l.block l.k (255 - l.k)) % 65536 ≡ words_sum l.block 0 255 % 65536)

abbrev pub decreases-loop-k : goal.decreases-loop-k
decreases-loop-k l = 255 - l.k
