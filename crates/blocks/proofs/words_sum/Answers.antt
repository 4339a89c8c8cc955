-- `blocks::words_sum` meets its contract. The invariant: the sum so far and the words left have the whole sum, modulo 65,536.
use Rattle.std.proofs.Common.{ℕ, ◌+◌, ◌%◌, ap, arith}
use Rattle.blocks.proofs.Reading.{sum-turn, sum-end}
use Rattle.blocks.proofs.words_sum.Goals as goal

pub loop-k-init : goal.loop-k-init
loop-k-init c = (omega arith, omega arith, omega arith)

pub loop-k-preserved : goal.loop-k-preserved
loop-k-preserved c =
    let q = ap (λ (w : ℕ). (c.loop-k.sum + w) % 65536) c.word_at-sum.ensures.whole in
    (omega arith, omega arith, sum-turn _ _ _ _ _ (omega arith) q c.loop-k.invariant.2)

pub returns : goal.returns
returns c = record { whole = sum-end _ _ _ _ (omega arith) (omega arith) c.loop-k.invariant.2 }
