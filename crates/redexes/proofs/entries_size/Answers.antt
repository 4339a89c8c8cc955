-- The sizes of the entries are added up. The invariant: with the sizes of the entries left, the sum is that of all.
use native.Mathlib.Omega.{arith}
use Rattle.redexes.proofs.Entries.{size-more, size_none}
use Rattle.redexes.proofs.entries_size.Goals as goal

pub loop-v-preserved : goal.loop-v-preserved
loop-v-preserved c =
    let m = size-more c.args.sizes.now c.args.entries.now c.loop-v.v-index (omega arith) in
    (omega (arith, c.size_of-size.ensures.1), omega (arith, m, c.size_of-size.ensures.0, c.loop-v.invariant.1))

pub returns : goal.returns
returns c =
    let m = size_none c.args.sizes.now c.args.entries.now c.loop-v.v-index (omega arith) in
    (omega (arith, m, c.loop-v.invariant.1), omega arith)
