-- `blocks::put_used` meets its contract: the part lent is the used content.
use Rattle.std.proofs.Common.{◌≡◌, arith}
use Rattle.blocks.specs.Block.{word, count_of}
use Rattle.blocks.proofs.Reading.{used-part}
use Rattle.blocks.proofs.put_used.Goals as goal

pub slice_bounds-copy_in-end : goal.slice_bounds-copy_in-end
unfolding count_of
slice_bounds-copy_in-end c = omega arith

pub copy_in-requires : goal.copy_in-requires
copy_in-requires c =
    let count : c.from-end.result ≡ word c.args.block.now 2 = omega (arith, c.word_at.ensures.whole) in
    rw (used-part c.args.block.now c.requires.1 _ count) c.requires.2

pub returns : goal.returns
returns c =
    let count : c.from-end.result ≡ word c.args.block.now 2 = omega (arith, c.word_at.ensures.whole) in
    rw (← used-part c.args.block.now c.requires.1 _ count) c.copy_in.ensures
