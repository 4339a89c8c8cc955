-- `writing::put_part` meets its contract: the part of the area that is lent to `make_block` comes back as the block.
use Prim.Native.Nat.{◌+◌, ◌*◌}
use mathlib.Core.Path.{◌≡◌, ◌∙◌}
use Rattle.blocks.specs.Block.{kind_due, block_of}
use Rattle.blocks.proofs.Made.{block_of-long}
use Rattle.writing.specs.Writing.{part}
use Rattle.writing.proofs.File.{part-short}
use Rattle.writing.proofs.Turns.{block_room, part-put}
use native.Mathlib.Omega.{arith}
use Rattle.writing.proofs.put_part.Goals as goal

pub make_block-requires : goal.make_block-requires
make_block-requires c = (block_room c.args.area.now c.args.i c.requires.2, rw c.part_of.ensures (part-short c.args.list.now c.args.k))

pub returns : goal.returns
returns c =
    let i = c.args.i in
    let l = c.args.list.now in
    let k = c.args.k in
    let b : c.make_block.new.block ≡ block_of i (kind_due i) (part l k) = c.make_block.ensures.whole ∙ rw (c.kind_due.ensures.whole, c.part_of.ensures) in
    rw b (part-put c.args.area.now (block_of i (kind_due i) (part l k)) (512 * i) (512 * i + 512) (omega (arith, block_of-long i (kind_due i) (part l k) (part-short l k))))
