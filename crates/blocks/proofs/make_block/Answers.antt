-- `blocks::make_block` meets its contract, step by step: what stands before the content, the content, zeros behind it, the sum.
use Rattle.std.proofs.Common.{arith}
use Rattle.blocks.proofs.Making.{steps-made}
use Rattle.blocks.proofs.make_block.Goals as goal

pub returns : goal.returns
returns c =
    record {
      whole = steps-made c.args.number c.args.kind c.args.held.now c.args.block.now c.requires.0 c.requires.1
          c.put_two_bytes.ensures.whole c.put_two_bytes-2.ensures.whole c.put_two_bytes-3.ensures.whole c.copy_in-end.ensures
          (omega arith) c.clear_from.ensures c.words_sum-sum.ensures.whole c.put_two_bytes-4.ensures.whole;
    }
