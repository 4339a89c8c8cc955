-- The library's two bytes are those of the definition: what is above the low one is below 256.
use Rattle.std.proofs.Common.{◌≡◌, ◌/◌, ◌%◌, ◌∙◌, arith}
use Rattle.blocks.specs.Block.{two_bytes}
use Rattle.blocks.proofs.put_two_bytes.Goals as goal

pub returns : goal.returns
unfolding two_bytes
returns c =
    let high : c.args.value / 256 % 256 ≡ c.args.value / 256 = omega arith in
    record { whole = c.copy_in.ensures.0 ∙ rw (c.to_le_bytes.ensures, high) }
