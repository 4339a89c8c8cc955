-- `buffer::back` meets its contract: the words go in front of the rest.
use mathlib.Core.Path.{refl}
use Rattle.buffer.proofs.Whole.{back_whole}
use Rattle.buffer.proofs.back.Goals as goal

pub returns : goal.returns
returns c =
    let s = c.args.state in
    rw c.moved_to.ensures (refl, back_whole c.args.left.now c.args.right.now _ s.read s.rest c.args.to c.requires.0 c.requires.1 c.copy_in.ensures.0)
