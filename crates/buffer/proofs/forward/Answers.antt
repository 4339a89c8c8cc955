-- `buffer::forward` meets its contract: the word and its start are added to those read.
use native.Mathlib.Omega.{arith}
use mathlib.Core.Path.{◌∙◌}
use Rattle.buffer.proofs.NextWord.{next_word}
use Rattle.buffer.proofs.Whole.{held_gap, forward-whole, held_forward}
use Rattle.buffer.proofs.forward.Goals as goal

pub start_of_next-requires : goal.start_of_next-requires
start_of_next-requires c =
    let few = c.requires.n_bound.0 in
    let more = c.requires.n_bound.1 in
    let h = c.requires.n_bound.2 in
    record { n_bound = (few, omega (arith, more, h.apart), omega (arith, more, h.apart, h.starts_long)); operands = (next_word _ _ _ _ _ _ few more h c.requires.rest_value).0 }

pub returns : goal.returns
returns c =
    let a = c.args in
    let more = c.requires.n_bound.1 in
    let h = c.requires.n_bound.2 in
    let e = c.start_of_next.ensures ∙ (next_word a.n a.left.now a.starts.now a.right.now a.read a.rest c.requires.n_bound.0 more h c.requires.rest_value).1 in
    record { rest_after = forward-whole a.left.now a.right.now a.read a.rest (held_gap h) more; held = held_forward a.n a.left.now a.starts.now a.right.now a.read a.rest _ _ h more e }
