-- `fixing::gathering::put_behind` meets its contract.
use mathlib.Core.Path.{refl, ap}
use lib.ListN.{get_or, set}
use Rattle.fixing.proofs.gathering.put_behind.Goals as goal

pub returns : goal.returns
returns c =
    let s = c.args in
    record { linked_on = ap (λ e. set s.links.now e (get_or s.entries.now s.start 0)) c.end_of-end.ensures.0; grown = refl; ended = refl }
