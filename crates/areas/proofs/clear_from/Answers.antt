-- What the library says of the part that it filled.
use Rattle.areas.proofs.Area.{cleared}
use Rattle.areas.proofs.clear_from.Goals as goal

pub returns : goal.returns
returns c = cleared c.args.dst.now c.fill.new.self c.args.at c.requires (c.fill.ensures.after (λ y e. e))
