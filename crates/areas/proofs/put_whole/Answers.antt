-- `areas::put_whole` meets its contract: the words stand first, and what stood behind them is cleared.
use mathlib.Core.Path.{◌∙◌}
use Rattle.areas.proofs.Area.{padded-whole}
use Rattle.areas.proofs.put_whole.Goals as goal

pub returns : goal.returns
returns c = c.clear_from.ensures ∙ padded-whole c.args.area.now c.copy_in.new.dst c.args.words.now c.requires c.copy_in.auto.dst c.copy_in.ensures.0
