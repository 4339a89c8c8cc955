-- `areas::put_word` meets its contract: one word written is the area written over. Assumes nothing.
use mathlib.Core.Path.{refl}
use Rattle.areas.proofs.Area.{overwrite-one}
use Rattle.areas.proofs.put_word.Goals as goal

pub returns : goal.returns
returns c = (overwrite-one _ _ _ c.requires, refl)
