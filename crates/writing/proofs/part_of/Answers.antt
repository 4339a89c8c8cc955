-- `writing::part_of` meets its contract: 504 of the rest, or all of it where that is less.
use Rattle.std.proofs.lemmas.List.{take_min}
use Rattle.writing.proofs.File.{part-least}
use Rattle.writing.proofs.part_of.Goals as goal

pub returns : goal.returns
returns c = rw (c.min.ensures, take_min, part-least)
