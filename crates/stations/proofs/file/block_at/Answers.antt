-- `stations::file::block_at` meets its contract: a block stands within the file, and is as many bytes of it.
use Rattle.stations.proofs.Files.{block-part}
use Rattle.stations.proofs.file.block_at.Goals as goal

pub returns : goal.returns
returns c = block-part c.args.file.now c.args.i
