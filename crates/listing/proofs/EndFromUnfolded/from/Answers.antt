-- `listing::EndFromUnfolded::from` says how the unfolding ended.
use Rattle.listing.specs.Ended.{finished, stopped}
use Rattle.listing.proofs.EndFromUnfolded.from.Goals as goal

pub returns-in-Finished : goal.returns-in-Finished
returns-in-Finished c = rw c.in-Finished.is finished

pub returns-in-Stopped : goal.returns-in-Stopped
returns-in-Stopped c = rw c.in-Stopped.is stopped
