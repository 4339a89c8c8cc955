-- Nobody need believe this: contracts of functions cite it. A whole run that was made, round after round.
use Rattle.std.specs.Prelude.{ℕ, ◌≡◌, List, length, drop}
use Rattle.areas.specs.Area.{padded}
use Rattle.areas.specs.Storing.{before}
use Rattle.tables.specs.Tables.{Tables}
use Rattle.rewritings.specs.Moves.{bytes_of}
use Rattle.rewritings.specs.Runs.{Run}
use Rattle.graphsteps.specs.Stopping.{end_number}
use Rattle.rounds.specs.Rounds.{Given}
use Rattle.unfolding.specs.declared.Last.{Last}

-- The run R is made: how it ended, the plan reached and the one before it, and its records in the list.
pub record RunMade (t : Tables) (c : ℕ) (R : Run) (ws old list list' : List ℕ) (r : Last) : Type 0 where
  pub given : Given t c ws old r.front r.state
  pub number : end_number r.stop ≡ R.number
  pub steps : r.state.steps ≡ R.steps
  pub plan : drop r.front ws ≡ R.plan
  pub prior : before r.state (drop r.front ws) old ≡ R.before
  pub records : list' ≡ padded (bytes_of R.moves) (length list)
