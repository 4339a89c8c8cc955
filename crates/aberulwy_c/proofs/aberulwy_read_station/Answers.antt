-- `aberulwy_c::aberulwy_read_station` meets its contract: the answer of the call is handed over, and the areas are as it leaves them.
use mathlib.Core.Path.{◌∙◌, ap}
use Rattle.aberulwy_c.specs.Answers.{of_station}
use Rattle.aberulwy_c.proofs.Answers.{returned_1}
use Rattle.aberulwy_c.proofs.Stations.{station_read-seen}
use Rattle.aberulwy_c.proofs.aberulwy_read_station.Goals as goal

pub returns : goal.returns
returns c =
    let call = c.read_station.ensures in
    record {
      whole = returned_1 _ c.hand_size.ensures ∙ ap of_station call.whole;
      claims = station_read-seen _ _ _ call.whole call.claims c.hand_size.ensures;
    }
