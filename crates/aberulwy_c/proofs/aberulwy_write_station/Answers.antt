-- `aberulwy_c::aberulwy_write_station` meets its contract: the answer of the call is handed over, and the area is as it leaves them.
use mathlib.Core.Path.{◌∙◌, ap}
use Rattle.aberulwy_c.specs.Answers.{of_written}
use Rattle.aberulwy_c.proofs.Answers.{returned_1}
use Rattle.aberulwy_c.proofs.Stations.{station_written-seen}
use Rattle.aberulwy_c.proofs.aberulwy_write_station.Goals as goal

pub returns : goal.returns
returns c =
    let call = c.write_station.ensures in
    record {
      whole = returned_1 _ c.hand_size.ensures ∙ ap of_written call.whole;
      claims = station_written-seen _ _ _ call.whole call.claims c.hand_size.ensures;
    }
