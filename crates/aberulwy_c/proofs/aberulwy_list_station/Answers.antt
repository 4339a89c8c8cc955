-- `aberulwy_c::aberulwy_list_station` meets its contract: the listing is handed over as the call below does it.
use Rattle.aberulwy_c.proofs.Answers.{listed}
use Rattle.aberulwy_c.proofs.aberulwy_list_station.Goals as goal

pub returns-in-Some : goal.returns-in-Some
returns-in-Some c =
    record {
      whole = listed _ _ _ c.in-Some.is c.list_station.ensures.whole;
      bounded = c.list_station.ensures.bounded;
      endings = c.list_station.ensures.endings;
    }

pub returns-in-None : goal.returns-in-None
returns-in-None c =
    record {
      whole = listed _ _ _ c.in-None.is c.list_station.ensures.whole;
      bounded = c.list_station.ensures.bounded;
      endings = c.list_station.ensures.endings;
    }
