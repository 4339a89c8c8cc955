-- `unfold::main` is safe and ends: the bytes that it hands on lie within what was read and what was listed.
use Rattle.std.proofs.Common.{sym, arith}
use lib.Seq.{length-take-le}
use Rattle.listing.proofs.Outcome.{listed_within}
use Rattle.unfold.proofs.main.Goals as goal

pub slice_bounds-text-end : goal.slice_bounds-text-end
slice_bounds-text-end c = omega (arith, listed_within _ _ _ _ c.in-Some.is c.list_station.ensures.whole, c.list_station.auto.out)

pub slice_bounds-write_all-end-2 : goal.slice_bounds-write_all-end-2
slice_bounds-write_all-end-2 c =
    sym (length-take-le _ _ (omega (arith, listed_within _ _ _ _ c.in-Some.is c.list_station.ensures.whole, c.list_station.auto.out)))
