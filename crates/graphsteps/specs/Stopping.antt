-- Nobody need believe this: contracts of functions cite it. Why the next step is not made, in the numbers of 01, "Turned back by how far it had come".
use Rattle.std.specs.Prelude.{ℕ, Option as Maybe, Some, None}
use Rattle.graphsteps.specs.declared.Stop.{Stop}
use Rattle.graphsteps.specs.declared.Stop.TheVariants.{AllowanceSpent, ListFull, TooLong}

abbrev pub stop_number : Stop → ℕ
stop_number AllowanceSpent = 34
stop_number ListFull = 35
stop_number TooLong = 36

-- a run's end: 0 where no law fits any more
abbrev pub end_number : Maybe Stop → ℕ
end_number None = 0
end_number (Some stop) = stop_number stop
