-- The highest law is the last of the table.
use mathlib.Core.Path.{◌≡◌, refl}
use lib.ListN.{length}
use Rattle.laws.specs.Laws.{laws, highest_law}

pub table_long : length laws ≡ highest_law
unfolding laws
table_long = refl
