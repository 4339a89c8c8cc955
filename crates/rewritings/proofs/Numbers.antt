-- The laws that the unfolding chooses from go up to the last law.
use Prim.Native.Nat.{◌+◌}
use mathlib.Core.Path.{◌≡◌, refl}
use Rattle.laws.specs.Laws.{highest_law, first_choice, choices}

pub last_choice : first_choice + choices ≡ highest_law + 1
last_choice = refl
