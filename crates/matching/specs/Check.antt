-- Nobody need believe this: contracts of functions cite it. The conditions of the laws, on a plan's words.
use Rattle.std.specs.Prelude.{ℕ, ◌-◌, Bool, true, cond, not, List, get_or, eqb}
use Rattle.tables.specs.Tables.{Tables, blocked, below}
use Rattle.plans.specs.Place.{part}
use Rattle.laws.specs.Laws.{same_bytes}
use Rattle.matching.specs.declared.condition.Check.{Check}
use Rattle.matching.specs.declared.condition.Check.TheVariants.{Always, Same, InSet, NotInSet, Below, NotBelow}

-- the condition of a law, by its number
unfoldable pub check_at : ℕ → Check
check_at k =
    cond (eqb k 4) Same (cond (eqb k 20) NotInSet (cond (eqb k 21) InSet (cond (eqb k 24) NotBelow (cond (eqb k 25) Below Always))))

-- the words that letter k reaches over
unfoldable pub letter : List ℕ → List ℕ → List ℕ → ℕ → List ℕ
letter plan f g k = part (get_or f k 0) (get_or g k 0) plan

-- the word where letter k starts, and the set that ∂'s word names there
unfoldable pub word_from : List ℕ → List ℕ → ℕ → ℕ
word_from plan f k = get_or plan (get_or f k 0) 0

unfoldable pub set_from : List ℕ → List ℕ → ℕ
set_from plan f = word_from plan f 5 - 80

unfoldable pub holds_of : Check → Tables → List ℕ → List ℕ → List ℕ → Bool
holds_of Always t plan f g = true
holds_of Same t plan f g = same_bytes (letter plan f g 0) (letter plan f g 1)
holds_of InSet t plan f g = blocked t (set_from plan f) (word_from plan f 3)
holds_of NotInSet t plan f g = not (blocked t (set_from plan f) (word_from plan f 3))
holds_of Below t plan f g = below t (word_from plan f 3) (word_from plan f 4)
holds_of NotBelow t plan f g = not (below t (word_from plan f 3) (word_from plan f 4))
