-- Nobody need believe this: contracts of functions cite it. Terms that wait for an operator, and an array used as a stack.
use Rattle.std.specs.Prelude.{ℕ, zero, suc, List, [], ◌∷◌, ◌++◌, get_or}
use Rattle.plans.specs.Term.{Term, words}

-- the words of terms, the last term first
unfoldable pub spell : List Term → List ℕ
spell [] = []
spell (x ∷ s) = spell s ++ words x

-- the first d entries of an array, the last first
unfoldable pub stacked : List ℕ → ℕ → List ℕ
stacked a zero = []
stacked a (suc d) = get_or a d 0 ∷ stacked a d
