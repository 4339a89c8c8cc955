-- Nobody need believe this: contracts of functions cite it. How often a word stands in a plan.
use Rattle.std.specs.Prelude.{ℕ, ◌+◌, cond, List, [], ◌∷◌, eqb}

unfoldable pub occurrences : ℕ → List ℕ → ℕ
occurrences w [] = 0
occurrences w (v ∷ ws) = cond (eqb v w) 1 0 + occurrences w ws
