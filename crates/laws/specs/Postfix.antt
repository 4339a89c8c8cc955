-- The sides of a law as words in postfix order. Nobody need believe it: what the code puts by it is proved to be the published right side.
use Rattle.std.specs.Prelude.{ℕ, ◌+◌, List, [], ◌∷◌, ◌++◌}
use Rattle.plans.specs.Word.{binary_word}
use Rattle.laws.specs.Laws.{Pattern, any, any_action, δ, entry, node, θ, ∂}

-- a right side's words, the first first: letter k is 96 + k, ∂ is letter 5, its set, and the table entry is 102
unfoldable pub forth : Pattern → List ℕ
forth (any k) = (96 + k) ∷ []
forth (any_action k) = (96 + k) ∷ []
forth δ = 0 ∷ []
forth entry = 102 ∷ []
forth (node o p q) = forth p ++ (forth q ++ (binary_word o ∷ []))
forth (θ p) = forth p ++ (70 ∷ [])
forth (∂ p) = forth p ++ (101 ∷ [])
