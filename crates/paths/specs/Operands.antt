-- Nobody need believe this: contracts of functions cite it. Where the operands of an operator of two stand in a plan.
use Rattle.std.specs.Prelude.{ℕ, ◌-◌, ◌<◌, ◌≡◌, List, length, get_or}
use Rattle.plans.specs.Start.{start_of}

-- the place of the second operand of the operator at word i: it ends just before the operator
abbrev pub second_operand : ℕ → ℕ
second_operand i = i - 1

-- the place of the first operand: it ends just before the second one starts
unfoldable pub first_operand : ℕ → List ℕ → ℕ → ℕ
first_operand n plan i = start_of n plan (second_operand i) - 1

-- for every word, where the subplan whose last word it is starts
abbrev pub Starts : ℕ → List ℕ → List ℕ → Type 0
Starts n plan starts = (k : ℕ) → k < length plan → get_or starts k 0 ≡ start_of n plan k
