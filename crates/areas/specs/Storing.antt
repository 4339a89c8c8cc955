-- Nobody need believe this: contracts of functions cite it. The steps made, and the plan reached stored with the plan before it. (01, "Unfolding".)
use Rattle.std.specs.Prelude.{ℕ, ◌+◌, ◌≤◌, ◌≡◌, true, not, cond, List, [], ◌++◌, length, take, drop, eqb}
use Rattle.areas.specs.declared.StepState.{StepState}
use Rattle.areas.specs.Reached.{even?, area_a, area_b}
use Rattle.areas.specs.Area.{most_words}

-- no step made
abbrev pub no_step : StepState
no_step = record { steps = 0; even = true; at = 0; old = 0; new = 0 }

-- the state after one step more: the subplan of `old` words that started at `at` gave way to `new` words
abbrev pub stepped : StepState → ℕ → ℕ → ℕ → StepState
stepped s at old new = record { steps = s.steps + 1; even = not s.even; at = at; old = old; new = new }

-- "the plan one step before": the words that the last step took away, put back; "(zeros if no step was made)"
unfoldable pub before : StepState → List ℕ → List ℕ → List ℕ
before s plan old =
    cond (eqb s.steps 0) [] (take s.at plan ++ (take s.old old ++ drop (s.at + s.new) plan))

-- the last step's words stand in the plan, those that it took away in `old`, and the plan before it was no longer than c words
pub record Undoable (s : StepState) (plan old : List ℕ) (c : ℕ) : Type 0 where
  pub old_in : s.old ≤ length old
  pub new_in : s.at + s.new ≤ length plan
  pub before_fits : length (before s plan old) ≤ c

-- between two steps: the plan has at most c words, and so had the plan before it, which can be put together again
pub record Kept (c : ℕ) (plan old : List ℕ) (s : StepState) : Type 0 where
  pub undoable : Undoable s plan old c
  pub short : length plan ≤ c
  pub parity : s.even ≡ even? s.steps

-- the plan and the one before it have room in each of two areas of a and b bytes
pub record Storable (s : StepState) (plan old : List ℕ) (a b : ℕ) : Type 0 where
  pub undoable : Undoable s plan old most_words
  pub plan_in_a : length plan ≤ a
  pub plan_in_b : length plan ≤ b
  pub before_in_a : length (before s plan old) ≤ a
  pub before_in_b : length (before s plan old) ≤ b

-- the areas, where `size` words of the plan stand in one by the parity and the plan before it in the other
pub record Stored (a b a' b' : List ℕ) (s : StepState) (plan old : List ℕ) (size : ℕ) : Type 0 where
  pub in_a : a' ≡ area_a s.even plan (before s plan old) (length a)
  pub in_b : b' ≡ area_b s.even plan (before s plan old) (length b)
  pub plan_size : size ≡ length plan
