-- Small walks, by computation.
use Prim.Native.Nat.{ℕ}
use mathlib.Core.Path.{◌≡◌, refl}
use mathlib.Core.Bool.{true, false}
use mathlib.Core.List.{List, [], ◌∷◌}
use mathlib.Core.Option.{some, none}
use Rattle.plans.specs.Start.{start_of}
use Rattle.paths.specs.Operands.{first_operand}
use Rattle.walks.specs.Progress.{Progress, fresh}
use Rattle.walks.specs.Pass.{take_message}

-- 1·2 + 1·3: message 1 marks two places
abbrev either : List ℕ
either = 1 ∷ 2 ∷ 65 ∷ 1 ∷ 3 ∷ 65 ∷ 64 ∷ []

abbrev after_one : Progress
after_one = record { marks = 0 ∷ 1 ∷ 0 ∷ 0 ∷ 1 ∷ 0 ∷ 0 ∷ []; finish = false }

two_places : take_message 3 either 1 (fresh either) ≡ some after_one
unfolding take_message fresh first_operand start_of
two_places = refl

-- and then 3 finishes, with no mark left; 1 leads nowhere
then-finish : take_message 3 either 3 after_one ≡ some (record { marks = 0 ∷ 0 ∷ 0 ∷ 0 ∷ 0 ∷ 0 ∷ 0 ∷ []; finish = true })
unfolding take_message first_operand start_of
then-finish = refl

then-nothing : take_message 3 either 1 after_one ≡ none
unfolding take_message first_operand start_of
then-nothing = refl

-- no path begins with 2, and 4 is no action of 1 to 3
not_second : take_message 3 either 2 (fresh either) ≡ none
unfolding take_message fresh first_operand start_of
not_second = refl

outside_not_taken : take_message 3 either 4 (fresh either) ≡ none
unfolding take_message fresh first_operand start_of
outside_not_taken = refl

-- 1 + 1·2: message 1 can end in a finish and can go on; the finish is that of exactly these messages
finish_or_on : take_message 3 (1 ∷ 1 ∷ 2 ∷ 65 ∷ 64 ∷ []) 1 (fresh (1 ∷ 1 ∷ 2 ∷ 65 ∷ 64 ∷ [])) ≡ some (record { marks = 0 ∷ 0 ∷ 1 ∷ 0 ∷ 0 ∷ []; finish = true })
unfolding take_message fresh first_operand start_of
finish_or_on = refl

-- a mark at the first factor of a product stands for that action, and any byte but zero is a mark
first_factor : take_message 3 (1 ∷ 2 ∷ 65 ∷ []) 1 (record { marks = 7 ∷ 0 ∷ 0 ∷ []; finish = false }) ≡ some (record { marks = 0 ∷ 0 ∷ 0 ∷ []; finish = true })
unfolding take_message first_operand start_of
first_factor = refl

-- 1·δ: message 1 leads to dead stop, which is marked
into_dead_stop : take_message 3 (1 ∷ 0 ∷ 65 ∷ []) 1 (fresh (1 ∷ 0 ∷ 65 ∷ [])) ≡ some (record { marks = 0 ∷ 1 ∷ 0 ∷ []; finish = false })
unfolding take_message fresh first_operand start_of
into_dead_stop = refl
