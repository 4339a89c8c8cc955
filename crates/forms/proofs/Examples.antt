-- Small plans and their forms, by computation.
use Prim.Native.Nat.{ℕ}
use mathlib.Core.Bool.{false}
use mathlib.Core.Path.{◌≡◌, refl}
use mathlib.Core.List.{List, [], ◌∷◌, map}
use Rattle.plans.specs.Basic.{basic_words?}
use Rattle.forms.specs.Form.{form_of}
use Rattle.forms.specs.Gathering.{form_by_sorting}

-- a plan and its form, with four actions
infix 5 ◌↝◌
data Row : Type 0 where
  ◌↝◌ : List ℕ → List ℕ → Row

unfoldable rows : List Row
rows =
    -- case 12: an action shared out over a choice is another plan; the order and the number of equal summands don't count
    (1 ∷ 2 ∷ 3 ∷ 64 ∷ 65 ∷ [] ↝ 1 ∷ 2 ∷ 3 ∷ 64 ∷ 65 ∷ [])
    ∷ (1 ∷ 2 ∷ 65 ∷ 1 ∷ 3 ∷ 65 ∷ 64 ∷ [] ↝ 1 ∷ 2 ∷ 65 ∷ 1 ∷ 3 ∷ 65 ∷ 64 ∷ [])
    ∷ (1 ∷ 2 ∷ 64 ∷ [] ↝ 1 ∷ 2 ∷ 64 ∷ [])
    ∷ (2 ∷ 1 ∷ 64 ∷ 1 ∷ 64 ∷ [] ↝ 1 ∷ 2 ∷ 64 ∷ [])
    ∷ (1 ∷ 1 ∷ 64 ∷ [] ↝ 1 ∷ [])
    -- dead stop, alone and after an action; an action and that action before dead stop differ
    ∷ (0 ∷ [] ↝ 0 ∷ [])
    ∷ (1 ∷ 0 ∷ 65 ∷ [] ↝ 1 ∷ 0 ∷ 65 ∷ [])
    ∷ (1 ∷ 0 ∷ 65 ∷ 1 ∷ 64 ∷ 1 ∷ 0 ∷ 65 ∷ 64 ∷ [] ↝ 1 ∷ 1 ∷ 0 ∷ 65 ∷ 64 ∷ [])
    -- a shorter one first where it begins the longer, but bytes before lengths
    ∷ (2 ∷ 1 ∷ 2 ∷ 65 ∷ 64 ∷ 1 ∷ 64 ∷ [] ↝ 1 ∷ 1 ∷ 2 ∷ 65 ∷ 64 ∷ 2 ∷ 64 ∷ [])
    -- sums group to the left
    ∷ (1 ∷ 2 ∷ 3 ∷ 64 ∷ 64 ∷ [] ↝ 1 ∷ 2 ∷ 64 ∷ 3 ∷ 64 ∷ [])
    -- remainders first: two summands become equal only when theirs are in form
    ∷ (1 ∷ 2 ∷ 3 ∷ 64 ∷ 65 ∷ 1 ∷ 3 ∷ 2 ∷ 64 ∷ 65 ∷ 64 ∷ [] ↝ 1 ∷ 2 ∷ 3 ∷ 64 ∷ 65 ∷ [])
    ∷ (4 ∷ 3 ∷ 2 ∷ 1 ∷ 64 ∷ 65 ∷ 3 ∷ 1 ∷ 2 ∷ 64 ∷ 65 ∷ 64 ∷ 65 ∷ [] ↝ 4 ∷ 3 ∷ 1 ∷ 2 ∷ 64 ∷ 65 ∷ 65 ∷ [])
    ∷ []

abbrev plan : Row → List ℕ
plan (w ↝ x) = w

abbrev end : Row → List ℕ
end (w ↝ x) = x

rows_formed : map (λ r. form_of 4 (plan r)) rows ≡ map (λ r. end r) rows
unfolding rows form_of
rows_formed = refl

-- the loop computes the same
rows_sorted : map (λ r. form_by_sorting (plan r)) rows ≡ map (λ r. end r) rows
unfolding rows form_by_sorting
rows_sorted = refl

-- plans that are not basic, and so have no fixed form: 0+1, 1·2·3 grouped to the left, 0·1 and 1‖2
not_basic : map (basic_words? 4) ((0 ∷ 1 ∷ 64 ∷ []) ∷ (1 ∷ 2 ∷ 65 ∷ 3 ∷ 65 ∷ []) ∷ (0 ∷ 1 ∷ 65 ∷ []) ∷ (1 ∷ 2 ∷ 66 ∷ []) ∷ []) ≡ false ∷ false ∷ false ∷ false ∷ []
unfolding basic_words?
not_basic = refl
