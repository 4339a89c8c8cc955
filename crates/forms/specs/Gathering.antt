-- Nobody need believe this: the shape of the code. The fixed form of a basic plan's words, computed from the first word to the last. (Request 107.)
use Rattle.std.specs.Prelude.{ℕ, cond, List, [], ◌∷◌, ◌++◌, eqb}
use Rattle.forms.specs.Form.{before?}
use Rattle.forms.specs.Sorting.{sort, once}

-- A part is the summands of a finished subplan, each as its words.

-- summands behind another one, each with its sign: `r 64 q 64 …`
unfoldable pub joined : List (List ℕ) → List ℕ
joined [] = []
joined (s ∷ ss) = s ++ (64 ∷ joined ss)

-- the words of a part in form: its summands grouped to the left, `s r 64 q 64 …`
unfoldable pub join : List (List ℕ) → List ℕ
unfolding joined
join [] = 0 ∷ []
join (s ∷ ss) = s ++ joined ss

-- a part put in order, equal summands once
unfoldable pub sorted : List (List ℕ) → List (List ℕ)
unfolding sort once before?
sorted part = once before? (sort before? part)

-- words put behind the last summand of a part
unfoldable pub extend : List (List ℕ) → List ℕ → List (List ℕ)
extend [] v = []
extend (s ∷ []) v = (s ++ v) ∷ []
extend (s ∷ (r ∷ rs)) v = s ∷ extend (r ∷ rs) v

-- The parts that wait for an operator stand on a stack, the last first. 64 puts the summands of two parts side by side.
unfoldable pub sum_top : List (List (List ℕ)) → List (List (List ℕ))
sum_top [] = []
sum_top (y ∷ []) = y ∷ []
sum_top (y ∷ (x ∷ parts)) = (x ++ y) ∷ parts

-- 65 puts the last part, its summands sorted, behind the last summand of the part before it: in a basic plan, behind its action
unfoldable pub product_top : List (List (List ℕ)) → List (List (List ℕ))
unfolding join sorted extend
product_top [] = []
product_top (y ∷ []) = y ∷ []
product_top (y ∷ (x ∷ parts)) = extend x (join (sorted y) ++ (65 ∷ [])) ∷ parts

-- one word read; any other word is an action
unfoldable pub take_word : ℕ → List (List (List ℕ)) → List (List (List ℕ))
unfolding sum_top product_top
take_word w parts = cond (eqb w 64) (sum_top parts) (cond (eqb w 65) (product_top parts) (((w ∷ []) ∷ []) ∷ parts))

unfoldable pub gather : List ℕ → List (List (List ℕ)) → List (List (List ℕ))
unfolding take_word
gather [] parts = parts
gather (w ∷ ws) parts = gather ws (take_word w parts)

-- the words of the one part that is left
unfoldable pub spell_top : List (List (List ℕ)) → List ℕ
unfolding join sorted
spell_top [] = []
spell_top (y ∷ parts) = join (sorted y)

-- the form of a basic plan's words
unfoldable pub form_by_sorting : List ℕ → List ℕ
unfolding gather spell_top
form_by_sorting ws = spell_top (gather ws [])
