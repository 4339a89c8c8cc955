-- The least place at which one action overtakes another. (Request 105.)
use Rattle.std.specs.Prelude.{ℕ, zero, suc, Bool, false, cond, not, ◌&&◌, ◌||◌, List, [], ◌∷◌, length, get_or, eqb}
use Rattle.std.proofs.Math.Option.{Option, none, some}
use Rattle.plans.specs.Term.{Term, term_of}
use Rattle.paths.specs.Appearances.{actions_before}

-- an action is one of a list
unfoldable pub among? : ℕ → List ℕ → Bool
among? a [] = false
among? a (m ∷ ms) = eqb m a || among? a ms

-- the least of k places from i on at which a test holds
unfoldable pub least : (ℕ → Bool) → ℕ → ℕ → Option ℕ
least f i zero = none
least f i (suc k) = cond (f i) (some i) (least f (suc i) k)

-- "an appearance that has none before it on its path": the word at place p is the second action, and the first is not among those before it
unfoldable pub overtakes? : List ℕ → Term → ℕ → ℕ → ℕ → Bool
overtakes? plan u first second p = eqb (get_or plan p 0) second && not (among? first (actions_before 0 u p))

-- "the least such place", of the term that the plan's words make; none where there is none
abbrev pub term_overtaking : Option Term → List ℕ → ℕ → ℕ → Option ℕ
term_overtaking none plan first second = none
term_overtaking (some u) plan first second = least (overtakes? plan u first second) 0 (length plan)

-- "the place of an appearance that has none before it on its path, the least such place"
unfoldable pub overtaking : ℕ → List ℕ → ℕ → ℕ → Option ℕ
overtaking n plan first second = term_overtaking (term_of n plan) plan first second
