-- Subplans and their places. (01, "Plans": "The place of a subplan is the index, from 0, of its last word.")
use Rattle.std.specs.Prelude.{ℕ, suc, ◌-◌, cond, List, [], ◌∷◌, ◌++◌, length, take, drop, ltb}
use Rattle.std.proofs.Math.Option.{Option, none, some}
use Rattle.plans.specs.Term.{Term, words, and_then, read}

abbrev pub top : List Term → Option Term
top [] = none
top (t ∷ s) = some t

-- the subplan whose last word stands at place p; none where p is past the end
unfoldable pub subterm : ℕ → List ℕ → ℕ → Option Term
unfolding read
subterm n ws p = cond (ltb p (length ws)) (and_then (read n (take (suc p) ws) []) top) none

-- the plan with the subplan at place p, of so many words, replaced by the words v
abbrev pub put : List ℕ → ℕ → ℕ → List ℕ → List ℕ
put ws p size v = take (suc p - size) ws ++ (v ++ drop (suc p) ws)

-- the plan with the subplan at place p, which is t, replaced by u
unfoldable pub replace : List ℕ → ℕ → Term → Term → List ℕ
unfolding words
replace ws p t u = put ws p (length (words t)) (words u)

-- the words from place a up to place b
abbrev pub part : ℕ → ℕ → List ℕ → List ℕ
part a b plan = take (b - a) (drop a plan)
