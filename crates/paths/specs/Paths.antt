-- Paths of trees: which actions, one after another, a tree can do. (Request 102: "some path of the tree begins with the messages".)
use Rattle.std.specs.Prelude.{ℕ, List, [], ◌∷◌, ◌++◌, ◌⊎◌}
use Rattle.trees.specs.Tree.{Tree, stop, Rest, finish, further, Has}

-- a list of actions leads from what is left of a tree to what is left then, branch by branch
pub data Leads : Rest → List ℕ → Rest → Type 0 where
  stay : {n : Rest} → Leads n [] n
  go : {a : ℕ} {ms : List ℕ} {t : Tree} {n m : Rest} → Has a n t → Leads n ms m → Leads (further t) (a ∷ ms) m

-- some path is exactly these actions and ends in a finish
abbrev pub Finishes : Tree → List ℕ → Type 0
Finishes t ms = Leads (further t) ms finish

-- some path is exactly these actions and ends in a dead stop
abbrev pub Sticks : Tree → List ℕ → Type 0
Sticks t ms = Leads (further t) ms (further stop)

-- a whole path ends in a finish or in a dead stop
abbrev pub Whole : Tree → List ℕ → Type 0
Whole t ms = Finishes t ms ⊎ Sticks t ms

-- some path of the tree begins with these actions: they go on to a whole one
abbrev pub Begins : Tree → List ℕ → Type 0
Begins t ms = (ks : List ℕ) × Whole t (ms ++ ks)
