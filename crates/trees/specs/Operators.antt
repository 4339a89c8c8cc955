-- The operators of the algebra on trees. (01, "Trees".)
use Prim.Native.Nat.{ℕ, suc, zero, max, ◌+◌}
use Rattle.std.specs.Prelude.{Bool, false, ◌||◌, eqb}
use Rattle.std.proofs.Math.Bool.{cond}
use Rattle.trees.specs.Tree.{Tree, stop, branch, Rest, finish, further}

infixr 30 ◌⊕◌
-- "x+y has those of both"
unfoldable pub ◌⊕◌ : Tree → Tree → Tree
stop ⊕ t = t
branch a n r ⊕ t = branch a n (r ⊕ t)

-- one branch
abbrev pub one : ℕ → Rest → Tree
one a n = branch a n stop

-- the branches of f a n, for each branch of a tree, with action a, that leaves n
unfoldable pub each : (ℕ → Rest → Tree) → Tree → Tree
unfolding ◌⊕◌
each f stop = stop
each f (branch a n r) = f a n ⊕ each f r

infixr 35 ◌⊙◌
-- "x·y: each branch of x, a finish becoming y, a further x' becoming x'·y"
unfoldable mutual
  pub ◌⊙◌ : Tree → Tree → Tree
  stop ⊙ y = stop
  branch a n r ⊙ y = branch a (further (then n y)) (r ⊙ y)

  pub then : Rest → Tree → Tree
  then finish y = y
  then (further n) y = n ⊙ y

-- how many actions deep a tree goes
unfoldable mutual
  pub height : Tree → ℕ
  height stop = 0
  height (branch a n r) = max (suc (height_rest n)) (height r)

  pub height_rest : Rest → ℕ
  height_rest finish = 0
  height_rest (further n) = height n

-- "x⌊y: the same with x'‖y": what is left after a branch of x, where f merges
unfoldable pub beside : (Tree → Tree → Tree) → Rest → Tree → Tree
beside f finish y = y
beside f (further n) y = f n y

unfoldable pub left_by : (Tree → Tree → Tree) → Tree → Tree → Tree
unfolding each beside
left_by f x y = each (λ a n. one a (further (beside f n y))) x

-- "if both finish it finishes; if one does, the other's remainder follows; else the merge of both remainders", where f merges
unfoldable pub together : (Tree → Tree → Tree) → Rest → Rest → Rest
together f finish m = m
together f (further n) finish = further n
together f (further n) (further m) = further (f n m)

module _ (γ : ℕ → ℕ → ℕ) where
  -- "x|y: for each pair of branches a of x, b of y with c = a|b not δ, a branch c", where f merges
  unfoldable pub communication_by : (Tree → Tree → Tree) → Tree → Tree → Tree
  unfolding each together
  communication_by f x y = each (λ a n. each (λ b m. cond (eqb (γ a b) 0) stop (one (γ a b) (together f n m))) y) x

  -- "x‖y has the branches of x⌊y, y⌊x and x|y", k actions deep
  unfoldable pub merge_to : ℕ → Tree → Tree → Tree
  unfolding left_by communication_by ◌⊕◌
  merge_to zero x y = stop
  merge_to (suc k) x y = (left_by (merge_to k) x y ⊕ left_by (merge_to k) y x) ⊕ communication_by (merge_to k) x y

  -- x‖y. Each action of the merge takes one from x, from y or from both, so no path of it is longer than both heights together, and
  -- depth 0 is never reached. Nobody need believe this, `height` and `merge_to`: the branches of x‖y are as quoted (proofs Merge `merge_branches`).
  unfoldable pub merge_trees : Tree → Tree → Tree
  unfolding merge_to height
  merge_trees x y = merge_to (suc (height x + height y)) x y

  -- x⌊y
  unfoldable pub left_trees : Tree → Tree → Tree
  unfolding merge_trees left_by
  left_trees x y = left_by merge_trees x y

  -- x|y
  unfoldable pub communication_trees : Tree → Tree → Tree
  unfolding merge_trees communication_by
  communication_trees x y = communication_by merge_trees x y

-- "∂ drops branches whose action is in the set, at every depth"
unfoldable mutual
  unfolding ◌⊕◌

  pub encapsulation_tree : (ℕ → Bool) → Tree → Tree
  encapsulation_tree blocked stop = stop
  encapsulation_tree blocked (branch a n r) = cond (blocked a) stop (one a (encapsulation_rest blocked n)) ⊕ encapsulation_tree blocked r

  pub encapsulation_rest : (ℕ → Bool) → Rest → Rest
  encapsulation_rest blocked finish = finish
  encapsulation_rest blocked (further n) = further (encapsulation_tree blocked n)

-- an action is below some first action of a tree
unfoldable pub under : (ℕ → ℕ → Bool) → ℕ → Tree → Bool
under lt a stop = false
under lt a (branch b n r) = lt a b || under lt a r

-- "x◁y drops the branches of x whose action is below some first action of y, and changes nothing deeper"
unfoldable pub unless_tree : (ℕ → ℕ → Bool) → Tree → Tree → Tree
unfolding under each
unless_tree lt x y = each (λ a n. cond (under lt a y) stop (one a n)) x

-- "θ(x) drops branches whose action is below another first action of x, and applies θ to each remainder". (No action is below itself.)
unfoldable mutual
  unfolding unless_tree

  pub priority_remainders : (ℕ → ℕ → Bool) → Tree → Tree
  priority_remainders lt stop = stop
  priority_remainders lt (branch a n r) = branch a (priority_rest lt n) (priority_remainders lt r)

  pub priority_rest : (ℕ → ℕ → Bool) → Rest → Rest
  priority_rest lt finish = finish
  priority_rest lt (further n) = further (unless_tree lt (priority_remainders lt n) n)

unfoldable pub priority_tree : (ℕ → ℕ → Bool) → Tree → Tree
unfolding priority_remainders unless_tree
priority_tree lt x = unless_tree lt (priority_remainders lt x) x
