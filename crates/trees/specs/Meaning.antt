-- The tree of a plan, from its words and the tables. (01, "Trees".)
use Rattle.std.specs.Prelude.{ℕ, cond, ◌≡◌, List, eqb}
use Rattle.std.proofs.Math.Option.{Option, some}
use Rattle.tables.specs.Tables.{Tables, actions, communication, below, blocked}
use Rattle.plans.specs.declared.Binary.{Binary}
use Rattle.plans.specs.declared.Binary.TheVariants.{Choice, Sequence, Merge, LeftMerge, CommunicationMerge, Unless}
use Rattle.plans.specs.declared.Unary.{Unary}
use Rattle.plans.specs.declared.Unary.TheVariants.{Priority, Encapsulation}
use Rattle.plans.specs.Term.{Term, act, un, bin, term_of, and_then}
use Rattle.trees.specs.Tree.{Tree, stop, finish, Alike}
use Rattle.trees.specs.Operators.{one, ◌⊕◌, ◌⊙◌, merge_trees, left_trees, communication_trees, encapsulation_tree, unless_tree, priority_tree}

unfoldable pub binary_tree : Tables → Binary → Tree → Tree → Tree
binary_tree t Choice x y = x ⊕ y
binary_tree t Sequence x y = x ⊙ y
binary_tree t Merge x y = merge_trees (communication t) x y
binary_tree t LeftMerge x y = left_trees (communication t) x y
binary_tree t CommunicationMerge x y = communication_trees (communication t) x y
binary_tree t Unless x y = unless_tree (below t) x y

unfoldable pub unary_tree : Tables → Unary → Tree → Tree
unary_tree t Priority x = priority_tree (below t) x
unary_tree t (Encapsulation h) x = encapsulation_tree (blocked t h) x

-- "δ has no branches; another action has one, finishing."
unfoldable pub tree : Tables → Term → Tree
unfolding binary_tree unary_tree
tree t (act a) = cond (eqb a 0) stop (one a finish)
tree t (un o x) = unary_tree t o (tree t x)
tree t (bin o x y) = binary_tree t o (tree t x) (tree t y)

-- "Its trees come from a plan's words and the tables handed in"
unfoldable pub plan_tree : Tables → List ℕ → Option Tree
unfolding tree term_of
plan_tree t ws = and_then (term_of (actions t) ws) (λ u. some (tree t u))

-- the trees of two plans are alike
pub record AlikePlans (t : Tables) (v w : List ℕ) : Type 0 where
  pub first : Tree
  pub second : Tree
  pub of_first : plan_tree t v ≡ some first
  pub of_second : plan_tree t w ≡ some second
  pub are_alike : Alike first second
