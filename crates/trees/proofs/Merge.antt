-- The branches of x+y and of x‖y, as document 01 says them, of the trees of plans. (So nobody need believe the depth in `merge_to`.)
use Prim.Native.Nat.{ℕ}
use mathlib.Core.Logic.{◌↔◌, ◌⊎◌, inl, inr}
use Rattle.tables.specs.Tables.{Tables, communication}
use Rattle.plans.specs.declared.Binary.TheVariants.{Choice, Merge, LeftMerge, CommunicationMerge}
use Rattle.plans.specs.Term.{Term, bin}
use Rattle.trees.specs.Tree.{Tree, stop, branch, Rest, Has, here, past}
use Rattle.trees.specs.Operators.{◌⊕◌}
use Rattle.trees.specs.Meaning.{tree}
use Rattle.trees.proofs.Branches.{has_left, has_right}
use Rattle.trees.proofs.Operators.{merge-choices}

of_both : {a : ℕ} {n : Rest} (x y : Tree) → Has a n (x ⊕ y) → Has a n x ⊎ Has a n y
unfolding ◌⊕◌
of_both stop y h = inr h
of_both (branch b m r) y here = inl here
of_both (branch b m r) y (past h) = later (of_both r y h)
  where
    later : {a : ℕ} {n : Rest} → Has a n r ⊎ Has a n y → Has a n (branch b m r) ⊎ Has a n y
    later (inl i) = inl (past i)
    later (inr i) = inr i

has_choice : {a : ℕ} {n : Rest} (x y : Tree) → Has a n (x ⊕ y) ↔ (Has a n x ⊎ Has a n y)
has_choice x y = (of_both x y, elim [ inl h ↦ has_left y h | inr h ↦ has_right x h ])

has_three : {a : ℕ} {n : Rest} (x y z : Tree) → Has a n ((x ⊕ y) ⊕ z) ↔ ((Has a n x ⊎ Has a n y) ⊎ Has a n z)
has_three {a} {n} x y z = (λ h. to (of_both (x ⊕ y) z h), from)
  where
    to : Has a n (x ⊕ y) ⊎ Has a n z → (Has a n x ⊎ Has a n y) ⊎ Has a n z
    to (inl h) = inl (of_both x y h)
    to (inr h) = inr h

    from : (Has a n x ⊎ Has a n y) ⊎ Has a n z → Has a n ((x ⊕ y) ⊕ z)
    from (inl h) = has_left z ((has_choice x y).1 h)
    from (inr h) = has_right (x ⊕ y) h

module _ (t : Tables) (x y : Term) (a : ℕ) (n : Rest) where
  -- a branch of a plan's tree, with action a, that leaves n
  abbrev Can : Term → Type 0
  Can u = Has a n (tree t u)

  -- "x+y has those of both"
  pub choice_branches : Can (bin Choice x y) ↔ (Can x ⊎ Can y)
  unfolding tree
  choice_branches = has_choice (tree t x) (tree t y)

  -- "x‖y has the branches of x⌊y, y⌊x and x|y"
  pub merge_branches : Can (bin Merge x y) ↔ ((Can (bin LeftMerge x y) ⊎ Can (bin LeftMerge y x)) ⊎ Can (bin CommunicationMerge x y))
  unfolding tree
  merge_branches = rw (merge-choices (communication t) (tree t x) (tree t y)) (has_three _ _ _)
