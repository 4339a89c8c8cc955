-- The operators on trees as `each`, and x‖y with no depth in it.
use Prim.Native.Nat.{ℕ, suc, zero, ◌+◌, ◌<◌}
use native.Mathlib.Omega.{arith}
use mathlib.Core.Path.{◌≡◌, refl, ap, ap₂, sym, ◌∙◌}
use mathlib.Core.Bool.{Bool, cond}
use lib.Dec.{eqb}
use Rattle.trees.specs.Tree.{Tree, stop, branch, Rest, finish, further, Has, here, past}
use Rattle.trees.specs.Operators.{◌⊕◌, one, each, ◌⊙◌, then, height, height_rest, beside, together, left_by, communication_by, merge_to, merge_trees, left_trees, communication_trees, encapsulation_tree, encapsulation_rest, priority_remainders, priority_rest}

-- choice: laws 2, 3, 7 and 8
pub choice_stop : (x : Tree) → x ⊕ stop ≡ x
unfolding ◌⊕◌
choice_stop stop = refl
choice_stop (branch a n r) = ap (branch a n) (choice_stop r)

pub choice_assoc : (x y z : Tree) → (x ⊕ y) ⊕ z ≡ x ⊕ (y ⊕ z)
unfolding ◌⊕◌
choice_assoc stop y z = refl
choice_assoc (branch a n r) y z = ap (branch a n) (choice_assoc r y z)

-- what is made of each branch
pub each_ext : (f g : ℕ → Rest → Tree) (x : Tree) → ((a : ℕ) (n : Rest) → Has a n x → f a n ≡ g a n) → each f x ≡ each g x
unfolding each
each_ext f g stop e = refl
each_ext f g (branch a n r) e = ap₂ ◌⊕◌ (e a n here) (each_ext f g r (λ b m h. e b m (past h)))

pub each_choice : (f : ℕ → Rest → Tree) (x y : Tree) → each f (x ⊕ y) ≡ each f x ⊕ each f y
unfolding each ◌⊕◌
each_choice f stop y = refl
each_choice f (branch a n r) y = ap (λ t. f a n ⊕ t) (each_choice f r y) ∙ sym (choice_assoc (f a n) (each f r) (each f y))

pub each-each : (f g : ℕ → Rest → Tree) (x : Tree) → each f (each g x) ≡ each (λ a n. each f (g a n)) x
unfolding each
each-each f g stop = refl
each-each f g (branch a n r) = each_choice f (g a n) (each g r) ∙ ap (λ t. each f (g a n) ⊕ t) (each-each f g r)

-- the operators that make something of each branch
pub sequence_each : (x y : Tree) → x ⊙ y ≡ each (λ a n. one a (further (then n y))) x
unfolding each ◌⊕◌ ◌⊙◌
sequence_each stop y = refl
sequence_each (branch a n r) y = ap (branch a (further (then n y))) (sequence_each r y)

pub encapsulation-each : (b : ℕ → Bool) (x : Tree) → encapsulation_tree b x ≡ each (λ a n. cond (b a) stop (one a (encapsulation_rest b n))) x
unfolding each encapsulation_tree
encapsulation-each b stop = refl
encapsulation-each b (branch a n r) = ap (λ t. cond (b a) stop (one a (encapsulation_rest b n)) ⊕ t) (encapsulation-each b r)

pub remainders_each : (lt : ℕ → ℕ → Bool) (x : Tree) → priority_remainders lt x ≡ each (λ a n. one a (priority_rest lt n)) x
unfolding each ◌⊕◌ priority_remainders
remainders_each lt stop = refl
remainders_each lt (branch a n r) = ap (branch a (priority_rest lt n)) (remainders_each lt r)

-- merge: a depth above both heights together makes no difference
pub height-has : {a : ℕ} {n : Rest} {x : Tree} → Has a n x → height_rest n < height x
unfolding height
height-has here = omega arith
height-has (past h) = let i = height-has h in omega arith

left_ext : (f g : Tree → Tree → Tree) (x y : Tree) → ((n : Tree) → height n < height x → f n y ≡ g n y) → left_by f x y ≡ left_by g x y
unfolding left_by height
left_ext f g x y e = each_ext _ _ x (λ a n h. ap (λ t. one a (further t)) (inner n (height-has h)))
  where
    inner : (n : Rest) → height_rest n < height x → beside f n y ≡ beside g n y
    inner finish h = refl
    inner (further n) h = e n h

module _ (γ : ℕ → ℕ → ℕ) where
  communication_ext : (f g : Tree → Tree → Tree) (x y : Tree) → ((n m : Tree) → height n < height x → height m < height y → f n m ≡ g n m) → communication_by γ f x y ≡ communication_by γ g x y
  unfolding communication_by height
  communication_ext f g x y e =
      each_ext _ _ x (λ a n h. each_ext _ _ y (λ b m i. ap (λ o. cond (eqb (γ a b) 0) stop (one (γ a b) o)) (inner n m (height-has h) (height-has i))))
    where
      inner : (n m : Rest) → height_rest n < height x → height_rest m < height y → together f n m ≡ together g n m
      inner finish m h i = refl
      inner (further n) finish h i = refl
      inner (further n) (further m) h i = ap further (e n m h i)

  merge_ext : (f g : Tree → Tree → Tree) (x y : Tree) → ((n m : Tree) → height n + height m < height x + height y → f n m ≡ g n m)
      → (left_by f x y ⊕ left_by f y x) ⊕ communication_by γ f x y ≡ (left_by g x y ⊕ left_by g y x) ⊕ communication_by γ g x y
  merge_ext f g x y e =
      ap₂ ◌⊕◌ (ap₂ ◌⊕◌ (left_ext f g x y (λ n l. e n y (omega arith))) (left_ext f g y x (λ n l. e n x (omega arith))))
      (communication_ext f g x y (λ n m l r. e n m (omega arith)))

  merge_same : (j k : ℕ) (x y : Tree) → height x + height y < j → height x + height y < k → merge_to γ j x y ≡ merge_to γ k x y
  unfolding merge_to
  merge_same zero k x y h i = absurd (omega arith)
  merge_same (suc j) zero x y h i = absurd (omega arith)
  merge_same (suc j) (suc k) x y h i =
      merge_ext (merge_to γ j) (merge_to γ k) x y (λ n m l. merge_same j k n m (omega arith) (omega arith))

  -- "x‖y has the branches of x⌊y, y⌊x and x|y" (law 11): as trees, in this order; of a plan's branches it is `merge_branches`
  pub merge-choices : (x y : Tree) → merge_trees γ x y ≡ (left_trees γ x y ⊕ left_trees γ y x) ⊕ communication_trees γ x y
  unfolding merge_trees left_trees communication_trees merge_to
  merge-choices x y =
      merge_ext (merge_to γ (height x + height y)) (merge_trees γ) x y (λ n m l. merge_same (height x + height y) (suc (height n + height m)) n m l (omega arith))
