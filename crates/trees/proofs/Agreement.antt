-- The operators agree with the trial trays of document 01, and none goes one of its wrong ways: by computation, before all other proofs.
use Prim.Native.Nat.{ℕ, ◌*◌}
use mathlib.Core.Path.{◌≡◌, refl}
use mathlib.Core.Bool.{Bool, cond, ◌&&◌}
use lib.Dec.{eqb}
use Rattle.trees.specs.Tree.{Tree, stop, finish, further, here, Alike, alike, Matched, matched}
use Rattle.trees.specs.Operators.{one, ◌⊕◌, ◌⊙◌, merge_trees, encapsulation_tree, unless_tree, priority_tree}

-- as in the trial trays: 1|2 = 2|1 = 3, 1 < 4, and 1 is in the set
abbrev γ : ℕ → ℕ → ℕ
γ a b = cond (eqb (a * b) 2) 3 0

abbrev lt : ℕ → ℕ → Bool
lt a b = eqb a 1 && eqb b 4

abbrev act : ℕ → Tree
act a = one a finish

abbrev before : ℕ → Tree → Tree
before a x = one a (further x)

-- x‖y has the branches of x|y: 1‖2 (case 1)
pub merge_communicates : merge_trees γ (act 1) (act 2) ≡ (before 1 (act 2) ⊕ before 2 (act 1)) ⊕ act 3
unfolding merge_trees ◌⊕◌
merge_communicates = refl

-- ◁ looks at y's first actions alone: 1◁2·4 (case 5)
pub unless-first : unless_tree lt (act 1) (act 2 ⊙ act 4) ≡ act 1
unfolding unless_tree ◌⊕◌ ◌⊙◌
unless-first = refl

-- and changes nothing deeper: 2·1◁4
pub unless_no_deeper : unless_tree lt (act 2 ⊙ act 1) (act 4) ≡ act 2 ⊙ act 1
unfolding unless_tree ◌⊕◌ ◌⊙◌
unless_no_deeper = refl

-- θ drops at the first action, θ(1+4) (case 3), and in each remainder, θ(2(1+4))
pub priority-first : priority_tree lt (act 1 ⊕ act 4) ≡ act 4
unfolding priority_tree ◌⊕◌
priority-first = refl

pub priority_deeper : priority_tree lt (act 2 ⊙ (act 1 ⊕ act 4)) ≡ act 2 ⊙ act 4
unfolding priority_tree ◌⊕◌ ◌⊙◌
priority_deeper = refl

-- ∂ drops at every depth: ∂(2·1)
pub encapsulation_deeper : encapsulation_tree (eqb 1) (act 2 ⊙ act 1) ≡ act 2 ⊙ stop
unfolding encapsulation_tree ◌⊕◌ ◌⊙◌
encapsulation_deeper = refl

-- alike goes both ways: every branch of dead stop is matched in 1
pub both_ways : Alike stop (act 1) → ⊥
both_ways (alike f g) = none (g 1 finish here)
  where
    none : Matched 1 finish stop → ⊥
    none (matched h r) = elim h [ ]
