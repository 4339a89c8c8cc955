-- Alike is an equivalence, and every operator of the algebra keeps trees alike; so of terms and plans with alike trees.
use Prim.Native.Nat.{ℕ, suc, zero, ◌+◌, ◌≤◌}
use native.Mathlib.Omega.{arith}
use mathlib.Core.Path.{◌≡◌, ap, subst}
use mathlib.Core.Bool.{Bool}
use mathlib.Core.List.{List}
use mathlib.Core.Option.{some}
use Rattle.tables.specs.Tables.{Tables, actions, communication, below, blocked}
use Rattle.plans.specs.declared.Binary.{Binary}
use Rattle.plans.specs.declared.Binary.TheVariants.{Choice, Sequence, Merge, LeftMerge, CommunicationMerge, Unless}
use Rattle.plans.specs.declared.Unary.{Unary}
use Rattle.plans.specs.declared.Unary.TheVariants.{Priority, Encapsulation}
use Rattle.plans.specs.Term.{Term, un, bin, term_of, and_then}
use Rattle.trees.specs.Tree.{Tree, Rest, Has, Alike, alike, Matched, matched, AlikeRest, both_finish, both_lead}
use Rattle.trees.specs.Operators.{◌⊕◌, ◌⊙◌, height, height_rest, merge_trees, left_trees, communication_trees, encapsulation_tree, unless_tree, priority_tree}
use Rattle.trees.specs.Meaning.{tree, plan_tree, AlikePlans}
use Rattle.trees.proofs.Depth.{AlikeTo, shallow, deep, MatchedTo, matched_to, RestTo, finishes, leads, Within, depth_refl, depth_trans}
use Rattle.trees.proofs.Branches.{choice_cong_to}
use Rattle.trees.proofs.Operators.{height-has}
use Rattle.trees.proofs.Congruence.{Keeps₁, Keeps₂, sequence_cong_to, merge_cong_to, left_cong_to, communication_cong_to, encapsulation_cong_to, unless_cong_to, priority_cong_to}

-- alike trees are alike to every depth
module _ (k : ℕ) (to_k : (s t : Tree) → Alike s t → AlikeTo k s t) where
  rest-to : {n m : Rest} → AlikeRest n m → RestTo k n m
  rest-to both_finish = finishes
  rest-to (both_lead p) = leads (to_k _ _ p)

  match_to : {a : ℕ} {n : Rest} {t : Tree} → Matched a n t → MatchedTo k a n t
  match_to (matched h r) = matched_to h (rest-to r)

pub to_depth : (k : ℕ) (s t : Tree) → Alike s t → AlikeTo k s t
to_depth zero s t p = shallow
to_depth (suc k) s t (alike f g) = deep (λ a n h. match_to k (to_depth k) (f a n h)) (λ a n h. match_to k (to_depth k) (g a n h))

-- trees alike as deep as they go are alike
module _ (j : ℕ) (from_j : (s t : Tree) → height s ≤ j → height t ≤ j → AlikeTo j s t → Alike s t) where
  rest_from : (n m : Rest) → height_rest n ≤ j → height_rest m ≤ j → RestTo j n m → AlikeRest n m
  unfolding height
  rest_from n m h i finishes = both_finish
  rest_from n m h i (leads p) = both_lead (from_j _ _ h i p)

  match_from : (a : ℕ) (n : Rest) (t : Tree) → height_rest n ≤ j → height t ≤ suc j → MatchedTo j a n t → Matched a n t
  match_from a n t h i (matched_to {m = m} l b) = let g = height-has l in matched l (rest_from n m h (omega arith) b)

  within-from : (s t : Tree) → height s ≤ suc j → height t ≤ suc j → Within j s t → (a : ℕ) (n : Rest) → Has a n s → Matched a n t
  within-from s t h i f a n l = let g = height-has l in match_from a n t (omega arith) i (f a n l)

flat : (s t : Tree) → height s ≤ 0 → (a : ℕ) (n : Rest) → Has a n s → Matched a n t
flat s t h a n l = let g = height-has l in absurd (omega arith)

pub from_depth : (j : ℕ) (s t : Tree) → height s ≤ j → height t ≤ j → AlikeTo j s t → Alike s t
from_depth zero s t h i p = alike (flat s t h) (flat t s i)
from_depth (suc j) s t h i (deep f g) = alike (within-from j (from_depth j) s t h i f) (within-from j (from_depth j) t s i h g)

pub at_every_depth : (s t : Tree) → ((k : ℕ) → AlikeTo k s t) → Alike s t
at_every_depth s t p = from_depth (height s + height t) s t (omega arith) (omega arith) (p (height s + height t))

-- an equivalence
pub alike_refl : (s : Tree) → Alike s s
alike_refl s = at_every_depth s s (λ k. depth_refl k s)

pub alike-path : {s t : Tree} → s ≡ t → Alike s t
alike-path {s} e = subst (Alike s) e (alike_refl s)

pub alike_sym : {s t : Tree} → Alike s t → Alike t s
alike_sym (alike f g) = alike g f

pub alike_trans : {s t u : Tree} → Alike s t → Alike t u → Alike s u
alike_trans {s} {t} {u} p q = at_every_depth s u (λ k. depth_trans k s t u (to_depth k s t p) (to_depth k t u q))

-- a congruence for each operator
abbrev pub Congruent₁ : (Tree → Tree) → Type 0
Congruent₁ f = (x x' : Tree) → Alike x x' → Alike (f x) (f x')

abbrev pub Congruent₂ : (Tree → Tree → Tree) → Type 0
Congruent₂ f = (x x' y y' : Tree) → Alike x x' → Alike y y' → Alike (f x y) (f x' y')

by_depth₁ : (f : Tree → Tree) → ((k : ℕ) → Keeps₁ k f) → Congruent₁ f
by_depth₁ f c x x' p = at_every_depth (f x) (f x') (λ k. c k x x' (to_depth k x x' p))

by_depth₂ : (f : Tree → Tree → Tree) → ((k : ℕ) → Keeps₂ k f) → Congruent₂ f
by_depth₂ f c x x' y y' p q = at_every_depth (f x y) (f x' y') (λ k. c k x x' y y' (to_depth k x x' p) (to_depth k y y' q))

pub choice_cong : Congruent₂ ◌⊕◌
choice_cong = by_depth₂ ◌⊕◌ (λ k x x' y y' p q. choice_cong_to k p q)

pub sequence_cong : Congruent₂ ◌⊙◌
sequence_cong = by_depth₂ ◌⊙◌ sequence_cong_to

module _ (γ : ℕ → ℕ → ℕ) where
  pub merge_cong : Congruent₂ (merge_trees γ)
  merge_cong = by_depth₂ (merge_trees γ) (merge_cong_to γ)

  pub left_cong : Congruent₂ (left_trees γ)
  left_cong = by_depth₂ (left_trees γ) (left_cong_to γ)

  pub communication_cong : Congruent₂ (communication_trees γ)
  communication_cong = by_depth₂ (communication_trees γ) (communication_cong_to γ)

pub encapsulation_cong : (blocked : ℕ → Bool) → Congruent₁ (encapsulation_tree blocked)
encapsulation_cong blocked = by_depth₁ (encapsulation_tree blocked) (encapsulation_cong_to blocked)

module _ (lt : ℕ → ℕ → Bool) where
  pub unless_cong : Congruent₂ (unless_tree lt)
  unless_cong = by_depth₂ (unless_tree lt) (unless_cong_to lt)

  pub priority_cong : Congruent₁ (priority_tree lt)
  priority_cong = by_depth₁ (priority_tree lt) (priority_cong_to lt)

-- terms with alike trees
module _ (t : Tables) where
  abbrev pub Like : Term → Term → Type 0
  Like u v = Alike (tree t u) (tree t v)

  pub like_un : (o : Unary) (x x' : Term) → Like x x' → Like (un o x) (un o x')
  unfolding tree
  like_un Priority x x' p = priority_cong (below t) _ _ p
  like_un (Encapsulation h) x x' p = encapsulation_cong (blocked t h) _ _ p

  pub like_bin : (o : Binary) (x x' y y' : Term) → Like x x' → Like y y' → Like (bin o x y) (bin o x' y')
  unfolding tree
  like_bin Choice x x' y y' p q = choice_cong _ _ _ _ p q
  like_bin Sequence x x' y y' p q = sequence_cong _ _ _ _ p q
  like_bin Merge x x' y y' p q = merge_cong (communication t) _ _ _ _ p q
  like_bin LeftMerge x x' y y' p q = left_cong (communication t) _ _ _ _ p q
  like_bin CommunicationMerge x x' y y' p q = communication_cong (communication t) _ _ _ _ p q
  like_bin Unless x x' y y' p q = unless_cong (below t) _ _ _ _ p q

  -- plans that are read as such terms
  read-tree : (w : List ℕ) (u : Term) → term_of (actions t) w ≡ some u → plan_tree t w ≡ some (tree t u)
  unfolding plan_tree
  read-tree w u e = ap (λ o. and_then o (λ u. some (tree t u))) e

  pub alike_plans : (v w : List ℕ) (x y : Term) → term_of (actions t) v ≡ some x → term_of (actions t) w ≡ some y → Like x y → AlikePlans t v w
  alike_plans v w x y e f p = record { first = tree t x; second = tree t y; of_first = read-tree v x e; of_second = read-tree w y f; are_alike = p }
