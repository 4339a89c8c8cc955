-- What the trial trays say of trees: each start plan against the plan that it ends in, case 12, and the wrong ways. One table, computed.
use Prim.Native.Nat.{ℕ}
use mathlib.Core.Path.{◌≡◌, refl}
use mathlib.Core.Bool.{Bool, true, false, not, ◌&&◌, false≢true, and-eq-true_iff}
use mathlib.Core.List.{List, [], ◌∷◌}
use mathlib.Core.Option.{Option, none, some}
use borrow.Author.Tests.{not-true}
use Rattle.tables.specs.Tables.{actions, communication, below, blocked}
use Rattle.trees.specs.Tree.{Tree, Alike}
use Rattle.trees.specs.Operators.{◌⊕◌, ◌⊙◌, merge_trees, left_trees, communication_trees, encapsulation_tree, unless_tree, priority_tree}
use Rattle.trees.specs.Meaning.{plan_tree, AlikePlans}
use Rattle.trees.proofs.Decision.{alike?, alike?_right, not_alike}
use Rattle.trays.specs.Trays.{trial}

infix 5 ◌~◌ ◌≁◌
-- two plans whose trees are alike, or not
data Row : Type 0 where
  ◌~◌ ◌≁◌ : List ℕ → List ℕ → Row

unfoldable rows : List Row
rows =
    -- 1, 9 to 11; merge without x|y is not alike
    (1 ∷ 2 ∷ 66 ∷ [] ~ 1 ∷ 2 ∷ 65 ∷ 2 ∷ 1 ∷ 65 ∷ 64 ∷ 3 ∷ 64 ∷ [])
    ∷ (1 ∷ 2 ∷ 66 ∷ [] ≁ 1 ∷ 2 ∷ 65 ∷ 2 ∷ 1 ∷ 65 ∷ 64 ∷ [])
    -- 2
    ∷ (1 ∷ 2 ∷ 66 ∷ 80 ∷ [] ~ 3 ∷ [])
    -- 3
    ∷ (1 ∷ 4 ∷ 64 ∷ 70 ∷ [] ~ 4 ∷ [])
    -- 4
    ∷ (1 ∷ 2 ∷ 64 ∷ 70 ∷ [] ~ 1 ∷ 2 ∷ 64 ∷ [])
    -- θ at every depth, not at the first action only
    ∷ (2 ∷ 1 ∷ 4 ∷ 64 ∷ 65 ∷ 70 ∷ [] ~ 2 ∷ 4 ∷ 65 ∷ [])
    ∷ (2 ∷ 1 ∷ 4 ∷ 64 ∷ 65 ∷ 70 ∷ [] ≁ 2 ∷ 1 ∷ 4 ∷ 64 ∷ 65 ∷ [])
    -- 5; nothing past y's first action counts
    ∷ (1 ∷ 2 ∷ 4 ∷ 65 ∷ 69 ∷ [] ~ 1 ∷ [])
    ∷ (1 ∷ 2 ∷ 4 ∷ 65 ∷ 69 ∷ [] ≁ 0 ∷ [])
    -- 6; a·δ is neither δ nor a
    ∷ (0 ∷ [] ~ 0 ∷ [])
    ∷ (1 ∷ 0 ∷ 65 ∷ [] ~ 1 ∷ 0 ∷ 65 ∷ [])
    ∷ (1 ∷ 0 ∷ 65 ∷ [] ≁ 0 ∷ [])
    ∷ (1 ∷ 0 ∷ 65 ∷ [] ≁ 1 ∷ [])
    -- 7, 8
    ∷ (0 ∷ 1 ∷ 65 ∷ [] ~ 0 ∷ [])
    ∷ (0 ∷ 0 ∷ 64 ∷ [] ~ 0 ∷ [])
    -- 12
    ∷ (1 ∷ 2 ∷ 3 ∷ 64 ∷ 65 ∷ [] ≁ 1 ∷ 2 ∷ 65 ∷ 1 ∷ 3 ∷ 65 ∷ 64 ∷ [])
    ∷ (1 ∷ 2 ∷ 64 ∷ [] ~ 2 ∷ 1 ∷ 64 ∷ 1 ∷ 64 ∷ [])
    ∷ []

-- both plans are read, and their trees pass the test
abbrev both : (Tree → Tree → Bool) → Option Tree → Option Tree → Bool
both f none y = false
both f (some x) none = false
both f (some x) (some y) = f x y

unfoldable holds? : Row → Bool
holds? (v ~ w) = both (λ x y. alike? x y) (plan_tree trial v) (plan_tree trial w)
holds? (v ≁ w) = both (λ x y. not (alike? x y)) (plan_tree trial v) (plan_tree trial w)

unfoldable hold? : List Row → Bool
unfolding holds?
hold? [] = true
hold? (r ∷ rs) = holds? r && hold? rs

-- the plans are read as trees that are not alike
record UnlikePlans (v w : List ℕ) : Type 0 where
  first : Tree
  second : Tree
  of_first : plan_tree trial v ≡ some first
  of_second : plan_tree trial w ≡ some second
  not_alike : Alike first second → ⊥

abbrev Says : Row → Type 0
Says (v ~ w) = AlikePlans trial v w
Says (v ≁ w) = UnlikePlans v w

abbrev Say : List Row → Type 0
Say [] = Unit
Say (r ∷ rs) = Says r × Say rs

said : (r : Row) → holds? r ≡ true → Says r
unfolding holds?
said (v ~ w) e = pick (plan_tree trial v) (plan_tree trial w) refl refl e
  where
    pick : (m o : Option Tree) → plan_tree trial v ≡ m → plan_tree trial w ≡ o → both (λ x y. alike? x y) m o ≡ true → AlikePlans trial v w
    pick none o h i e = absurd (false≢true e)
    pick (some x) none h i e = absurd (false≢true e)
    pick (some x) (some y) h i e = record { first = x; second = y; of_first = h; of_second = i; are_alike = (alike?_right x y).0 e }
said (v ≁ w) e = pick (plan_tree trial v) (plan_tree trial w) refl refl e
  where
    pick : (m o : Option Tree) → plan_tree trial v ≡ m → plan_tree trial w ≡ o → both (λ x y. not (alike? x y)) m o ≡ true → UnlikePlans v w
    pick none o h i e = absurd (false≢true e)
    pick (some x) none h i e = absurd (false≢true e)
    pick (some x) (some y) h i e = record { first = x; second = y; of_first = h; of_second = i; not_alike = not_alike x y (not-true _ e) }

all_said : (rs : List Row) → hold? rs ≡ true → Say rs
unfolding hold?
all_said [] e = tt
all_said (r ∷ rs) e = (said r ((and-eq-true_iff _ _).0 e).0, all_said rs ((and-eq-true_iff (holds? r) _).0 e).1)

computed : hold? rows ≡ true
unfolding rows hold? holds? alike? plan_tree trial actions communication below blocked merge_trees left_trees communication_trees encapsulation_tree unless_tree priority_tree ◌⊕◌ ◌⊙◌
computed = refl

trays_say : Say rows
trays_say = all_said rows computed
