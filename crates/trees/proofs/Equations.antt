-- The laws as equations of trees, by operator. Laws 1, 4 and 19 change the order or the number of branches, and hold up to alike.
use Prim.Native.Nat.{ℕ, suc, zero}
use mathlib.Core.Path.{◌≡◌, refl, ap, ap₂, sym, ◌∙◌}
use mathlib.Core.Bool.{Bool, true, false, cond, ◌||◌, false≢true}
use lib.Dec.{eqb}
use Rattle.trees.specs.Tree.{Tree, stop, branch, Rest, finish, further, Has, Alike}
use Rattle.trees.specs.Operators.{◌⊕◌, one, each, ◌⊙◌, then, together, merge_trees, left_trees, communication_trees, encapsulation_tree, encapsulation_rest, under, unless_tree, priority_remainders, priority_rest, priority_tree, beside}
use Rattle.trees.proofs.Depth.{AlikeTo, shallow, deep, matched_to, Within, rest_refl, within_refl}
use Rattle.trees.proofs.Branches.{within-left, within-right, choice_within, each_within, has_left, has_right, has-each}
use Rattle.trees.proofs.Operators.{choice_stop, each_ext, each_choice, each-each, sequence_each, encapsulation-each, remainders_each}
use Rattle.trees.proofs.Alike.{at_every_depth, alike-path, alike_trans}

-- choice: 1, 4, and what 19 rests on (2, 3, 7 and 8 are `choice_assoc` and `choice_stop`)
pub choice_comm : (x y : Tree) → Alike (x ⊕ y) (y ⊕ x)
choice_comm x y = at_every_depth _ _ to
  where
    swap : {k : ℕ} (x y : Tree) → Within k (x ⊕ y) (y ⊕ x)
    swap x y = choice_within x (within-right y within_refl) (within-left x within_refl)

    to : (k : ℕ) → AlikeTo k (x ⊕ y) (y ⊕ x)
    to zero = shallow
    to (suc k) = deep (swap x y) (swap y x)

pub choice_same : (x : Tree) → Alike (x ⊕ x) x
choice_same x = at_every_depth _ _ to
  where
    to : (k : ℕ) → AlikeTo k (x ⊕ x) x
    to zero = shallow
    to (suc k) = deep (choice_within x within_refl within_refl) (within-left x within_refl)

each_both : (f g : ℕ → Rest → Tree) (x : Tree) → Alike (each (λ a n. f a n ⊕ g a n) x) (each f x ⊕ each g x)
each_both f g x = at_every_depth _ _ to
  where
    in_each : {k : ℕ} (f : ℕ → Rest → Tree) {a : ℕ} {n : Rest} → Has a n x → Within k (f a n) (each f x)
    in_each f h c m i = matched_to (has-each f h i) rest_refl

    to : (k : ℕ) → AlikeTo k (each (λ a n. f a n ⊕ g a n) x) (each f x ⊕ each g x)
    to zero = shallow
    to (suc k) =
        deep (each_within _ x (λ a n h. choice_within (f a n) (within-left (each g x) (in_each f h)) (within-right (each f x) (in_each g h))))
        (choice_within (each f x)
        (each_within f x (λ a n h c m i. in_each (λ a n. f a n ⊕ g a n) h c m (has_left (g a n) i)))
        (each_within g x (λ a n h c m i. in_each (λ a n. f a n ⊕ g a n) h c m (has_right (f a n) i))))

-- sequence: 5, 6
pub sequence_choice : (x y z : Tree) → (x ⊕ y) ⊙ z ≡ (x ⊙ z) ⊕ (y ⊙ z)
unfolding ◌⊕◌ ◌⊙◌
sequence_choice stop y z = refl
sequence_choice (branch a n r) y z = ap (branch a (further (then n z))) (sequence_choice r y z)

mutual
  unfolding ◌⊙◌

  pub sequence_assoc : (x y z : Tree) → (x ⊙ y) ⊙ z ≡ x ⊙ (y ⊙ z)
  sequence_assoc stop y z = refl
  sequence_assoc (branch a n r) y z = ap₂ (λ u v. branch a (further u) v) (then_assoc n y z) (sequence_assoc r y z)

  then_assoc : (n : Rest) (y z : Tree) → then n y ⊙ z ≡ then n (y ⊙ z)
  then_assoc finish y z = refl
  then_assoc (further n) y z = sequence_assoc n y z

-- the tree of action a, where c says whether a is dead stop
abbrev pub atom : Bool → ℕ → Tree
atom c a = cond c stop (one a finish)

-- 9, and an action before a tree
pub atom_sequence : (c : Bool) (a : ℕ) (x : Tree) → atom c a ⊙ x ≡ cond c stop (one a (further x))
unfolding ◌⊙◌
atom_sequence true a x = refl
atom_sequence false a x = refl

module _ (γ : ℕ → ℕ → ℕ) where
  -- left merge: 12 to 14
  pub left_atom : (c : Bool) (a : ℕ) (x : Tree) → left_trees γ (atom c a) x ≡ atom c a ⊙ x
  unfolding left_trees ◌⊕◌ ◌⊙◌
  left_atom true a x = refl
  left_atom false a x = refl

  pub left-prefix : (c : Bool) (a : ℕ) (x y : Tree) → left_trees γ (atom c a ⊙ x) y ≡ atom c a ⊙ merge_trees γ x y
  unfolding left_trees ◌⊕◌ ◌⊙◌
  left-prefix true a x y = refl
  left-prefix false a x y = refl

  pub left_choice : (x y z : Tree) → left_trees γ (x ⊕ y) z ≡ left_trees γ x z ⊕ left_trees γ y z
  unfolding left_trees
  left_choice x y z = each_choice (λ a n. one a (further (beside (merge_trees γ) n z))) x y

  -- communication merge: 10, 15 to 19
  communication_ones : (a b : ℕ) (n m : Rest) → communication_trees γ (one a n) (one b m) ≡ cond (eqb (γ a b) 0) stop (one (γ a b) (together (merge_trees γ) n m))
  unfolding communication_trees each ◌⊕◌
  communication_ones a b n m = choice_stop _ ∙ choice_stop _

  pub communication_atoms : (c d : Bool) (a b : ℕ) → (c ≡ true → γ a b ≡ 0) → (d ≡ true → γ a b ≡ 0)
      → communication_trees γ (atom c a) (atom d b) ≡ atom (eqb (γ a b) 0) (γ a b)
  unfolding communication_trees each ◌⊕◌
  communication_atoms true d a b h i = rw (h refl) refl
  communication_atoms false true a b h i = rw (i refl) refl
  communication_atoms false false a b h i = communication_ones a b finish finish

  pub communication-prefix : (c d : Bool) (a b : ℕ) (n m : Rest) (w : Tree) → together (merge_trees γ) n m ≡ further w
      → communication_trees γ (cond c stop (one a n)) (cond d stop (one b m)) ≡ communication_trees γ (atom c a) (atom d b) ⊙ w
  unfolding communication_trees each ◌⊕◌ ◌⊙◌
  communication-prefix true d a b n m w e = refl
  communication-prefix false true a b n m w e = refl
  communication-prefix false false a b n m w e =
      communication_ones a b n m ∙ (rw e (sym (atom_sequence (eqb (γ a b) 0) (γ a b) w)) ∙ ap (λ t. t ⊙ w) (sym (communication_ones a b finish finish)))

  pub communication_choice : (x y z : Tree) → communication_trees γ (x ⊕ y) z ≡ communication_trees γ x z ⊕ communication_trees γ y z
  unfolding communication_trees
  communication_choice x y z = each_choice _ x y

  pub communication_choice_right : (x y z : Tree) → Alike (communication_trees γ x (y ⊕ z)) (communication_trees γ x y ⊕ communication_trees γ x z)
  unfolding communication_trees
  communication_choice_right x y z = alike_trans (alike-path (each_ext _ _ x (λ a n h. each_choice _ y z))) (each_both _ _ x)

module _ (b : ℕ → Bool) where
  -- encapsulation: 20 to 23
  pub encapsulation-kept : (c : Bool) (a : ℕ) → b a ≡ false → encapsulation_tree b (atom c a) ≡ atom c a
  unfolding encapsulation_tree ◌⊕◌
  encapsulation-kept true a e = refl
  encapsulation-kept false a e = rw e refl

  pub encapsulation_dropped : (c : Bool) (a : ℕ) → b a ≡ true → encapsulation_tree b (atom c a) ≡ stop
  unfolding encapsulation_tree ◌⊕◌
  encapsulation_dropped true a e = refl
  encapsulation_dropped false a e = rw e refl

  pub encapsulation_choice : (x y : Tree) → encapsulation_tree b (x ⊕ y) ≡ encapsulation_tree b x ⊕ encapsulation_tree b y
  encapsulation_choice x y = rw (encapsulation-each b (x ⊕ y), encapsulation-each b x, encapsulation-each b y) (each_choice _ x y)

  encapsulation-step : (c : Bool) (a : ℕ) (n : Rest) (u y r s : Tree) → u ≡ then n y → s ≡ r ⊙ y
      → cond c stop (one a (further u)) ⊕ s ≡ (cond c stop (one a n) ⊕ r) ⊙ y
  unfolding ◌⊕◌ ◌⊙◌
  encapsulation-step true a n u y r s e f = f
  encapsulation-step false a n u y r s e f = ap₂ (λ p q. branch a (further p) q) e f

  mutual
    unfolding encapsulation_tree ◌⊙◌

    pub encapsulation_sequence : (x y : Tree) → encapsulation_tree b (x ⊙ y) ≡ encapsulation_tree b x ⊙ encapsulation_tree b y
    encapsulation_sequence stop y = refl
    encapsulation_sequence (branch a n r) y = encapsulation-step (b a) a (encapsulation_rest b n) _ (encapsulation_tree b y) (encapsulation_tree b r) _ (encapsulation-then n y) (encapsulation_sequence r y)

    encapsulation-then : (n : Rest) (y : Tree) → encapsulation_tree b (then n y) ≡ then (encapsulation_rest b n) (encapsulation_tree b y)
    encapsulation-then finish y = refl
    encapsulation-then (further n) y = encapsulation_sequence n y

module _ (lt : ℕ → ℕ → Bool) where
  -- the first actions of a sequence and of a choice
  under_sequence : (a : ℕ) (x y : Tree) → under lt a (x ⊙ y) ≡ under lt a x
  unfolding under ◌⊙◌
  under_sequence a stop y = refl
  under_sequence a (branch b n r) y = ap (λ p. lt a b || p) (under_sequence a r y)

  under_choice : (a : ℕ) (x y : Tree) → under lt a (x ⊕ y) ≡ under lt a x || under lt a y
  unfolding under ◌⊕◌
  under_choice a stop y = refl
  under_choice a (branch b n r) y = ap (λ p. lt a b || p) (under_choice a r y) ∙ or_assoc (lt a b) _ _
    where
      or_assoc : (p q r : Bool) → p || (q || r) ≡ p || q || r
      or_assoc true q r = refl
      or_assoc false q r = refl

  -- unless: 24, 25
  pub unless-kept : (c d : Bool) (a b : ℕ) → lt a b ≡ false → unless_tree lt (atom c a) (atom d b) ≡ atom c a
  unfolding unless_tree ◌⊕◌
  unless-kept true d a b e = refl
  unless-kept false true a b e = refl
  unless-kept false false a b e = rw e refl

  pub unless_dropped : (c d : Bool) (a b : ℕ) → lt a b ≡ true → (d ≡ true → lt a b ≡ false) → unless_tree lt (atom c a) (atom d b) ≡ stop
  unfolding unless_tree ◌⊕◌
  unless_dropped true d a b e f = refl
  unless_dropped false true a b e f = absurd (false≢true (sym (f refl) ∙ e))
  unless_dropped false false a b e f = rw e refl

  -- unless: 26 to 29
  unless_by : (x y z : Tree) → ((a : ℕ) → under lt a y ≡ under lt a z) → unless_tree lt x y ≡ unless_tree lt x z
  unfolding unless_tree
  unless_by x y z e = each_ext _ _ x (λ a n h. ap (λ c. cond c stop (one a n)) (e a))

  pub unless_sequence_right : (x y z : Tree) → unless_tree lt x (y ⊙ z) ≡ unless_tree lt x y
  unless_sequence_right x y z = unless_by x (y ⊙ z) y (λ a. under_sequence a y z)

  pub unless_choice_right : (x y z : Tree) → unless_tree lt x (y ⊕ z) ≡ unless_tree lt (unless_tree lt x y) z
  unfolding unless_tree each ◌⊕◌
  unless_choice_right x y z = each_ext _ _ x (λ a n h. rw (under_choice a y z) (twice (under lt a y) a n))
      ∙ sym (each-each (λ a n. cond (under lt a z) stop (one a n)) (λ a n. cond (under lt a y) stop (one a n)) x)
    where
      twice : (c : Bool) (a : ℕ) (n : Rest) → cond (c || under lt a z) stop (one a n) ≡ each (λ a n. cond (under lt a z) stop (one a n)) (cond c stop (one a n))
      twice true a n = refl
      twice false a n = sym (choice_stop _)

  pub unless_sequence : (x y z : Tree) → unless_tree lt (x ⊙ y) z ≡ unless_tree lt x z ⊙ y
  unfolding unless_tree each ◌⊕◌
  unless_sequence x y z = rw (sequence_each x y, sequence_each (unless_tree lt x z) y)
      (each-each (λ a n. cond (under lt a z) stop (one a n)) (λ a n. one a (further (then n y))) x
      ∙ (each_ext _ _ x (λ a n h. turn (under lt a z) a n)
      ∙ sym (each-each (λ a n. one a (further (then n y))) (λ a n. cond (under lt a z) stop (one a n)) x)))
    where
      turn : (c : Bool) (a : ℕ) (n : Rest) → cond c stop (one a (further (then n y))) ⊕ stop ≡ each (λ a n. one a (further (then n y))) (cond c stop (one a n))
      turn true a n = refl
      turn false a n = refl

  pub unless_choice : (x y z : Tree) → unless_tree lt (x ⊕ y) z ≡ unless_tree lt x z ⊕ unless_tree lt y z
  unfolding unless_tree
  unless_choice x y z = each_choice _ x y

  -- priority: 30 to 32
  pub priority_atom : (c : Bool) (a : ℕ) → lt a a ≡ false → priority_tree lt (atom c a) ≡ atom c a
  unfolding priority_tree ◌⊕◌
  priority_atom true a e = refl
  priority_atom false a e = rw e refl

  priority-from : (x y : Tree) → priority_remainders lt (x ⊙ y) ≡ priority_remainders lt x ⊙ priority_tree lt y → priority_tree lt (x ⊙ y) ≡ priority_tree lt x ⊙ priority_tree lt y
  unfolding priority_tree
  priority-from x y e = rw e (unless_sequence_right (priority_remainders lt x ⊙ priority_tree lt y) x y ∙ unless_sequence (priority_remainders lt x) (priority_tree lt y) x)

  mutual
    unfolding ◌⊙◌ priority_remainders priority_tree

    remainders_sequence : (x y : Tree) → priority_remainders lt (x ⊙ y) ≡ priority_remainders lt x ⊙ priority_tree lt y
    remainders_sequence stop y = refl
    remainders_sequence (branch a n r) y = ap₂ (λ u v. branch a (further u) v) (priority-then n y) (remainders_sequence r y)

    priority-then : (n : Rest) (y : Tree) → priority_tree lt (then n y) ≡ then (priority_rest lt n) (priority_tree lt y)
    priority-then finish y = refl
    priority-then (further n) y = priority-from n y (remainders_sequence n y)

  pub priority_sequence : (x y : Tree) → priority_tree lt (x ⊙ y) ≡ priority_tree lt x ⊙ priority_tree lt y
  priority_sequence x y = priority-from x y (remainders_sequence x y)

  pub priority_choice : (x y : Tree) → priority_tree lt (x ⊕ y) ≡ unless_tree lt (priority_tree lt x) y ⊕ unless_tree lt (priority_tree lt y) x
  unfolding priority_tree
  priority_choice x y =
      rw (remainders_each lt (x ⊕ y), each_choice _ x y, ← remainders_each lt x, ← remainders_each lt y)
      (unless_choice (priority_remainders lt x) (priority_remainders lt y) (x ⊕ y)
      ∙ ap₂ ◌⊕◌ (unless_choice_right (priority_remainders lt x) x y) (unless_by (priority_remainders lt y) (x ⊕ y) (y ⊕ x) turn ∙ unless_choice_right (priority_remainders lt y) y x))
    where
      or_comm : (p q : Bool) → p || q ≡ q || p
      or_comm true true = refl
      or_comm true false = refl
      or_comm false true = refl
      or_comm false false = refl

      turn : (a : ℕ) → under lt a (x ⊕ y) ≡ under lt a (y ⊕ x)
      turn a = under_choice a x y ∙ (or_comm (under lt a x) (under lt a y) ∙ sym (under_choice a y x))
