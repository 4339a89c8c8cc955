-- Trees alike to a depth give trees alike to that depth, under every operator.
use Prim.Native.Nat.{ℕ, suc, zero}
use mathlib.Core.Path.{◌≡◌, refl, ap, sym}
use mathlib.Core.Bool.{Bool, true, false, cond, ◌||◌, false≢true}
use mathlib.Core.Logic.{◌⊎◌, inl, inr}
use lib.Dec.{eqb}
use Rattle.trees.specs.Tree.{Tree, stop, branch, Rest, finish, further, Has, here, past}
use Rattle.trees.specs.Operators.{◌⊙◌, then, beside, together, left_by, communication_by, merge_trees, left_trees, communication_trees, encapsulation_tree, encapsulation_rest, under, unless_tree, priority_remainders, priority_rest, priority_tree, one}
use Rattle.trees.proofs.Depth.{AlikeTo, shallow, deep, MatchedTo, matched_to, RestTo, finishes, leads, Within, depth_refl, depth_less}
use Rattle.trees.proofs.Branches.{choice_cong_to, one_cong_to, each_cong_to}
use Rattle.trees.proofs.Operators.{sequence_each, encapsulation-each, remainders_each, merge-choices}

-- an operator keeps trees alike to depth k
abbrev pub Keeps₁ : ℕ → (Tree → Tree) → Type 0
Keeps₁ k f = (x x' : Tree) → AlikeTo k x x' → AlikeTo k (f x) (f x')

abbrev pub Keeps₂ : ℕ → (Tree → Tree → Tree) → Type 0
Keeps₂ k f = (x x' y y' : Tree) → AlikeTo k x x' → AlikeTo k y y' → AlikeTo k (f x y) (f x' y')

cond_cong_to : {k : ℕ} (c : Bool) {x x' : Tree} → AlikeTo k x x' → AlikeTo k (cond c stop x) (cond c stop x')
cond_cong_to true p = depth_refl _ stop
cond_cong_to false p = p

-- what is made of remainders, by whether they finish
rest_case : {k : ℕ} (F G : Rest → Rest) → RestTo k (F finish) (G finish) → ((n m : Tree) → AlikeTo k n m → RestTo k (F (further n)) (G (further m))) → {n m : Rest} → RestTo k n m → RestTo k (F n) (G m)
rest_case F G d c finishes = d
rest_case F G d c (leads p) = c _ _ p

-- sequence
pub sequence_cong_to : (k : ℕ) → Keeps₂ k ◌⊙◌
unfolding then
sequence_cong_to zero x x' y y' p q = shallow
sequence_cong_to (suc k) x x' y y' p q =
    let l = depth_less k y y' q in
    rw (sequence_each x y, sequence_each x' y')
    (each_cong_to (λ a n m b. one_cong_to (rest_case (λ n. further (then n y)) (λ m. further (then m y')) (leads l) (λ n m r. leads (sequence_cong_to k n m y y' r l)) b)) p)

-- left merge, communication merge and merge
left_by_cong_to : (k : ℕ) (f : Tree → Tree → Tree) → Keeps₂ k f → Keeps₂ (suc k) (left_by f)
unfolding left_by
left_by_cong_to k f c x x' y y' p q =
    let l = depth_less k y y' q in
    each_cong_to {f = λ a n. one a (further (beside f n y))} {g = λ a n. one a (further (beside f n y'))} (λ a n m b. one_cong_to {a = a} (rest_case (λ n. further (beside f n y)) (λ m. further (beside f m y')) (leads l) (λ n m r. leads (c n m y y' r l)) b)) p

module _ (γ : ℕ → ℕ → ℕ) where
  communication_by_cong_to : (k : ℕ) (f : Tree → Tree → Tree) → Keeps₂ k f → Keeps₂ (suc k) (communication_by γ f)
  unfolding communication_by
  communication_by_cong_to k f c x x' y y' p q =
      each_cong_to (λ a n m b. each_cong_to (λ a' n' m' b'. cond_cong_to (eqb (γ a a') 0) (one_cong_to (rest n m n' m' b b'))) q) p
    where
      rest : (n m n' m' : Rest) → RestTo k n m → RestTo k n' m' → RestTo k (together f n n') (together f m m')
      rest n m n' m' finishes r = r
      rest n m n' m' (leads r) finishes = leads r
      rest n m n' m' (leads r) (leads s) = leads (c _ _ _ _ r s)

  pub merge_cong_to : (k : ℕ) → Keeps₂ k (merge_trees γ)
  unfolding left_trees communication_trees
  merge_cong_to zero x x' y y' p q = shallow
  merge_cong_to (suc k) x x' y y' p q =
      let c = merge_cong_to k in
      rw (merge-choices γ x y, merge-choices γ x' y')
      (choice_cong_to (suc k) (choice_cong_to (suc k) (left_by_cong_to k (merge_trees γ) c x x' y y' p q) (left_by_cong_to k (merge_trees γ) c y y' x x' q p))
      (communication_by_cong_to k (merge_trees γ) c x x' y y' p q))

  pub left_cong_to : (k : ℕ) → Keeps₂ k (left_trees γ)
  unfolding left_trees
  left_cong_to zero = λ x x' y y' p q. shallow
  left_cong_to (suc k) = left_by_cong_to k (merge_trees γ) (merge_cong_to k)

  pub communication_cong_to : (k : ℕ) → Keeps₂ k (communication_trees γ)
  unfolding communication_trees
  communication_cong_to zero = λ x x' y y' p q. shallow
  communication_cong_to (suc k) = communication_by_cong_to k (merge_trees γ) (merge_cong_to k)

-- encapsulation
pub encapsulation_cong_to : (b : ℕ → Bool) (k : ℕ) → Keeps₁ k (encapsulation_tree b)
unfolding encapsulation_rest
encapsulation_cong_to b zero x x' p = shallow
encapsulation_cong_to b (suc k) x x' p =
    rw (encapsulation-each b x, encapsulation-each b x')
    (each_cong_to (λ a n m c. cond_cong_to (b a) (one_cong_to (rest_case (encapsulation_rest b) (encapsulation_rest b) finishes (λ n m r. leads (encapsulation_cong_to b k n m r)) c))) p)

-- unless and priority: alike trees have the same first actions
or_true : (p q : Bool) → p || q ≡ true → (p ≡ true) ⊎ (q ≡ true)
or_true true q e = inl refl
or_true false q e = inr e

pub or_right : (p q : Bool) → q ≡ true → p || q ≡ true
or_right true q e = refl
or_right false q e = e

same_truth : (p q : Bool) → (p ≡ true → q ≡ true) → (q ≡ true → p ≡ true) → p ≡ q
same_truth true q f g = sym (f refl)
same_truth false true f g = g refl
same_truth false false f g = refl

module _ (lt : ℕ → ℕ → Bool) where
  has-under : {a b : ℕ} {n : Rest} {y : Tree} → lt a b ≡ true → Has b n y → under lt a y ≡ true
  unfolding under
  has-under {a} e (here {t = r}) = ap (λ p. p || under lt a r) e
  has-under {a} e (past {b = c} {t = r} h) = or_right (lt a c) _ (has-under e h)

  within-under : {k : ℕ} (a : ℕ) (y z : Tree) → Within k y z → under lt a y ≡ true → under lt a z ≡ true
  unfolding under
  within-under a stop z w e = absurd (false≢true e)
  within-under {k} a (branch b n r) z w e = pick (or_true (lt a b) (under lt a r) e) (within-under a r z (λ c m h. w c m (past h)))
    where
      seen : lt a b ≡ true → MatchedTo k b n z → under lt a z ≡ true
      seen i (matched_to h c) = has-under i h

      pick : (lt a b ≡ true) ⊎ (under lt a r ≡ true) → (under lt a r ≡ true → under lt a z ≡ true) → under lt a z ≡ true
      pick (inl i) f = seen i (w b n here)
      pick (inr i) f = f i

  under_cong_to : {k : ℕ} (a : ℕ) (y z : Tree) → AlikeTo (suc k) y z → under lt a y ≡ under lt a z
  under_cong_to a y z (deep w w') = same_truth _ _ (within-under a y z w) (within-under a z y w')

  pub unless_cong_to : (k : ℕ) → Keeps₂ k (unless_tree lt)
  unfolding unless_tree
  unless_cong_to zero x x' y y' p q = shallow
  unless_cong_to (suc k) x x' y y' p q = each_cong_to (λ a n m b. rw (under_cong_to a y y' q) (cond_cong_to (under lt a y') (one_cong_to b))) p

  pub priority_cong_to : (k : ℕ) → Keeps₁ k (priority_tree lt)
  unfolding priority_tree priority_rest
  priority_cong_to zero x x' p = shallow
  priority_cong_to (suc k) x x' p = unless_cong_to (suc k) (priority_remainders lt x) (priority_remainders lt x') x x'
      (rw (remainders_each lt x, remainders_each lt x')
      (each_cong_to {f = λ a n. one a (priority_rest lt n)} {g = λ a n. one a (priority_rest lt n)} (λ a n m b. one_cong_to {a = a} (rest_case (priority_rest lt) (priority_rest lt) finishes (λ n m r. leads (priority_cong_to k n m r)) b)) p)) p
