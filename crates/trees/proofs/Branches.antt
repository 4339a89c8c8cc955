-- The branches of a choice and of `each`, and when they are matched, down to a depth.
use Prim.Native.Nat.{ℕ, suc, zero}
use Rattle.trees.specs.Tree.{Tree, stop, branch, Rest, Has, here, past}
use Rattle.trees.specs.Operators.{◌⊕◌, one, each}
use Rattle.trees.proofs.Depth.{AlikeTo, shallow, deep, MatchedTo, matched_to, RestTo, Within, within_of, depth_sym, rest_sym}

-- which branches there are
pub has_left : {a : ℕ} {n : Rest} {x : Tree} (y : Tree) → Has a n x → Has a n (x ⊕ y)
unfolding ◌⊕◌
has_left y here = here
has_left y (past h) = past (has_left y h)

pub has_right : {a : ℕ} {n : Rest} (x : Tree) {y : Tree} → Has a n y → Has a n (x ⊕ y)
unfolding ◌⊕◌
has_right stop h = h
has_right (branch b m r) h = past (has_right r h)

pub has-each : {a b : ℕ} {n m : Rest} {x : Tree} (f : ℕ → Rest → Tree) → Has a n x → Has b m (f a n) → Has b m (each f x)
unfolding each
has-each f (here {t = r}) i = has_left (each f r) i
has-each f (past {b = c} {m = l} h) i = has_right (f c l) (has-each f h i)

matched_in : {k a : ℕ} {n : Rest} {t u : Tree} → ((m : Rest) → Has a m t → Has a m u) → MatchedTo k a n t → MatchedTo k a n u
matched_in f (matched_to {m = m} h b) = matched_to (f m h) b

-- when all are matched
pub choice_within : {k : ℕ} (x : Tree) {y z : Tree} → Within k x z → Within k y z → Within k (x ⊕ y) z
unfolding ◌⊕◌
choice_within stop f g a n h = g a n h
choice_within (branch b m r) f g a n here = f a n here
choice_within (branch b m r) f g a n (past h) = choice_within r (λ c l i. f c l (past i)) g a n h

pub each_within : {k : ℕ} (f : ℕ → Rest → Tree) (x : Tree) {z : Tree} → ((a : ℕ) (n : Rest) → Has a n x → Within k (f a n) z) → Within k (each f x) z
unfolding each
each_within f stop w = λ a n h. elim h [ ]
each_within f (branch b m r) w = choice_within (f b m) (w b m here) (each_within f r (λ a n h. w a n (past h)))

pub within-left : {k : ℕ} {x y : Tree} (z : Tree) → Within k x y → Within k x (y ⊕ z)
within-left z w a n h = matched_in (λ m. has_left z) (w a n h)

pub within-right : {k : ℕ} {x : Tree} (y : Tree) {z : Tree} → Within k x z → Within k x (y ⊕ z)
within-right y w a n h = matched_in (λ m. has_right y) (w a n h)

-- congruence of choice, of one branch and of `each`
pub choice_cong_to : (k : ℕ) {x x' y y' : Tree} → AlikeTo k x x' → AlikeTo k y y' → AlikeTo k (x ⊕ y) (x' ⊕ y')
choice_cong_to zero p q = shallow
choice_cong_to (suc k) {x} {x'} {y} {y'} (deep f f') (deep g g') =
    deep (choice_within x (within-left y' f) (within-right x' g)) (choice_within x' (within-left y f') (within-right x g'))

pub one_cong_to : {k a : ℕ} {n m : Rest} → RestTo k n m → AlikeTo (suc k) (one a n) (one a m)
one_cong_to {k} b = deep (only b) (only (rest_sym b))
  where
    only : {a : ℕ} {n m : Rest} → RestTo k n m → Within k (one a n) (one a m)
    only b c l here = matched_to here b
    only b c l (past x) = elim x [ ]

module _ {k : ℕ} where
  each_into : {f g : ℕ → Rest → Tree} {x y : Tree} → ((a : ℕ) (n m : Rest) → RestTo k n m → Within k (f a n) (g a m)) → Within k x y → Within k (each f x) (each g y)
  each_into {f} {g} {x} {y} p w = each_within f x (λ a n h. put a n (w a n h))
    where
      put : (a : ℕ) (n : Rest) → MatchedTo k a n y → Within k (f a n) (each g y)
      put a n (matched_to {m = m} i b) c l h = matched_in (λ o. has-each g i) (p a n m b c l h)

pub each_cong_to : {k : ℕ} {f g : ℕ → Rest → Tree} {x y : Tree}
    → ((a : ℕ) (n m : Rest) → RestTo k n m → AlikeTo (suc k) (f a n) (g a m))
    → AlikeTo (suc k) x y → AlikeTo (suc k) (each f x) (each g y)
each_cong_to p (deep w w') =
    deep (each_into (λ a n m b. within_of (p a n m b)) w) (each_into (λ a n m b. within_of (depth_sym (p a m n (rest_sym b)))) w')
