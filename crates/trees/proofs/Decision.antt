-- Whether two trees are alike is computed.
use Prim.Native.Nat.{ℕ, suc, zero, ◌+◌}
use native.Mathlib.Omega.{arith}
use mathlib.Core.Path.{◌≡◌, refl, sym, ◌∙◌, subst}
use mathlib.Core.Bool.{Bool, true, false, ◌&&◌, ◌||◌, false≢true, and-eq-true_iff}
use mathlib.Core.Logic.{◌↔◌}
use lib.Dec.{eqb}
use borrow.Author.Tests.{eqb-true, eq-eqb}
use Rattle.trees.specs.Tree.{Tree, stop, branch, Rest, finish, further, Has, here, past, Alike}
use Rattle.trees.specs.Operators.{height}
use Rattle.trees.proofs.Depth.{AlikeTo, shallow, deep, MatchedTo, matched_to, RestTo, finishes, leads, Within}
use Rattle.trees.proofs.Congruence.{or_right}
use Rattle.trees.proofs.Alike.{to_depth, from_depth}

-- each branch of s is matched in t by one whose remainder passes the test f
rest? : (Tree → Tree → Bool) → Rest → Rest → Bool
rest? f finish finish = true
rest? f finish (further m) = false
rest? f (further n) finish = false
rest? f (further n) (further m) = f n m

match? : (Tree → Tree → Bool) → ℕ → Rest → Tree → Bool
unfolding rest?
match? f a n stop = false
match? f a n (branch b m r) = (eqb a b && rest? f n m) || match? f a n r

within? : (Tree → Tree → Bool) → Tree → Tree → Bool
unfolding match?
within? f stop t = true
within? f (branch a n r) t = match? f a n t && within? f r t

-- alike, down to depth k
unfoldable pub alike-to : ℕ → Tree → Tree → Bool
unfolding within?
alike-to zero s t = true
alike-to (suc k) s t = within? (alike-to k) s t && within? (alike-to k) t s

-- alike; no branch of either tree lies deeper than both heights together
unfoldable pub alike? : Tree → Tree → Bool
unfolding alike-to height
alike? s t = alike-to (height s + height t) s t

-- the tests are right
module _ (k : ℕ) (f : Tree → Tree → Bool) (is : (s t : Tree) → (f s t ≡ true) ↔ AlikeTo k s t) where
  rest_is : (n m : Rest) → (rest? f n m ≡ true) ↔ RestTo k n m
  unfolding rest?
  rest_is finish finish = (λ e. finishes, λ b. refl)
  rest_is finish (further m) = (λ e. absurd (false≢true e), elim [ ])
  rest_is (further n) finish = (λ e. absurd (false≢true e), elim [ ])
  rest_is (further n) (further m) = (λ e. leads ((is n m).0 e), λ b. (is n m).1 (inside b))
    where
      inside : RestTo k (further n) (further m) → AlikeTo k n m
      inside (leads p) = p

  matched-if : (a : ℕ) (n : Rest) (t : Tree) → match? f a n t ≡ true → MatchedTo k a n t
  unfolding match?
  matched-if a n stop e = absurd (false≢true e)
  matched-if a n (branch b m r) e = pick (eqb a b) (rest? f n m) refl refl (matched-if a n r) e
    where
      later : MatchedTo k a n r → MatchedTo k a n (branch b m r)
      later (matched_to h c) = matched_to (past h) c

      pick : (p q : Bool) → eqb a b ≡ p → rest? f n m ≡ q → (match? f a n r ≡ true → MatchedTo k a n r) → (p && q) || match? f a n r ≡ true → MatchedTo k a n (branch b m r)
      pick true true h i d e = matched_to (subst (λ c. Has a m (branch c m r)) (eqb-true a b h) here) ((rest_is n m).0 i)
      pick true false h i d e = later (d e)
      pick false q h i d e = later (d e)

  has? : {a : ℕ} {n m : Rest} {t : Tree} → RestTo k n m → Has a m t → match? f a n t ≡ true
  unfolding match?
  has? {a} {n} {m} b here = rw (eq-eqb a a refl, (rest_is n m).1 b) refl
  has? {a} {n} b (past {b = c} {m = l} h) = or_right (eqb a c && rest? f n l) _ (has? b h)

  within_is : (s t : Tree) → (within? f s t ≡ true) ↔ Within k s t
  unfolding within?
  within_is stop t = (λ e a n h. elim h [ ], λ w. refl)
  within_is (branch b m r) t = (to (within_is r t).0, λ w. (and-eq-true_iff _ _).1 (back (w b m here), (within_is r t).1 (λ a n h. w a n (past h))))
    where
      to : (within? f r t ≡ true → Within k r t) → match? f b m t && within? f r t ≡ true → Within k (branch b m r) t
      to d e a n here = matched-if a n t ((and-eq-true_iff _ _).0 e).0
      to d e a n (past h) = d ((and-eq-true_iff (match? f b m t) _).0 e).1 a n h

      back : MatchedTo k b m t → match? f b m t ≡ true
      back (matched_to h c) = has? c h

alike-to-right : (k : ℕ) (s t : Tree) → (alike-to k s t ≡ true) ↔ AlikeTo k s t
unfolding alike-to
alike-to-right zero s t = (λ e. shallow, λ p. refl)
alike-to-right (suc k) s t = (λ e. deep ((within_is k _ (alike-to-right k) s t).0 ((and-eq-true_iff _ _).0 e).0) ((within_is k _ (alike-to-right k) t s).0 ((and-eq-true_iff (within? (alike-to k) s t) _).0 e).1), back (alike-to-right k))
  where
    back : ((s t : Tree) → (alike-to k s t ≡ true) ↔ AlikeTo k s t) → AlikeTo (suc k) s t → within? (alike-to k) s t && within? (alike-to k) t s ≡ true
    back is (deep v w) = (and-eq-true_iff _ _).1 ((within_is k _ is s t).1 v, (within_is k _ is t s).1 w)

pub alike?_right : (s t : Tree) → (alike? s t ≡ true) ↔ Alike s t
unfolding alike?
alike?_right s t =
    let j = height s + height t in
    (λ e. from_depth j s t (omega arith) (omega arith) ((alike-to-right j s t).0 e), λ p. (alike-to-right j s t).1 (to_depth j s t p))

-- so trees are not alike where the test fails
pub not_alike : (s t : Tree) → alike? s t ≡ false → Alike s t → ⊥
not_alike s t e p = false≢true (sym e ∙ (alike?_right s t).1 p)
