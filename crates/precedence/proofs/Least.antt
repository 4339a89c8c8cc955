-- The least place at which a test holds.
use Prim.Native.Nat.{ℕ, zero, suc, ◌+◌, ◌≤◌, ◌<◌}
use native.Mathlib.Omega.{arith}
use mathlib.Core.Path.{◌≡◌, refl, sym, ap, ◌∙◌, subst}
use mathlib.Core.Bool.{Bool, true, false, cond, false≢true}
use mathlib.Core.Option.{Option, none, some}
use lib.Dec.{eqb, ltb}
use borrow.Author.Tests.{eqb-true, eqb-false, ltb-true, ltb-false}
use Rattle.precedence.specs.Overtaking.{least}

-- the least of k places from i on, or none
pub data Found (f : ℕ → Bool) (i k : ℕ) : Option ℕ → Type 0 where
  at_place : (p : ℕ) → i ≤ p → p < i + k → f p ≡ true → ((q : ℕ) → i ≤ q → q < p → f q ≡ false) → Found f i k (some p)
  nowhere : ((q : ℕ) → i ≤ q → q < i + k → f q ≡ false) → Found f i k none

module _ (f : ℕ → Bool) where
  not_here : (i q : ℕ) → f i ≡ false → i ≤ q → (suc i ≤ q → f q ≡ false) → f q ≡ false
  not_here i q e l h = go (eqb i q) refl
    where
      go : (b : Bool) → eqb i q ≡ b → f q ≡ false
      go true d = subst (λ j. f j ≡ false) (eqb-true i q d) e
      go false d = let n = eqb-false i q d in h (omega arith)

  pub least_found : (i k : ℕ) → Found f i k (least f i k)
  unfolding least
  least_found i zero = nowhere (λ q l h. absurd (omega arith))
  least_found i (suc k) = go (f i) refl (least f (suc i) k) (least_found (suc i) k)
    where
      later : f i ≡ false → {o : Option ℕ} → Found f (suc i) k o → Found f i (suc k) o
      later e (at_place p l h d m) = at_place p (omega arith) (omega arith) d (λ q a b. not_here i q e a (λ c. m q c b))
      later e (nowhere m) = nowhere (λ q a b. not_here i q e a (λ c. m q c (omega arith)))

      go : (b : Bool) → f i ≡ b → (o : Option ℕ) → Found f (suc i) k o → Found f i (suc k) (cond b (some i) o)
      go true e o r = at_place i (omega arith) (omega arith) e (λ q a b. absurd (omega arith))
      go false e o r = later e r

  -- there is one at most
  pub one_found : {i k : ℕ} {o o' : Option ℕ} → Found f i k o → Found f i k o' → o ≡ o'
  one_found (at_place p l h e m) (at_place q a b d n) = ap some (same (ltb p q) refl (ltb q p) refl)
    where
      equal : q ≤ p → p ≤ q → p ≡ q
      equal x y = omega arith

      same : (c : Bool) → ltb p q ≡ c → (g : Bool) → ltb q p ≡ g → p ≡ q
      same true c g w = absurd (false≢true (sym (n p l (ltb-true p q c)) ∙ e))
      same false c true w = absurd (false≢true (sym (m q a (ltb-true q p w)) ∙ d))
      same false c false w = equal (ltb-false p q c) (ltb-false q p w)
  one_found (at_place p l h e m) (nowhere n) = absurd (false≢true (sym (n p l h) ∙ e))
  one_found (nowhere m) (at_place q a b d n) = absurd (false≢true (sym (m q a b) ∙ d))
  one_found (nowhere m) (nowhere n) = refl

-- a test that says the same
pub found_as : {f g : ℕ → Bool} {i k : ℕ} {o : Option ℕ} → ((q : ℕ) → f q ≡ g q) → Found f i k o → Found g i k o
found_as e (at_place p l h d m) = at_place p l h (sym (e p) ∙ d) (λ q a b. sym (e q) ∙ m q a b)
found_as e (nowhere m) = nowhere (λ q a b. sym (e q) ∙ m q a b)
