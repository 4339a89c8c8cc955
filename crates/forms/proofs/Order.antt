-- The order of byte lists is a total strict order.
use Prim.Native.Nat.{ℕ, ◌<◌, ◌≤◌}
use native.Mathlib.Omega.{arith}
use mathlib.Core.Path.{◌≡◌, refl, sym, ap₂, ◌∙◌}
use mathlib.Core.Bool.{Bool, true, false, ◌&&◌, ◌||◌, false≢true}
use mathlib.Core.List.{List, [], ◌∷◌}
use lib.Dec.{eqb, ltb}
use borrow.Author.Tests.{ltb-true, ltb-false, eqb-true, eqb-false, lt-ltb, le-ltb, eq-eqb}
use Rattle.forms.specs.Form.{before?}

-- what puts a list that begins with a before one that begins with b
pub data Heads (a b : ℕ) (v w : List ℕ) : Type 0 where
  less : a < b → Heads a b v w
  tie : a ≡ b → before? v w ≡ true → Heads a b v w

pub heads : (a b : ℕ) (v w : List ℕ) → before? (a ∷ v) (b ∷ w) ≡ true → Heads a b v w
unfolding before?
heads a b v w e = pick (ltb a b) (eqb a b) refl refl e
  where
    pick : (p q : Bool) → ltb a b ≡ p → eqb a b ≡ q → p || (q && before? v w) ≡ true → Heads a b v w
    pick true q h i e = less (ltb-true a b h)
    pick false true h i e = tie (eqb-true a b i) e
    pick false false h i e = absurd (false≢true e)

pub heads_before : (a b : ℕ) (v w : List ℕ) → Heads a b v w → before? (a ∷ v) (b ∷ w) ≡ true
unfolding before?
heads_before a b v w (less h) = rw (lt-ltb a b h) refl
heads_before a b v w (tie h e) = rw (le-ltb a b (omega arith), eq-eqb a b h, e) refl

-- irreflexive
pub before-irreflexive : (v : List ℕ) → before? v v ≡ false
unfolding before?
before-irreflexive [] = refl
before-irreflexive (a ∷ v) = rw (le-ltb a a (omega arith), eq-eqb a a refl, before-irreflexive v) refl

pub not_before-itself : (v : List ℕ) → before? v v ≡ true → ⊥
not_before-itself v e = false≢true (sym (before-irreflexive v) ∙ e)

-- transitive
heads_trans : (a b c : ℕ) (u v w : List ℕ) → (before? u v ≡ true → before? v w ≡ true → before? u w ≡ true) → Heads a b u v → Heads b c v w → Heads a c u w
heads_trans a b c u v w f (less h) (less i) = less (omega arith)
heads_trans a b c u v w f (less h) (tie i d) = less (omega arith)
heads_trans a b c u v w f (tie h e) (less i) = less (omega arith)
heads_trans a b c u v w f (tie h e) (tie i d) = tie (h ∙ i) (f e d)

pub before_trans : (u v w : List ℕ) → before? u v ≡ true → before? v w ≡ true → before? u w ≡ true
unfolding before?
before_trans [] [] w e d = absurd (false≢true e)
before_trans [] (b ∷ v) [] e d = absurd (false≢true d)
before_trans [] (b ∷ v) (c ∷ w) e d = refl
before_trans (a ∷ u) [] w e d = absurd (false≢true e)
before_trans (a ∷ u) (b ∷ v) [] e d = absurd (false≢true d)
before_trans (a ∷ u) (b ∷ v) (c ∷ w) e d = heads_before a c u w (heads_trans a b c u v w (before_trans u v w) (heads a b u v e) (heads b c v w d))

-- so of two lists not both stand before the other
pub before-asymmetric : (v w : List ℕ) → before? v w ≡ true → before? w v ≡ false
before-asymmetric v w e = pick (before? w v) refl
  where
    pick : (p : Bool) → before? w v ≡ p → p ≡ false
    pick true d = absurd (not_before-itself v (before_trans v w v e d))
    pick false d = refl

-- total
pub data Order (v w : List ℕ) : Type 0 where
  earlier : before? v w ≡ true → Order v w
  same : v ≡ w → Order v w
  later : before? w v ≡ true → Order v w

order_cons : (a b : ℕ) (v w : List ℕ) (p q : Bool) → ltb a b ≡ p → eqb a b ≡ q → Order v w → Order (a ∷ v) (b ∷ w)
order_cons a b v w true q h i o = earlier (heads_before a b v w (less (ltb-true a b h)))
order_cons a b v w false true h i (earlier e) = earlier (heads_before a b v w (tie (eqb-true a b i) e))
order_cons a b v w false true h i (same e) = same (ap₂ (λ c x. c ∷ x) (eqb-true a b i) e)
order_cons a b v w false true h i (later e) = later (heads_before b a w v (tie (sym (eqb-true a b i)) e))
order_cons a b v w false false h i o = later (heads_before b a w v (less (below (ltb-false a b h) (eqb-false a b i))))
  where
    below : b ≤ a → (a ≡ b → ⊥) → b < a
    below l f = omega arith

pub before-total : (v w : List ℕ) → Order v w
unfolding before?
before-total [] [] = same refl
before-total [] (b ∷ w) = earlier refl
before-total (a ∷ v) [] = later refl
before-total (a ∷ v) (b ∷ w) = order_cons a b v w (ltb a b) (eqb a b) refl refl (before-total v w)
