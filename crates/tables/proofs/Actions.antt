-- What the test says: an action outside 1 to n is 0 or exceeds n.
use Prim.Native.Nat.{ℕ, ◌≤◌, ◌<◌}
use native.Mathlib.Omega.{arith}
use mathlib.Core.Path.{◌≡◌, refl, sym}
use mathlib.Core.Bool.{Bool, true, false, ◌||◌, false≢true}
use mathlib.Core.Logic.{◌⊎◌, inl, inr}
use lib.Dec.{eqb, ltb}
use borrow.Author.Tests.{eq-eqb, ne_eqb, eqb-true, eqb-false, ltb-true, ltb-false, lt-ltb, le-ltb}
use Rattle.tables.specs.Tables.{outside?}

pub is_outside : (n a : ℕ) → (a ≡ 0) ⊎ (n < a) → outside? n a ≡ true
is_outside n a (inl e) = rw (eq-eqb a 0 e) refl
is_outside n a (inr h) = rw (lt-ltb n a h) (go (eqb a 0))
  where
    go : (b : Bool) → b || true ≡ true
    go true = refl
    go false = refl

pub outside-said : (n a : ℕ) → outside? n a ≡ true → (a ≡ 0) ⊎ (n < a)
outside-said n a e = go (eqb a 0) refl (ltb n a) refl e
  where
    go : (b : Bool) → eqb a 0 ≡ b → (c : Bool) → ltb n a ≡ c → b || c ≡ true → (a ≡ 0) ⊎ (n < a)
    go true d c f e = inl (eqb-true a 0 d)
    go false d true f e = inr (ltb-true n a f)
    go false d false f e = absurd (false≢true e)

pub not_outside : (n a : ℕ) → 0 < a → a ≤ n → outside? n a ≡ false
not_outside n a h i = rw (ne_eqb a 0 (λ e. omega arith), le-ltb n a i) refl

pub within : (n a : ℕ) → outside? n a ≡ false → (0 < a) × (a ≤ n)
within n a e = go (eqb a 0) refl (ltb n a) refl e
  where
    positive : (a ≡ 0 → ⊥) → 0 < a
    positive f = omega arith

    go : (b : Bool) → eqb a 0 ≡ b → (c : Bool) → ltb n a ≡ c → b || c ≡ false → (0 < a) × (a ≤ n)
    go true d c f e = absurd (false≢true (sym e))
    go false d true f e = absurd (false≢true (sym e))
    go false d false f e = (positive (eqb-false a 0 d), ltb-false n a f)
