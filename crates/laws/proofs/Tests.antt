-- Tests that antt computes over the numbers of all laws, turned into a fact for each.
use Prim.Native.Nat.{ℕ, suc, zero, ◌<◌}
use mathlib.Core.Path.{◌≡◌, refl}
use mathlib.Core.Bool.{Bool, true, false, ◌&&◌, and-eq-true_iff}
use native.Mathlib.Omega.{arith}
use lib.Dec.{eqb}
use borrow.Author.Tests.{eqb-true, eqb-false}

pub and_left : (a b : Bool) → a && b ≡ true → a ≡ true
and_left a b e = ((and-eq-true_iff a b).0 e).0

pub and_right : (a b : Bool) → a && b ≡ true → b ≡ true
and_right a b e = ((and-eq-true_iff a b).0 e).1

-- a test passes at each of the first m numbers
abbrev pub passes : (ℕ → Bool) → ℕ → Bool
passes f zero = true
passes f (suc m) = f m && passes f m

pub passed : (f : ℕ → Bool) (m : ℕ) → passes f m ≡ true → (k : ℕ) → k < m → f k ≡ true
passed f zero e k h = absurd (omega arith)
passed f (suc m) e k h = go (eqb k m) refl (λ l. passed f m (and_right (f m) (passes f m) e) k l)
  where
    low : (k ≡ m → ⊥) → k < m
    low d = omega arith

    go : (b : Bool) → eqb k m ≡ b → (k < m → f k ≡ true) → f k ≡ true
    go true q r = rw (eqb-true k m q) (and_left (f m) (passes f m) e)
    go false q r = r (low (eqb-false k m q))
