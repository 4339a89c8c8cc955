-- Which numbers refusals have: of the first of several, of one by a test, and of the first that a search finds.
use Prim.Native.Nat.{ℕ, zero, suc, ◌≤◌}
use native.Mathlib.Omega.{arith}
use mathlib.Core.Bool.{Bool, true, false, cond}
use mathlib.Core.Option.{Option, none, some}
use Rattle.refusals.specs.declared.Refusal.{Refusal}
use Rattle.refusals.specs.Refusal.{refuse_if, or_else}
use Rattle.tables.specs.Search.{first_of, first_from, unless_met}

-- a number from 1 to the highest
abbrev pub Range : ℕ → ℕ → Type 0
Range top k = (1 ≤ k) × (k ≤ top)

pub widened : (top : ℕ) → 18 ≤ top → (k : ℕ) → Range 18 k → Range top k
widened top h k r = (r.0, omega (arith, r.1))

module _ (P : ℕ → Type 0) where
  -- where there is a refusal, its number is such
  abbrev pub Numbered : Option Refusal → Type 0
  Numbered none = Unit
  Numbered (some f) = P f.number

  pub numbered_or : (a b : Option Refusal) → Numbered a → Numbered b → Numbered (or_else a b)
  numbered_or none b x y = y
  numbered_or (some f) b x y = x

  pub numbered-cond : (c : Bool) (a b : Option Refusal) → Numbered a → Numbered b → Numbered (cond c a b)
  numbered-cond true a b x y = x
  numbered-cond false a b x y = y

  pub numbered-if : (b : Bool) (k : ℕ) → P k → Numbered (refuse_if b k)
  numbered-if true k x = x
  numbered-if false k x = tt

  pub numbered-unless : (b : Bool) (f : Refusal) → P f.number → Numbered (unless_met b f)
  numbered-unless true f x = tt
  numbered-unless false f x = x

  numbered_of : (a b : Option Refusal) → Numbered a → Numbered b → Numbered (first_of a b)
  numbered_of none b x y = y
  numbered_of (some f) b x y = x

  pub numbered-first : (g : ℕ → Option Refusal) → ((i : ℕ) → Numbered (g i)) → (k m : ℕ) → Numbered (first_from g k m)
  unfolding first_from
  numbered-first g h k zero = tt
  numbered-first g h k (suc m) = numbered_of (g k) (first_from g (suc k) m) (h k) (numbered-first g h (suc k) m)
