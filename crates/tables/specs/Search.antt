-- The first number at which something is found; nested, the first triple. (01, "first byte"; "the first triple in counting order".)
use Rattle.std.specs.Prelude.{ℕ, suc, zero, ◌≡◌, ◌<◌, Bool, true, false}
use Rattle.std.proofs.Math.Option.{Option, none, some}

module _ {A : Type 0} where
  -- the first of two findings, if there is any
  abbrev pub first_of : Option A → Option A → Option A
  first_of none s = s
  first_of (some r) s = some r

  -- what is found at the first of the m numbers k, k + 1, … at which something is found
  unfoldable pub first_from : (ℕ → Option A) → ℕ → ℕ → Option A
  first_from f k zero = none
  first_from f k (suc m) = first_of (f k) (first_from f (suc k) m)

-- x where a test fails
abbrev pub unless_met : {A : Type 0} → Bool → A → Option A
unless_met true x = none
unless_met false x = some x

-- what calls answer, by their outcomes, is a test of each two bytes, or of each three
abbrev pub TestsPairs : (ℕ → ℕ → Bool → Type 0) → (ℕ → ℕ → Bool) → Type 0
TestsPairs answers test = (a b : ℕ) (r : Bool) → a < 256 → b < 256 → answers a b r → r ≡ test a b

abbrev pub TestsTriples : (ℕ → ℕ → ℕ → Bool → Type 0) → (ℕ → ℕ → ℕ → Bool) → Type 0
TestsTriples answers test = (a b c : ℕ) (r : Bool) → a < 256 → b < 256 → c < 256 → answers a b c r → r ≡ test a b c
