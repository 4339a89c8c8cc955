-- What it says that nothing is refused: of a test, and of two.
use Rattle.std.proofs.Common.{◌≡◌, ℕ, Bool, true, false, ◌&&◌, refl, arith}
use mathlib.Core.Option.{none}
use Rattle.refusals.specs.Refusal.{refuse_unless}

-- a test that is not refused is met
pub met : (k : ℕ) (t : Bool) → refuse_unless t k ≡ none → t ≡ true
met k true e = refl
met k false e = let q : ◌≡◌ {A = ℕ} 0 1 = cc in absurd (omega arith)

pub both : (a b : Bool) → (a && b) ≡ true → (a ≡ true) × (b ≡ true)
both true b e = (refl, e)
both false b e = let q : ◌≡◌ {A = ℕ} 0 1 = cc in absurd (omega arith)
