-- What an answer that may be missing says of the answers before it.
use mathlib.Core.Path.{◌≡◌, refl, subst}
use mathlib.Core.Option.{Option, none, some}
use Rattle.plans.specs.Term.{and_then}

module _ {A : Type 0} where
  abbrev is_none : Option A → Type 0
  is_none none = Unit
  is_none (some a) = ⊥

  pub never {ℓ} : {C : Type ℓ} {a : A} → ◌≡◌ {A = Option A} none (some a) → C
  never e = absurd (subst is_none e tt)

pub and_then_some : {A B : Type 0} (m : Option A) (f : A → Option B) {b : B} → and_then m f ≡ some b → (a : A) × (m ≡ some a) × (f a ≡ some b)
and_then_some none f e = never e
and_then_some (some a) f e = (a, refl, e)
