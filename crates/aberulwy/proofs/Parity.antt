-- The parity of a count of steps, by its remainder.
use Prim.Native.Nat.{ℕ, suc, zero, ◌%◌}
use native.Mathlib.Omega.{arith}
use mathlib.Core.Path.{◌≡◌, refl}
use mathlib.Core.Bool.{true, false}
use Rattle.areas.specs.Reached.{even?}

pub parity : (k : ℕ) → (k % 2 ≡ 0 → even? k ≡ true) × (k % 2 ≡ 1 → even? k ≡ false)
unfolding even?
parity zero = (λ e. refl, λ e. absurd (omega arith))
parity (suc k) =
    let h = parity k in
    (λ e. let q : k % 2 ≡ 1 = omega arith in rw (h.1 q), λ e. let q : k % 2 ≡ 0 = omega arith in rw (h.0 q))
