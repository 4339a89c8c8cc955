-- An array used as a stack: how many entries it has, its last one, and what becomes of them when one is put on top.
use Prim.Native.Nat.{ℕ, suc, zero, ◌+◌, ◌-◌, ◌≤◌, ◌<◌}
use native.Mathlib.Omega.{arith}
use native.Mathlib.Numerals.{add-one}
use mathlib.Core.Path.{◌≡◌, refl, ap}
use mathlib.Core.List.{List, ◌∷◌}
use lib.ListN.{length, get_or, set}
use lib.Seq.{get_or-set_same, get_or-set_other}
use Rattle.plans.specs.Stack.{stacked}

pub stacked-length : (a : List ℕ) (d : ℕ) → length (stacked a d) ≡ d
unfolding stacked
stacked-length a zero = refl
stacked-length a (suc d) = ap suc (stacked-length a d)

pub stacked-top : (a : List ℕ) (d : ℕ) → 0 < d → stacked a d ≡ get_or a (d - 1) 0 ∷ stacked a (d - 1)
unfolding stacked
stacked-top a zero h = absurd (omega arith)
stacked-top a (suc d) h = let e : suc d - 1 ≡ d = omega arith in rw e

-- an entry above the top is none of the stack's
pub stacked-set : (a : List ℕ) (i v d : ℕ) → d ≤ i → stacked (set a i v) d ≡ stacked a d
unfolding stacked
stacked-set a i v zero h = refl
stacked-set a i v (suc d) h = rw (get_or-set_other a i d v 0 (λ e. omega arith), stacked-set a i v d (omega arith)) refl

-- one put on top, with the new height under any name, and as the code says it
pub stacked-onto : (a : List ℕ) (d e v : ℕ) → e ≡ suc d → d < length a → stacked (set a d v) e ≡ v ∷ stacked a d
unfolding stacked
stacked-onto a d e v i h = rw (i, get_or-set_same a d v 0 h, stacked-set a d v d (omega arith)) refl

pub stacked-push : (a : List ℕ) (d v : ℕ) → d < length a → stacked (set a d v) (d + 1) ≡ v ∷ stacked a d
stacked-push a d v h = stacked-onto a d (d + 1) v (add-one d) h
