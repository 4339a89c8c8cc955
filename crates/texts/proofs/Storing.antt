-- Words stored one after another in an array, as far as it reaches.
use Prim.Native.Nat.{ℕ, suc, ◌+◌, ◌≤◌}
use native.Mathlib.Omega.{arith}
use mathlib.Core.Path.{◌≡◌, refl, sym, ap, ◌∙◌}
use mathlib.Core.List.{List, [], ◌∷◌, ◌++◌}
use lib.ListN.{length, set, drop, length-append}
use lib.Seq.{sets, sets-eq, set_out}
use Rattle.texts.specs.Readers.{Stored}

sets_append : (l : List ℕ) (i : ℕ) (v w : List ℕ) → sets l i (v ++ w) ≡ sets (sets l i v) (i + length v) w
sets_append l i [] w = ap (λ j. sets l j w) (omega arith)
sets_append l i (a ∷ v) w = sets_append (set l i a) (suc i) v w ∙ ap (λ j. sets (sets (set l i a) (suc i) v) j w) (omega arith)

pub stored-nothing : (area : List ℕ) (m : ℕ) → Stored area area m m []
stored-nothing area m = record { counted = omega arith; stored = refl }

pub stored_more : {a b c : List ℕ} {m j k : ℕ} {v w : List ℕ} → Stored a b m j v → Stored b c j k w → Stored a c m k (v ++ w)
stored_more {a} {b} {c} {m} {j} {k} {v} {w} x y =
    record {
      counted = omega (arith, x.counted, y.counted, length-append v w);
      stored = y.stored ∙ (ap (λ z. sets z j w) x.stored ∙ (ap (λ z. sets (sets a m v) z w) x.counted ∙ sym (sets_append a m v w)));
    }

-- the code may leave out a store past the area's end
pub stored-word : (area : List ℕ) (m a : ℕ) → Stored area (set area m a) m (suc m) (a ∷ [])
stored-word area m a = record { counted = omega arith; stored = refl }

pub stored_past : (area : List ℕ) (m a : ℕ) → length area ≤ m → Stored area area m (suc m) (a ∷ [])
stored_past area m a h = record { counted = omega arith; stored = sym (set_out area m a h) }

-- all words, from the area's beginning
pub stored_all : {area area' : List ℕ} {k : ℕ} {w : List ℕ} → Stored area area' 0 k w → length w ≤ length area → (k ≡ length w) × (area' ≡ w ++ drop (length w) area)
stored_all {area} {w} x h =
    let e : 0 + length w ≡ length w = omega arith in
    (omega (arith, x.counted), x.stored ∙ (sets-eq w area 0 (omega arith) ∙ ap (λ (j : ℕ). w ++ drop j area) e))
