-- What a search has still to find: one turn of it, and its end; and a search within a search.
use Prim.Native.Nat.{ℕ, suc, ◌≤◌, ◌<◌, ◌+◌, ◌-◌}
use native.Mathlib.Numerals.{add-one}
use native.Mathlib.Omega.{arith}
use mathlib.Core.Path.{◌≡◌, refl, sym, ◌∙◌}
use mathlib.Core.Bool.{Bool, true, false}
use mathlib.Core.Option.{Option, none, some}
use Rattle.refusals.specs.declared.Refusal.{Refusal}
use Rattle.tables.specs.Search.{first_of, first_from, unless_met}

-- what is found from i on, before an end
left : (ℕ → Option Refusal) → ℕ → ℕ → Option Refusal
left f e i = first_from f i (e - i)

module _ (f : ℕ → Option Refusal) (e i : ℕ) where
  all : (m : ℕ) → i + m ≡ e → left f e i ≡ first_from f i m
  unfolding left
  all m h = let q : e - i ≡ m = omega arith in rw q

  turn : i < e → left f e i ≡ first_of (f i) (left f e (i + 1))
  unfolding left first_from
  turn h = let m : e - i ≡ suc (e - (i + 1)) = omega arith in rw (m, add-one i)

  ended : e ≤ i → left f e i ≡ none
  unfolding left first_from
  ended h = let m : e - i ≡ 0 = omega arith in rw m

first_of_none : (x : Option Refusal) → first_of x none ≡ x
first_of_none none = refl
first_of_none (some r) = refl

first_of_assoc : (x y z : Option Refusal) → first_of (first_of x y) z ≡ first_of x (first_of y z)
first_of_assoc none y z = refl
first_of_assoc (some r) y z = refl

-- what is found behind i, and else the rest
pub after : (ℕ → Option Refusal) → ℕ → ℕ → Option Refusal → Option Refusal
after f e i rest = first_of (left f e (i + 1)) rest

-- w is what is found from i on, and else the rest, which is what searches around this one have still to find
pub record Finds (f : ℕ → Option Refusal) (e i : ℕ) (rest w : Option Refusal) : Type 0 where
  finds : first_of (left f e i) rest ≡ w

module _ {f : ℕ → Option Refusal} {e i : ℕ} where
  pub begins : (m : ℕ) → i + m ≡ e → Finds f e i none (first_from f i m)
  begins m h = record { finds = first_of_none (left f e i) ∙ all f e i m h }

  module _ {w : Option Refusal} where
    pub ends : Finds f e i none w → e ≤ i → w ≡ none
    ends s h = sym s.finds ∙ rw (ended f e i h)

  module _ {rest w : Option Refusal} where
    pub passes : Finds f e i rest w → i < e → f i ≡ none → Finds f e (i + 1) rest w
    passes s h q = record { finds = rw (turn f e i h, q) at s.finds }

    pub fails : {x : Refusal} → Finds f e i rest w → i < e → f i ≡ some x → w ≡ some x
    fails s h q = sym s.finds ∙ rw (turn f e i h, q)

    -- a search within this one, for what f finds at i
    module _ {g : ℕ → Option Refusal} {d : ℕ} where
      pub enters : Finds f e i rest w → i < e → f i ≡ first_from g 0 d → Finds g d 0 (after f e i rest) w
      unfolding after
      enters s h q = record {
        finds = rw (all g d 0 d (omega arith), ← q)
            (sym (first_of_assoc (f i) (left f e (i + 1)) rest) ∙ rw (← turn f e i h) s.finds);
      }

-- and back to the search around it, behind i
module _ {f g : ℕ → Option Refusal} {e d j : ℕ} {rest w : Option Refusal} where
  pub leaves : (i : ℕ) → Finds g d j (after f e i rest) w → d ≤ j → Finds f e (i + 1) rest w
  unfolding after
  leaves i s h = record { finds = rw (ended g d j h) at s.finds }

-- what a test answers, where a call has made it
module _ {A : Type 0} {r b : Bool} (x : A) (e : r ≡ b) where
  pub met : r ≡ true → unless_met b x ≡ none
  met h = rw (sym e ∙ h)

  pub unmet : r ≡ false → unless_met b x ≡ some x
  unmet h = rw (sym e ∙ h)
