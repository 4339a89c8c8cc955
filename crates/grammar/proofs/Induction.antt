-- Induction on how a text is made: what holds of every way to make a sum, a product and a unit holds of them all.
use Prim.Native.Nat.{ℕ, ◌+◌, ◌≤◌}
use mathlib.Core.List.{List, [], ◌∷◌, ◌++◌}
use Rattle.plans.specs.declared.Binary.{Binary}
use Rattle.plans.specs.declared.Binary.TheVariants.{Choice, Sequence}
use Rattle.plans.specs.declared.Unary.TheVariants.{Priority, Encapsulation}
use Rattle.plans.specs.Term.{Term, act, un, bin}
use Rattle.grammar.specs.Character.{plus, dot, opening, closing, tee, aitch, nought, blank}
use Rattle.grammar.specs.Grammar.{Decimal, Between, SumOf, ProductOf, UnitOf}

pub record Ways (P Q R : List ℕ → Term → Type 0) : Type 0 where
  pub one_product : (s : List ℕ) (u : Term) → Q s u → P s u
  pub sum : (s t : List ℕ) (u v : Term) → P s u → Q t v → P (s ++ (plus ∷ t)) (bin Choice u v)
  pub one_unit : (s : List ℕ) (u : Term) → R s u → Q s u
  pub product : (s t : List ℕ) (u v : Term) → Q s u → R t v → Q (s ++ (dot ∷ t)) (bin Sequence u v)
  pub action : (s : List ℕ) (a : ℕ) → Decimal s a → R s (act a)
  pub bracket : (s : List ℕ) (u : Term) → P s u → R (opening ∷ (s ++ (closing ∷ []))) u
  pub priority : (s : List ℕ) (u : Term) → P s u → R (tee ∷ opening ∷ (s ++ (closing ∷ []))) (un Priority u)
  pub encapsulation : (h : ℕ) (s : List ℕ) (u : Term) → h ≤ 7 → P s u → R (aitch ∷ (nought + h) ∷ opening ∷ (s ++ (closing ∷ []))) (un (Encapsulation h) u)
  pub pair : (c : ℕ) (o : Binary) (s t : List ℕ) (u v : Term) → Between c o → P s u → P t v
      → R (opening ∷ (s ++ (blank ∷ c ∷ blank ∷ (t ++ (closing ∷ []))))) (bin o u v)

module _ (P Q R : List ℕ → Term → Type 0) (w : Ways P Q R) where
  pub every_sum : {s : List ℕ} {u : Term} → SumOf s u → P s u
  every_sum x =
      elim x as (λ s u y. P s u) (λ s u y. Q s u) (λ s u y. R s u) [
        | SumOf.one_product {s} {u} (y → h) ↦ w.one_product s u h
        | SumOf.sum {s} {t} {u} {v} (y → h) (z → i) ↦ w.sum s t u v h i
        | ProductOf.one_unit {s} {u} (y → h) ↦ w.one_unit s u h
        | ProductOf.product {s} {t} {u} {v} (y → h) (z → i) ↦ w.product s t u v h i
        | UnitOf.action {s} {a} n ↦ w.action s a n
        | UnitOf.bracket {s} {u} (y → i) ↦ w.bracket s u i
        | UnitOf.priority {s} {u} (y → i) ↦ w.priority s u i
        | UnitOf.encapsulation {h} {s} {u} l (y → i) ↦ w.encapsulation h s u l i
        | UnitOf.pair {c} {o} {s} {t} {u} {v} (y → i) b (z → j) ↦ w.pair c o s t u v b i j
      ]
