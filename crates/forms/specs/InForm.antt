-- What it is to be in the fixed form, said of terms without computing one. (Request 107.)
use Rattle.std.specs.Prelude.{ℕ, ◌<◌, List, [], ◌∷◌}
use Rattle.plans.specs.declared.Binary.TheVariants.{Choice, Sequence}
use Rattle.plans.specs.Term.{Term, act, bin, words}

-- "ascending order of their bytes, a shorter one first where it begins the longer": one list of bytes comes before another
pub data Before : List ℕ → List ℕ → Type 0 where
  begins : {b : ℕ} {w : List ℕ} → Before [] (b ∷ w)
  less : {a b : ℕ} {v w : List ℕ} → a < b → Before (a ∷ v) (b ∷ w)
  later : {a : ℕ} {v w : List ℕ} → Before v w → Before (a ∷ v) (a ∷ w)

mutual
  -- a plan in the fixed form: dead stop, or a sum
  pub data InForm : Term → Type 0 where
    dead_stop : InForm (act 0)
    sum : {u s : Term} → SumInForm u s → InForm u

  -- "sums group to the left"; "summands stand in ascending order", so none stands twice: a sum, and the last of its summands
  pub data SumInForm : Term → Term → Type 0 where
    alone : {s : Term} → SummandInForm s → SumInForm s s
    more : {u r s : Term} → SumInForm u r → SummandInForm s → Before (words r) (words s) → SumInForm (bin Choice u s) s

  -- an action, or an action before a remainder in the fixed form
  pub data SummandInForm : Term → Type 0 where
    action : {a : ℕ} → 0 < a → SummandInForm (act a)
    prefix : {a : ℕ} {u : Term} → 0 < a → InForm u → SummandInForm (bin Sequence (act a) u)
