-- The tests for basic plans say what the definitions say.
use Prim.Native.Nat.{ℕ, ◌<◌}
use native.Mathlib.Omega.{arith}
use mathlib.Core.Path.{◌≡◌, refl}
use mathlib.Core.Bool.{Bool, true, false, not, ◌||◌, false≢true, and-eq-true_iff}
use mathlib.Core.Logic.{◌↔◌}
use lib.Dec.{eqb}
use borrow.Author.Tests.{ne_eqb, eqb-true, eqb-false, not-true}
use Rattle.plans.specs.declared.Binary.TheVariants.{Choice, Sequence, Merge, LeftMerge, CommunicationMerge, Unless}
use Rattle.plans.specs.Term.{Term, act, un, bin}
use Rattle.plans.specs.Basic.{Basic, dead_stop, sum_plan, SumPlan, action, prefix, sum, dead_stop?, live_action?, sum_plan?, basic?}

live : (a : ℕ) → not (eqb a 0) ≡ true → 0 < a
live a e = positive (eqb-false a 0 (not-true _ e))
  where
    positive : (a ≡ 0 → ⊥) → 0 < a
    positive f = omega arith

dead_found : (u : Term) → dead_stop? u ≡ true → Basic u
dead_found (act a) e = rw (eqb-true a 0 e) dead_stop
dead_found (un o u) e = absurd (false≢true e)
dead_found (bin o u v) e = absurd (false≢true e)

live_found : (u v : Term) → live_action? u ≡ true → Basic v → SumPlan (bin Sequence u v)
live_found (act a) v e b = prefix {a = a} (live a e) b
live_found (un o u) v e b = absurd (false≢true e)
live_found (bin o u w) v e b = absurd (false≢true e)

pub sum_found : (u : Term) → sum_plan? u ≡ true → SumPlan u
unfolding sum_plan?
sum_found (act a) e = action {a = a} (live a e)
sum_found (un o u) e = absurd (false≢true e)
sum_found (bin Choice u v) e = let i = (and-eq-true_iff (sum_plan? u) _).0 e in sum (sum_found u i.0) (sum_found v i.1)
sum_found (bin Sequence u v) e = let i = (and-eq-true_iff (live_action? u) _).0 e in live_found u v i.0 (rest (dead_stop? v) refl (sum_found v) i.1)
  where
    rest : (b : Bool) → dead_stop? v ≡ b → (sum_plan? v ≡ true → SumPlan v) → b || sum_plan? v ≡ true → Basic v
    rest true q f e = dead_found v q
    rest false q f e = sum_plan (f e)
sum_found (bin Merge u v) e = absurd (false≢true e)
sum_found (bin LeftMerge u v) e = absurd (false≢true e)
sum_found (bin CommunicationMerge u v) e = absurd (false≢true e)
sum_found (bin Unless u v) e = absurd (false≢true e)

either : {b : Bool} (a : Bool) → b ≡ true → a || b ≡ true
either true e = refl
either false e = e

mutual
  unfolding sum_plan? basic?

  pub sum_tested : {u : Term} → SumPlan u → sum_plan? u ≡ true
  sum_tested (action {a = a} h) = rw (ne_eqb a 0 (λ e. omega arith)) refl
  sum_tested (prefix {a = a} h b) = rw (ne_eqb a 0 (λ e. omega arith)) (basic_tested b)
  sum_tested (sum {u = u} p q) = rw (sum_tested p) (sum_tested q)

  pub basic_tested : {u : Term} → Basic u → basic? u ≡ true
  basic_tested dead_stop = refl
  basic_tested (sum_plan {u = u} p) = either (dead_stop? u) (sum_tested p)

pub basic?_iff : (u : Term) → (basic? u ≡ true) ↔ Basic u
unfolding basic?
basic?_iff u = (found (dead_stop? u) refl, basic_tested)
  where
    found : (b : Bool) → dead_stop? u ≡ b → b || sum_plan? u ≡ true → Basic u
    found true q e = dead_found u q
    found false q e = sum_plan (sum_found u e)
