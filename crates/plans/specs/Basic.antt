-- Basic plans. (01, "Unfolding"; the customer's word BASIC.)
use Rattle.std.specs.Prelude.{ℕ, ◌<◌, Bool, false, not, ◌&&◌, ◌||◌, List, eqb}
use Rattle.std.proofs.Math.Option.{Option, none, some}
use Rattle.plans.specs.declared.Binary.TheVariants.{Choice, Sequence, Merge, LeftMerge, CommunicationMerge, Unless}
use Rattle.plans.specs.Term.{Term, act, un, bin, term_of}

-- "Basic: δ, or a sum_plan; a sum_plan is an action other than 0, such an action · a basic plan, or sum_plan + sum_plan."
mutual
  pub data Basic : Term → Type 0 where
    dead_stop : Basic (act 0)
    sum_plan : {u : Term} → SumPlan u → Basic u

  pub data SumPlan : Term → Type 0 where
    action : {a : ℕ} → 0 < a → SumPlan (act a)
    prefix : {a : ℕ} {u : Term} → 0 < a → Basic u → SumPlan (bin Sequence (act a) u)
    sum : {u v : Term} → SumPlan u → SumPlan v → SumPlan (bin Choice u v)

-- the same as tests
abbrev pub dead_stop? : Term → Bool
dead_stop? (act a) = eqb a 0
dead_stop? (un o u) = false
dead_stop? (bin o u v) = false

abbrev pub live_action? : Term → Bool
live_action? (act a) = not (eqb a 0)
live_action? (un o u) = false
live_action? (bin o u v) = false

unfoldable pub sum_plan? : Term → Bool
sum_plan? (act a) = not (eqb a 0)
sum_plan? (un o u) = false
sum_plan? (bin Choice u v) = sum_plan? u && sum_plan? v
sum_plan? (bin Sequence u v) = live_action? u && (dead_stop? v || sum_plan? v)
sum_plan? (bin Merge u v) = false
sum_plan? (bin LeftMerge u v) = false
sum_plan? (bin CommunicationMerge u v) = false
sum_plan? (bin Unless u v) = false

unfoldable pub basic? : Term → Bool
unfolding sum_plan?
basic? u = dead_stop? u || sum_plan? u

-- "basic goes by the words"
abbrev pub basic_term? : Option Term → Bool
basic_term? none = false
basic_term? (some u) = basic? u

unfoldable pub basic_words? : ℕ → List ℕ → Bool
unfolding basic? term_of
basic_words? n ws = basic_term? (term_of n ws)
