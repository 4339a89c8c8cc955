-- Nobody need believe this: contracts of functions cite it. The kinds by which one scan of a plan's words tells whether it is basic.
use Rattle.std.specs.Prelude.{ℕ, Bool, true, false, cond, ◌&&◌, eqb}
use Rattle.plans.specs.declared.Binary.{Binary}
use Rattle.plans.specs.declared.Binary.TheVariants.{Choice, Sequence, Merge, LeftMerge, CommunicationMerge, Unless}
use Rattle.plans.specs.declared.scan.Kind.{Kind}
use Rattle.plans.specs.declared.scan.Kind.TheVariants.{NotBasic, DeadStop, LiveAction, SumPlan}

-- of a basic plan, of a sum_plan, of an action other than 0
abbrev pub basic_kind? : Kind → Bool
basic_kind? NotBasic = false
basic_kind? DeadStop = true
basic_kind? LiveAction = true
basic_kind? SumPlan = true

abbrev pub sum_kind? : Kind → Bool
sum_kind? NotBasic = false
sum_kind? DeadStop = false
sum_kind? LiveAction = true
sum_kind? SumPlan = true

abbrev pub live_kind? : Kind → Bool
live_kind? NotBasic = false
live_kind? DeadStop = false
live_kind? LiveAction = true
live_kind? SumPlan = false

unfoldable pub action_kind : ℕ → Kind
action_kind a = cond (eqb a 0) DeadStop LiveAction

-- "such an action · a basic plan, or sum_plan + sum_plan"
unfoldable pub joined_kind : Binary → Kind → Kind → Kind
joined_kind Choice x y = cond (sum_kind? x && sum_kind? y) SumPlan NotBasic
joined_kind Sequence x y = cond (live_kind? x && basic_kind? y) SumPlan NotBasic
joined_kind Merge x y = NotBasic
joined_kind LeftMerge x y = NotBasic
joined_kind CommunicationMerge x y = NotBasic
joined_kind Unless x y = NotBasic
