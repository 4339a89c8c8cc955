-- What is claimed of the answer, said of the paths of the plan's tree and of the words of the plan. (Request 105.)
use Rattle.std.specs.Prelude.{ℕ, suc, ◌≤◌, ◌<◌, ◌≡◌, ◌↔◌, length, get_or, Result, Ok, Err, Some, None, Option as Maybe}
use mathlib.Core.List.{List, [], ◌∷◌, ◌++◌, Memᴰ}
use Rattle.std.proofs.Math.Option.{some}
use Rattle.refusals.specs.declared.Place.TheVariants.{Nowhere}
use Rattle.refusals.specs.declared.Refusal.{Refusal}
use Rattle.tables.specs.Tables.{Tables, actions}
use Rattle.plans.specs.Term.{Term}
use Rattle.plans.specs.Judging.{plan_refusal}
use Rattle.plans.specs.Accepted.{AcceptedPlan, BasicPlan}
use Rattle.trees.specs.Tree.{finish}
use Rattle.trees.specs.Meaning.{tree}
use Rattle.paths.specs.Paths.{Whole, Begins}
use Rattle.paths.specs.Subplans.{subplan, Transitions}
use Rattle.paths.specs.Ends.{PathTo}
use Rattle.paths.specs.Appearances.{actions_before}

-- an action is one of a list
abbrev pub Among : ℕ → List ℕ → Type 0
Among a ms = Memᴰ a ms

-- "each appearance of the second has the first somewhere before it", on every list of actions that is such a path
abbrev pub Precedes : (List ℕ → Type 0) → ℕ → ℕ → Type 0
Precedes Path first second = (ms ks : List ℕ) → Path (ms ++ (second ∷ ks)) → Among first ms

-- two different actions of 1 to n
pub record Pair (t : Tables) (first second : ℕ) : Type 0 where
  pub different : first ≡ second → ⊥
  pub first_inside : (1 ≤ first) × (first ≤ actions t)
  pub second_inside : (1 ≤ second) × (second ≤ actions t)

-- what is answered yes or no: such a pair, and a basic plan
pub record Answered (t : Tables) (plan : List ℕ) (first second : ℕ) : Type 0 where
  pub pair : Pair t first second
  pub basic : BasicPlan t plan

-- what is not: "Equal actions, or one outside 1 to n, get 73, checked before 70"; "A plan that isn't basic still gets 70"
pub data NotAnswered (t : Tables) (plan : List ℕ) (first second : ℕ) : Refusal → Type 0 where
  by_plan : (r : Refusal) → plan_refusal t plan ≡ some r → NotAnswered t plan first second r
  not_a_pair : AcceptedPlan t plan → (Pair t first second → ⊥) → NotAnswered t plan first second (record { number = 73; place = Nowhere })
  not_basic : AcceptedPlan t plan → Pair t first second → (BasicPlan t plan → ⊥)
      → NotAnswered t plan first second (record { number = 70; place = Nowhere })

-- The least place of an appearance of the second action that has none of the first before it on its path, u being the plan's term.
pub record Overtaking (plan : List ℕ) (u : Term) (first second p : ℕ) : Type 0 where
  -- "the place of an appearance"
  pub inside : p < length plan
  pub appears : get_or plan p 0 ≡ second
  -- "that has none before it on its path"
  pub none_before : Among first (actions_before 0 u p) → ⊥
  -- "the least such place"
  pub least : (q : ℕ) → q < p → get_or plan q 0 ≡ second → Among first (actions_before 0 u q)

-- Of the answer r.
pub record PrecedenceClaims (t : Tables) (plan : List ℕ) (first second : ℕ) (r : Result (Maybe ℕ) Refusal) : Type 0 where
  -- "whether on every path each appearance of the second has the first somewhere before it": paths that finish and paths into a dead stop
  pub yes_exactly : (r ≡ Ok None) ↔ ((a : Answered t plan first second) × Precedes (Whole (tree t a.basic.plan.term)) first second)
  -- and their beginnings
  pub beginnings : (r ≡ Ok None) ↔ ((a : Answered t plan first second) × Precedes (Begins (tree t a.basic.plan.term)) first second)
  pub no_exactly : (p : ℕ) → (r ≡ Ok (Some p)) ↔ ((a : Answered t plan first second) × Overtaking plan a.basic.plan.term first second p)
  -- the path to that place can be shown: some path of the tree begins with the actions before it, and then the second action
  pub shown : (p : ℕ) → r ≡ Ok (Some p) → (b : BasicPlan t plan) → Begins (tree t b.plan.term) (actions_before 0 b.plan.term p ++ (second ∷ []))
  pub refused_exactly : (f : Refusal) → (r ≡ Err f) ↔ NotAnswered t plan first second f
  -- the actions before words are those of paths: where a path of the plan finishes at a word, its actions are those before that word and then the word's
  -- own; and so are messages that lead to the subplan that starts just behind a word
  pub finishes_at : (b : BasicPlan t plan) (ms : List ℕ) (p : ℕ) → PathTo 0 b.plan.term ms finish p
      → ms ≡ actions_before 0 b.plan.term p ++ (get_or plan p 0 ∷ [])
  pub leads_from : (b : BasicPlan t plan) (ms : List ℕ) (p : ℕ) (y : Term) → Transitions (subplan 0 b.plan.term) ms (subplan (suc p) y)
      → ms ≡ actions_before 0 b.plan.term p ++ (get_or plan p 0 ∷ [])
  -- and so are those of the tree: some path has action a behind the actions ms exactly when ms are those before some word a
  pub appearances : (b : BasicPlan t plan) (ms : List ℕ) (a : ℕ) → 1 ≤ a → a ≤ actions t
      → Begins (tree t b.plan.term) (ms ++ (a ∷ []))
      ↔ ((p : ℕ) × (p < length plan) × (get_or plan p 0 ≡ a) × (actions_before 0 b.plan.term p ≡ ms))
