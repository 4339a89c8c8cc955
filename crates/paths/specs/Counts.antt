-- What is claimed of a plan's counts, said of paths. (Request 103.)
use Rattle.std.specs.Prelude.{ℕ, ◌+◌, ◌<◌, ◌≡◌, List, [], ◌∷◌, ◌++◌, ◌↔◌, length, get_or}
use Rattle.tables.specs.Tables.{Tables, actions}
use Rattle.plans.specs.declared.Counts.{Counts}
use Rattle.plans.specs.Term.{Term}
use Rattle.plans.specs.Orders.{no_paths, path_count_of}
use Rattle.plans.specs.Accepted.{BasicPlan}
use Rattle.trees.specs.Tree.{stop, Rest, finish, further}
use Rattle.trees.specs.Meaning.{tree}
use Rattle.paths.specs.Paths.{Finishes, Sticks}
use Rattle.paths.specs.Ends.{PathTo, EndsAt, HowMany}

-- Of the counts c of a basic plan, u being its term.
pub record BasicCounts (t : Tables) (plan : List ℕ) (u : Term) (c : Counts) : Type 0 where
  -- "Count finishing paths as orders, and paths into a dead stop as stuck": so many words of the plan end a path that finishes, and so many one that is
  -- stuck
  pub orders_exactly : HowMany (EndsAt finish u) (length plan) c.orders
  pub stuck_exactly : HowMany (EndsAt (further stop) u) (length plan) c.stuck
  -- a path ends at a word of the plan (`inside`), a stuck one at a 0, and one that finishes at its last action
  pub inside : (p : ℕ) (ms : List ℕ) (e : Rest) → PathTo 0 u ms e p → p < length plan
  pub stuck_at : (p : ℕ) (ms : List ℕ) → PathTo 0 u ms (further stop) p → get_or plan p 0 ≡ 0
  pub finished_at : (p : ℕ) (ms : List ℕ) → PathTo 0 u ms finish p → (ks : List ℕ) × (ms ≡ ks ++ (get_or plan p 0 ∷ []))
  -- and that word tells its actions and how it ends
  pub one_path : (p : ℕ) (ms ks : List ℕ) (e f : Rest) → PathTo 0 u ms e p → PathTo 0 u ks f p → (ms ≡ ks) × (e ≡ f)
  -- these are the paths of the tree
  pub finishing_paths : (ms : List ℕ) → Finishes (tree t u) ms ↔ ((p : ℕ) × PathTo 0 u ms finish p)
  pub stuck_paths : (ms : List ℕ) → Sticks (tree t u) ms ↔ ((p : ℕ) × PathTo 0 u ms (further stop) p)
  -- and so there is no order exactly when no path of the tree finishes, and none is stuck exactly when no path leads to a dead stop
  pub no_order : (c.orders ≡ 0) ↔ ((ms : List ℕ) → Finishes (tree t u) ms → ⊥)
  pub no_stuck : (c.stuck ≡ 0) ↔ ((ms : List ℕ) → Sticks (tree t u) ms → ⊥)

-- Of the counts c of an accepted plan.
pub record CountClaims (t : Tables) (plan : List ℕ) (c : Counts) : Type 0 where
  pub basic : (b : BasicPlan t plan) → BasicCounts t plan b.plan.term c
  -- "a plan not basic has 0 of both"
  pub not_basic : (BasicPlan t plan → ⊥) → c ≡ no_paths
  -- "Document 01's count takes a path into a dead stop as an order": what it gave is orders and stuck together
  pub together : c.orders + c.stuck ≡ path_count_of (actions t) plan
