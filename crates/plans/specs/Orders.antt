-- The paths of basic plans counted: orders, which finish, and stuck ones. (01, "Orders, station files, program"; request 103.)
use Rattle.std.specs.Prelude.{ℕ, ◌+◌, cond, List, eqb}
use Rattle.std.proofs.Math.Option.{Option, none, some}
use Rattle.plans.specs.declared.Counts.{Counts}
use Rattle.plans.specs.declared.Binary.TheVariants.{Choice, Sequence, Merge, LeftMerge, CommunicationMerge, Unless}
use Rattle.plans.specs.Term.{Term, act, un, bin, term_of}
use Rattle.plans.specs.Basic.{basic?}

-- Request 103: "Count finishing paths as orders, and paths into a dead stop as stuck." (In the field: completed traces that terminate, and those that end
-- in deadlock.) Paths are counted by the plan's words: one that stands twice counts twice.
abbrev pub no_paths : Counts
no_paths = record { orders = 0; stuck = 0 }

abbrev pub one_order : Counts
one_order = record { orders = 1; stuck = 0 }

abbrev pub one_stuck : Counts
one_stuck = record { orders = 0; stuck = 1 }

abbrev pub both_of : Counts → Counts → Counts
both_of x y = record { orders = x.orders + y.orders; stuck = x.stuck + y.stuck }

-- "The plan `0` has no order and one stuck"; another action is one order, and as in document 01 "a·x counts x's, a sum adds"
unfoldable pub counts : Term → Counts
counts (act a) = cond (eqb a 0) one_stuck one_order
counts (un o u) = no_paths
counts (bin Choice u v) = both_of (counts u) (counts v)
counts (bin Sequence u v) = counts v
counts (bin Merge u v) = no_paths
counts (bin LeftMerge u v) = no_paths
counts (bin CommunicationMerge u v) = no_paths
counts (bin Unless u v) = no_paths

-- "a plan not basic has 0 of both"
abbrev pub term_counts : Option Term → Counts
term_counts none = no_paths
term_counts (some u) = cond (basic? u) (counts u) no_paths

unfoldable pub counts_of : ℕ → List ℕ → Counts
unfolding basic? counts term_of
counts_of n ws = term_counts (term_of n ws)

-- Document 01's count, which "takes a path into a dead stop as an order": "Orders of a basic plan: δ and an action count 1, a·x counts x's, a sum adds"
unfoldable pub path_count : Term → ℕ
path_count (act a) = 1
path_count (un o u) = 0
path_count (bin Choice u v) = path_count u + path_count v
path_count (bin Sequence u v) = path_count v
path_count (bin Merge u v) = 0
path_count (bin LeftMerge u v) = 0
path_count (bin CommunicationMerge u v) = 0
path_count (bin Unless u v) = 0

-- "0 for a plan not basic"
abbrev pub term_path_count : Option Term → ℕ
term_path_count none = 0
term_path_count (some u) = cond (basic? u) (path_count u) 0

unfoldable pub path_count_of : ℕ → List ℕ → ℕ
unfolding basic? path_count term_of
path_count_of n ws = term_path_count (term_of n ws)
