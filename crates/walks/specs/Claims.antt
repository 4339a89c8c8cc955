-- What is claimed of the calls of a walk, said of the paths of trees and of marked subplans. (Request 102.)
use Rattle.std.specs.Prelude.{ℕ, ◌≤◌, ◌<◌, ◌≡◌, Bool, true, false, ◌↔◌, ◌⊎◌, length, get_or, Result, Ok, Err, ⊤}
use mathlib.Core.List.{List, [], ◌∷◌, ◌++◌}
use Rattle.std.proofs.Math.Option.{some}
use Rattle.refusals.specs.declared.Place.TheVariants.{Nowhere}
use Rattle.refusals.specs.declared.Refusal.{Refusal}
use Rattle.tables.specs.Tables.{Tables, actions}
use Rattle.plans.specs.Term.{Term}
use Rattle.plans.specs.Judging.{plan_refusal}
use Rattle.plans.specs.Accepted.{AcceptedPlan, BasicPlan}
use Rattle.trees.specs.Tree.{Rest, finish, further, Alike}
use Rattle.trees.specs.Meaning.{tree}
use Rattle.paths.specs.Paths.{Leads, Begins, Finishes}
use Rattle.paths.specs.Subplans.{place_of, Target, subplan, Transitions, rest_of}
use Rattle.walks.specs.Progress.{Progress, Marked, fresh}
use Rattle.walks.specs.Outcome.{WalkOutcome, accepted_outcome, refused_outcome, walk_outcome}
use Rattle.walks.specs.Reached.{FromMark, FromMarkTo, MarkedBranch}

-- a plan that can be walked with these marks: it is basic, and each of its words has one mark byte
pub record Walkable (t : Tables) (plan marks : List ℕ) : Type 0 where
  pub basic : BasicPlan t plan
  pub fits : length marks ≡ length plan

-- why a plan cannot be walked with these marks: "A plan that isn't basic, or marks of another length than the plan, get 70 straight after 1 to 14"
pub data NotWalkable (t : Tables) (plan marks : List ℕ) : Refusal → Type 0 where
  by_plan : (r : Refusal) → plan_refusal t plan ≡ some r → NotWalkable t plan marks r
  not_basic : AcceptedPlan t plan → (BasicPlan t plan → ⊥) → NotWalkable t plan marks (record { number = 70; place = Nowhere })
  other_length : AcceptedPlan t plan → (length marks ≡ length plan → ⊥) → NotWalkable t plan marks (record { number = 70; place = Nowhere })

-- a message, kept in a list where it was taken
abbrev pub if_taken : Result ⊤ Refusal → ℕ → List ℕ → List ℕ
if_taken (Ok tt) m ms = m ∷ ms
if_taken (Err r) m ms = ms

-- Calls of `walk` with messages one after another, from a progress.
module _ (t : Tables) (plan : List ℕ) where
  -- the progress after them
  unfoldable pub walked : Progress → List ℕ → Progress
  unfolding walk_outcome
  walked p [] = p
  walked p (m ∷ ms) = walked (walk_outcome t plan m p).progress ms

  -- those of them that were taken
  unfoldable pub messages_taken : Progress → List ℕ → List ℕ
  unfolding walk_outcome
  messages_taken p [] = []
  messages_taken p (m ∷ ms) = if_taken (walk_outcome t plan m p).answer m (messages_taken (walk_outcome t plan m p).progress ms)

-- what the hub is told of a message brought: whether it is taken, and whether the messages taken can then end in a finish
pub record Reply : Type 0 where
  pub taken : Bool
  pub finish : Bool

abbrev pub accepted? : Result ⊤ Refusal → Bool
accepted? (Ok tt) = true
accepted? (Err r) = false

abbrev pub reply_of : WalkOutcome → Reply
reply_of o = record { taken = accepted? o.answer; finish = o.progress.finish }

unfoldable pub replies : Tables → List ℕ → Progress → List ℕ → List Reply
unfolding walk_outcome
replies t plan p [] = []
replies t plan p (m ∷ ms) = reply_of (walk_outcome t plan m p) ∷ replies t plan (walk_outcome t plan m p).progress ms

-- What holds after the messages ms, brought one after another to a walk of the basic plan u that stood at p when it was fresh.
pub record AfterMessages (t : Tables) (plan : List ℕ) (u : Term) (p : Progress) (ms : List ℕ) : Type 0 where
  -- "a message is taken exactly when some path of the tree begins with the messages taken so far and this one"
  pub taken_exactly : (m : ℕ) → ((walk_outcome t plan m (walked t plan p ms)).answer ≡ Ok tt) ↔ Begins (tree t u) (messages_taken t plan p ms ++ (m ∷ []))
  -- "whether exactly those messages can end in a finish"
  pub finish_exactly : ((walked t plan p ms).finish ≡ true) ↔ Finishes (tree t u) (messages_taken t plan p ms)
  -- "the set of all subplans that the messages so far can have led to": place k is marked exactly when they lead from the whole plan to the
  -- subplan there
  pub marks_exactly : (k : ℕ) → Marked (walked t plan p ms).marks k
      ↔ ((r : ℕ) × (w : Term) × (place_of r w ≡ k) × Transitions (subplan 0 u) (messages_taken t plan p ms) (subplan r w))
  -- and what they lead to in the plan is what they lead to in its tree
  pub paths_exactly : (r : Rest) → Leads (further (tree t u)) (messages_taken t plan p ms) r
      ↔ ((g : Target) × (r ≡ rest_of t g) × Transitions (subplan 0 u) (messages_taken t plan p ms) g)
  -- "one mark byte for each word", and "a mark is written as 1"
  pub one_byte_each : length (walked t plan p ms).marks ≡ length plan
  pub written_as_one : (k : ℕ) → get_or (walked t plan p ms).marks k 0 ≤ 1

-- Of the outcome o of a fresh walk begun where the progress p stood.
pub record FreshClaims (t : Tables) (plan : List ℕ) (p : Progress) (o : WalkOutcome) : Type 0 where
  -- it begins exactly when the plan can be walked with marks of that length, and then one mark stands, at the last word
  pub begun_exactly : (o ≡ accepted_outcome (fresh plan)) ↔ Walkable t plan p.marks
  pub refused_exactly : (r : Refusal) → (o ≡ refused_outcome r p) ↔ NotWalkable t plan p.marks r
  -- there is no other outcome
  pub nothing_else : (o ≡ accepted_outcome (fresh plan)) ⊎ ((r : Refusal) × (o ≡ refused_outcome r p))
  -- "For every list of messages from a fresh walk"
  pub every_list : o.answer ≡ Ok tt → (b : BasicPlan t plan) (ms : List ℕ) → AfterMessages t plan b.plan.term o.progress ms
  -- trees alone decide: a fresh walk of a plan with an alike tree, under whatever tables, takes the same messages and finishes alike at every point
  pub trees_decide : o.answer ≡ Ok tt → (b : BasicPlan t plan) (t' : Tables) (other : List ℕ) (c : BasicPlan t' other)
      → Alike (tree t b.plan.term) (tree t' c.plan.term) → (ms : List ℕ) → replies t plan o.progress ms ≡ replies t' other (fresh other) ms

-- Message m, brought to the progress p, is taken and leaves the progress q.
pub record Taken (t : Tables) (plan : List ℕ) (m : ℕ) (p q : Progress) : Type 0 where
  pub walkable : Walkable t plan p.marks
  -- the tree of some marked subplan has a branch with it
  pub branch : (r : Rest) × MarkedBranch (actions t) plan p.marks t m r
  -- what stands afterwards is the set of what these branches lead to: place k is marked exactly when the message leads from a marked
  -- subplan to the subplan there, and a finish is reached exactly when a branch with it finishes
  pub marks_exactly : (k : ℕ) → Marked q.marks k ↔ FromMarkTo (actions t) plan p.marks (m ∷ []) k
  pub finish_exactly : (q.finish ≡ true) ↔ MarkedBranch (actions t) plan p.marks t m finish
  pub one_byte_each : length q.marks ≡ length plan
  pub written_as_one : (k : ℕ) → get_or q.marks k 0 ≤ 1

-- Why a message is refused: "an action outside 1 to n gets 71, and a message that no path goes on with gets 72, in that order"
pub data NotTaken (t : Tables) (plan : List ℕ) (m : ℕ) (p : Progress) : Refusal → Type 0 where
  not_walkable : (r : Refusal) → NotWalkable t plan p.marks r → NotTaken t plan m p r
  outside : Walkable t plan p.marks → (m ≡ 0) ⊎ (actions t < m) → NotTaken t plan m p (record { number = 71; place = Nowhere })
  no_path : Walkable t plan p.marks → 1 ≤ m → m ≤ actions t → ((r : Rest) → MarkedBranch (actions t) plan p.marks t m r → ⊥)
      → NotTaken t plan m p (record { number = 72; place = Nowhere })

-- Of the outcome o of message m brought to the progress p, any marks and any finish.
pub record WalkClaims (t : Tables) (plan : List ℕ) (m : ℕ) (p : Progress) (o : WalkOutcome) : Type 0 where
  -- it is taken and leaves q, every byte of it, exactly when `Taken` holds
  pub taken_exactly : (q : Progress) → (o ≡ accepted_outcome q) ↔ Taken t plan m p q
  pub refused_exactly : (r : Refusal) → (o ≡ refused_outcome r p) ↔ NotTaken t plan m p r
  -- there is no other outcome
  pub nothing_else : ((q : Progress) × (o ≡ accepted_outcome q)) ⊎ ((r : Refusal) × (o ≡ refused_outcome r p))
  -- what the message leads to is what the branches of the marked subplans' trees leave
  pub branches_exactly : Walkable t plan p.marks → (r : Rest)
      → MarkedBranch (actions t) plan p.marks t m r ↔ ((g : Target) × (r ≡ rest_of t g) × FromMark (actions t) plan p.marks (m ∷ []) g)
