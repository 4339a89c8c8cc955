-- A rewriting turned round: from the plan that it reaches to the one that it starts from. (Request 108.)
use Rattle.std.specs.Prelude.{ℕ, ◌+◌, ◌-◌, List, [], ◌∷◌, ◌++◌, length}
use Rattle.std.proofs.Math.Option.{Option, none, some}
use Rattle.tables.specs.Tables.{Tables, actions}
use Rattle.plans.specs.Term.{words}
use Rattle.plans.specs.Place.{subterm}
use Rattle.rewritings.specs.Records.{Recorded, forward, backward, records_of, bytes_of_all}
use Rattle.checking.specs.Checking.{step_of}

-- a list made of what is there, empty where nothing is
abbrev pub if_there : {A B : Type 0} → Option A → (A → List B) → List B
if_there none f = []
if_there (some x) f = f x

-- where the last word of a subplan stands, which stood at place p of plan w, once a step there has given the plan next
unfoldable pub moved : ℕ → List ℕ → List ℕ → ℕ
moved p w next = (p + length next) - length w

-- the step from next back to w: one from left to right is undone by its law backwards, carrying the subplan that stood there in w; and one
-- backwards by its law from left to right
unfoldable pub turned : Tables → Recorded → List ℕ → List ℕ → Recorded
turned t (forward m) w next = backward (record { law = m.law; place = moved m.place w next }) (if_there (subterm (actions t) w m.place) words)
turned t (backward m left) w next = forward (record { law = m.law; place = moved m.place w next })

-- all steps from plan w on, the last one first
unfoldable pub turned_round : Tables → List Recorded → List ℕ → List Recorded
turned_round t [] w = []
turned_round t (r ∷ rs) w = if_there (step_of t r w) (λ next. turned_round t rs next ++ (turned t r w next ∷ []))

-- the rewriting that leads back to a start plan
unfoldable pub reversed : Tables → List ℕ → List ℕ → List ℕ
reversed t start rewriting = bytes_of_all (turned_round t (records_of rewriting) start)
