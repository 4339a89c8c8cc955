-- What is claimed of an unfolding and of a check as wholes, and of a single step. (Demands 3 and 2; requests 108 and 109.)
use Rattle.refusals.specs.declared.Refusal.{Refusal}
use Rattle.std.specs.Prelude.{ℕ, ◌*◌, ◌≤◌, ◌<◌, ◌≡◌, true, ◌↔◌, get_or, Result, Ok}
use mathlib.Core.List.{List, [], ◌∷◌}
use Rattle.std.proofs.Math.ListN.{length}
use Rattle.areas.specs.Area.{padded}
use Rattle.areas.specs.Reached.{capacity}
use Rattle.tables.specs.Tables.{Tables}
use Rattle.plans.specs.Accepted.{AcceptedPlan, BasicPlan}
use Rattle.trees.specs.Meaning.{AlikePlans}
use Rattle.rewritings.specs.Moves.{Move}
use Rattle.rewritings.specs.Records.{Recorded, forward, backward, bytes_of_one, records_of, whole?}
use Rattle.unfolding.specs.declared.Unfolded.TheVariants.{Finished, Stopped}
use Rattle.unfolding.specs.Unfolding.{UnfoldOutcome}
use Rattle.checking.specs.declared.Checked.{Checked}
use Rattle.checking.specs.declared.Checked.TheVariants.{Accepted, TurnedBack}
use Rattle.checking.specs.Checking.{check_outcome, CheckOutcome}
use Rattle.laws.specs.Laws.{highest_law}
use Rattle.laws.specs.Fits.{FitsAt, FitsBackAt}
pub use Rattle.demands.specs.Reports.{UnfoldGiven, unfold_given, Reports, finished, stopped, own_rewriting, reached_in, Stops, allowance_spent, list_full, next_too_long}
use Rattle.demands.specs.Allowance.{steps_needed, end_plan, EndClaims, AllowanceClaims}
use Rattle.demands.specs.Former.{ForwardList, former_outcome}
use Rattle.demands.specs.Reversed.{reversed}

-- Of an unfolding, by what was given and what it answered and left:
pub record UnfoldClaims (given : UnfoldGiven) (left : UnfoldOutcome) : Type 0 where
  -- "For all accepted tables, every accepted plan that the areas can hold, every step allowance and every length of the list": these, and no
  -- others, are answered by a run
  pub answered : (AcceptedPlan given.tables given.plan × (length given.plan ≤ capacity given.a given.b))
      ↔ ((steps : ℕ) × (size : ℕ) × Reports left.answer steps size)
  -- "The answer has the steps made; they are exactly the records in the list", three bytes to a step; "All bytes … past the records are zero"
  pub recorded : (steps size : ℕ) → Reports left.answer steps size
      → (length (own_rewriting steps left.list) ≡ 3 * steps)
      × (left.list ≡ padded (own_rewriting steps left.list) (length given.list))
  -- "given the same tables and areas of the same lengths, the checker accepts the unfolding's own rewriting, whole, from the given plan to
  -- the one reached", "whether the unfolding finished or ended in 34, 35 or 36"
  pub own_rewriting_accepted : (steps size : ℕ) → Reports left.answer steps size
      → (a b : List ℕ) → length a ≡ length given.a → length b ≡ length given.b
      → (check_outcome given.tables given.plan (reached_in left steps size) (own_rewriting steps left.list) a b).answer
      ≡ Ok (Accepted steps size)
  -- "So the trees of these two plans are alike as well."
  pub reached_alike : (steps size : ℕ) → Reports left.answer steps size
      → AlikePlans given.tables given.plan (reached_in left steps size)
  -- "it says finished exactly when the plan reached is basic"
  pub finished_iff_basic : (steps size : ℕ) → Reports left.answer steps size
      → (left.answer ≡ Ok (Finished steps size)) ↔ BasicPlan given.tables (reached_in left steps size)
  -- "the steps and the ending are those that document 01 gives": else it ends in 34, 35 or 36, each where its condition is the first to hold
  pub stopped_rightly : (number steps size : ℕ) → left.answer ≡ Ok (Stopped number steps size)
      → Stops given.tables given.allowance (length given.list) (capacity given.a given.b) (reached_in left steps size) steps number
  -- Request 109: "For every accepted plan and tables, the run of steps without limits comes after some number of steps to a basic plan."
  pub comes_to_an_end : (p : AcceptedPlan given.tables given.plan)
      → EndClaims given.tables given.plan (steps_needed given.tables given.plan p) (end_plan given.tables given.plan p)
  -- and what that number and that plan say of this allowance, of fewer steps and of more
  pub allowances : (p : AcceptedPlan given.tables given.plan) → length given.plan ≤ capacity given.a given.b
      → AllowanceClaims given (steps_needed given.tables given.plan p) (end_plan given.tables given.plan p) left

-- "Given tables, start plan, claimed end plan, rewriting, areas A and B"
pub record CheckGiven : Type 0 where
  pub tables : Tables
  pub start : List ℕ
  pub claimed : List ℕ
  pub rewriting : List ℕ
  pub a : List ℕ
  pub b : List ℕ

abbrev pub check_given : Tables → List ℕ → List ℕ → List ℕ → List ℕ → List ℕ → CheckGiven
check_given t start claimed rewriting a b =
    record { tables = t; start = start; claimed = claimed; rewriting = rewriting; a = a; b = b }

-- the law and the place of a step, and that a left side, where one is carried, is an accepted plan
abbrev pub move_of : Recorded → Move
move_of (forward m) = m
move_of (backward m left) = m

abbrev pub CarriesPlan : Tables → Recorded → Type 0
CarriesPlan t (forward m) = Unit
CarriesPlan t (backward m left) = AcceptedPlan t left

-- a record that is taken: not one for "17 law 0 or above 32", nor for "a carried left side that isn't an accepted plan gets 75"
pub record Taken (t : Tables) (r : Recorded) : Type 0 where
  pub first_law : 1 ≤ (move_of r).law
  pub last_law : (move_of r).law ≤ highest_law
  pub carries_plan : CarriesPlan t r

-- all of a list are taken
abbrev pub TakenAll : Tables → List Recorded → Type 0
TakenAll t [] = Unit
TakenAll t (r ∷ rs) = Taken t r × TakenAll t rs

-- the law of a record fits there, as people read it, and gives the plan vs: from left to right, or backwards with the left side carried
abbrev pub FitsRecord : Tables → Recorded → List ℕ → List ℕ → Type 0
FitsRecord t (forward m) ws vs = FitsAt t m.law m.place ws vs
FitsRecord t (backward m left) ws vs = FitsBackAt t m.law m.place left ws vs

-- Records that lead from one plan to another, with at most c words to a plan: "every step fits", and none has "32 next plan longer than C".
pub data Leads (t : Tables) (c : ℕ) : List Recorded → List ℕ → List ℕ → Type 0 where
  -- the empty list leads from a plan to itself: "the last plan equals the claimed one in its words"
  at_end : {w : List ℕ} → Leads t c [] w w
  -- a record that fits gives the next plan, and the others lead on from there
  by_step : {r : Recorded} {rs : List Recorded} {w z : List ℕ} (next : List ℕ) → FitsRecord t r w next → length next ≤ c → Leads t c rs next z
      → Leads t c (r ∷ rs) w z

-- What a check accepts, with so many steps made and so many words reached: "Accepted when every step fits and the last plan equals the claimed
-- one in its words", of what is not refused.
pub record Derivation (given : CheckGiven) (steps size : ℕ) : Type 0 where
  -- tables and start plan get none of 1 to 8 and 11 to 14
  pub accepted_start : AcceptedPlan given.tables given.start
  -- "18 claimed plan would get 11 to 14"
  pub accepted_claimed : AcceptedPlan given.tables given.claimed
  -- "then 15 for the start plan only"
  pub held : length given.start ≤ capacity given.a given.b
  -- "16 now means a last record cut short"
  pub none_short : whole? given.rewriting ≡ true
  -- 17 and 75
  pub taken : TakenAll given.tables (records_of given.rewriting)
  -- 31, 32 and 33
  pub leads : Leads given.tables (capacity given.a given.b) (records_of given.rewriting) given.start given.claimed
  -- the steps made are the records, and the plan reached is the claimed one
  pub counted : steps ≡ length (records_of given.rewriting)
  pub sized : size ≡ length given.claimed

-- Of a check, by what was given and what it answered and left:
pub record CheckClaims (given : CheckGiven) (left : CheckOutcome) : Type 0 where
  -- it accepts exactly the derivations
  pub accepted_exactly : (steps size : ℕ) → (left.answer ≡ Ok (Accepted steps size)) ↔ Derivation given steps size
  -- "if it accepts, the trees of the start plan and of the claimed end plan are alike"; "accepted still means that the trees are alike"
  pub accepted_alike : (steps size : ℕ) → left.answer ≡ Ok (Accepted steps size) → AlikePlans given.tables given.start given.claimed
  -- "A list of forward steps is answered as before": the whole outcome is the former one
  pub forward_as_before : ForwardList given.rewriting
      → left ≡ former_outcome given.tables given.start given.claimed given.rewriting given.a given.b
  -- a rewriting can be turned round: what is accepted has a reverse that is accepted from the claimed plan to the start plan, with as many steps
  -- and in areas of the same lengths
  pub reversed_accepted : (steps size : ℕ) → left.answer ≡ Ok (Accepted steps size)
      → (a b : List ℕ) → length a ≡ length given.a → length b ≡ length given.b
      → (check_outcome given.tables given.claimed given.start (reversed given.tables given.start given.rewriting) a b).answer
      ≡ Ok (Accepted steps (length given.start))
  -- and that reverse is a list of bytes
  pub reversed_bytes : (steps size : ℕ) → left.answer ≡ Ok (Accepted steps size)
      → (i : ℕ) → get_or (reversed given.tables given.start given.rewriting) i 0 < 256

-- "For every law, place and accepted plan that the areas can hold"; "A single step is a rewriting of one record, with any accepted plan claimed"
pub record SingleStep (given : CheckGiven) (r : Recorded) : Type 0 where
  pub accepted_start : AcceptedPlan given.tables given.start
  pub held : length given.start ≤ capacity given.a given.b
  pub accepted_claimed : AcceptedPlan given.tables given.claimed
  pub taken : Taken given.tables r
  pub one_record : given.rewriting ≡ bytes_of_one r

-- the answer to one step made, to plan w: accepted where that is the plan claimed, else "33 all steps replayed, end differs from the claimed"
pub data Makes (w claimed : List ℕ) : Result Checked Refusal → Type 0 where
  as_claimed : w ≡ claimed → Makes w claimed (Ok (Accepted 1 (length w)))
  differs : (w ≡ claimed → ⊥) → Makes w claimed (Ok (TurnedBack 33 1 (length w)))

-- what is left where no step is made: the start plan in A, zeros in B
abbrev pub unmade : CheckGiven → ℕ → CheckOutcome
unmade given number =
    record {
      answer = Ok (TurnedBack number 0 (length given.start));
      a = padded given.start (length given.a);
      b = padded [] (length given.b);
    }

-- Demand 2, of a check of a single step of either direction, by what was given and what it answered and left:
pub record StepClaims (given : CheckGiven) (left : CheckOutcome) : Type 0 where
  -- "a step is made exactly when that law's left side, as published, fits there and the next plan isn't too long for the areas; it gives the
  -- plan with the right side put in"; backwards "it fits when that law, applied at the last of those words, gives exactly the subplan at the
  -- place. The whole left side then replaces it": "its plan stands in B, also under 33"
  pub made : (r : Recorded) → SingleStep given r
      → (w : List ℕ) → FitsRecord given.tables r given.start w → length w ≤ capacity given.a given.b
      → Makes w given.claimed left.answer × (left.a ≡ padded given.start (length given.a)) × (left.b ≡ padded w (length given.b))
  -- "31 law doesn't fit at that place, or the place is past the end"
  pub not_fitting : (r : Recorded) → SingleStep given r
      → ((w : List ℕ) → FitsRecord given.tables r given.start w → ⊥) → left ≡ unmade given 31
  -- "32 next plan longer than C"
  pub too_long : (r : Recorded) → SingleStep given r
      → (w : List ℕ) → FitsRecord given.tables r given.start w → capacity given.a given.b < length w → left ≡ unmade given 32
