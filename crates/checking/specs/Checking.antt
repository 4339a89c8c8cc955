-- The checker: the replay of a rewriting, with steps of both directions, its answer and what it leaves in the areas. (01, "Checking" and the two sections
-- on turning back; request 108.)
use Rattle.std.specs.Prelude.{ℕ, suc, Bool, true, false, cond, ◌&&◌, List, [], ◌∷◌, length, eqb, leb, ltb, Result, Ok, Err}
use Rattle.std.proofs.Math.Option.{Option, none, some}
use Rattle.refusals.specs.declared.Place.TheVariants.{Nowhere, Step}
use Rattle.refusals.specs.declared.Refusal.{Refusal}
use Rattle.refusals.specs.Refusal.{refuse, or_else}
use Rattle.areas.specs.Reached.{capacity, even?, area_a, area_b}
use Rattle.tables.specs.Tables.{Tables, actions}
use Rattle.plans.specs.Judging.{plan_refusal, words_refusal}
use Rattle.laws.specs.Laws.{highest_law, same_bytes}
use Rattle.laws.specs.Step.{step, step_back}
use Rattle.checking.specs.declared.Checked.{Checked}
use Rattle.checking.specs.declared.Checked.TheVariants.{Accepted, TurnedBack}
use Rattle.rewritings.specs.Records.{Recorded, forward, backward, records_of, whole?}

-- a replay: how it ended (0 accepted, or 31 to 33), the steps made, the plan reached and the plan before it
pub record Replay : Type 0 where
  pub number : ℕ
  pub steps : ℕ
  pub plan : List ℕ
  pub before : List ℕ

abbrev pub on_step : Option (List ℕ) → Replay → (List ℕ → Replay) → Replay
on_step none stop go = stop
on_step (some w) stop go = go w

abbrev pub stop_if : Bool → Replay → (Unit {0} → Replay) → Replay
stop_if true stop go = stop
stop_if false stop go = go tt

abbrev pub if_refused : Option Refusal → Option Refusal → Option Refusal
if_refused none r = none
if_refused (some f) r = r

-- the step that a record names
unfoldable pub step_of : Tables → Recorded → List ℕ → Option (List ℕ)
step_of t (forward m) ws = step t m.law m.place ws
step_of t (backward m left) ws = step_back t m.law m.place left ws

-- "17 law 0 or above 32 (first step)", but for a step backwards, whose first byte is 128 more than a law's number: of the records from step i on
unfoldable pub unknown_law : ℕ → List Recorded → Option Refusal
unknown_law i [] = none
unknown_law i (forward m ∷ rs) = cond (leb 1 m.law && leb m.law highest_law) (unknown_law (suc i) rs) (refuse 17 (Step i))
unknown_law i (backward m left ∷ rs) = unknown_law (suc i) rs

-- "After 17, and before any step, a carried left side that isn't an accepted plan gets 75 (first step)": under n actions, from step i on
unfoldable pub left_refusal : ℕ → ℕ → List Recorded → Option Refusal
left_refusal n i [] = none
left_refusal n i (forward m ∷ rs) = left_refusal n (suc i) rs
left_refusal n i (backward m left ∷ rs) = or_else (if_refused (words_refusal n left) (refuse 75 (Step i))) (left_refusal n (suc i) rs)

-- "16 now means a last record cut short"; 16, then 17, then 75, each of the whole rewriting
unfoldable pub records_refusal : ℕ → List ℕ → Option Refusal
unfolding unknown_law left_refusal records_of whole?
records_refusal n rewriting =
    or_else (cond (whole? rewriting) none (refuse 16 Nowhere))
    (or_else (unknown_law 0 (records_of rewriting)) (left_refusal n 0 (records_of rewriting)))

-- "Checker, after the start plan: 18 claimed plan would get 11 to 14; then 15 for the start plan only …", then the records; under n actions, with at
-- most c words to a plan
unfoldable pub rewriting_refusal : ℕ → List ℕ → List ℕ → List ℕ → ℕ → Option Refusal
unfolding records_refusal
rewriting_refusal n start claimed rewriting c =
    or_else (if_refused (words_refusal n claimed) (refuse 18 Nowhere))
    (or_else (cond (ltb c (length start)) (refuse 15 Nowhere) none) (records_refusal n rewriting))

-- tables and start plan first
unfoldable pub check_refusal : Tables → List ℕ → List ℕ → List ℕ → ℕ → Option Refusal
unfolding rewriting_refusal
check_refusal t start claimed rewriting c = or_else (plan_refusal t start) (rewriting_refusal (actions t) start claimed rewriting c)

-- "Accepted when every step fits and the last plan equals the claimed one in its words"; "31 law doesn't fit at that place, or the place is
-- past the end. 32 next plan longer than C. 33 all steps replayed, end differs from the claimed": c words to a plan, the claimed plan and the
-- records to come; k steps made, w the plan, v the one before
unfoldable pub replay : Tables → ℕ → List ℕ → List Recorded → ℕ → List ℕ → List ℕ → Replay
unfolding step_of
replay t c claimed [] k w v = record { number = cond (same_bytes w claimed) 0 33; steps = k; plan = w; before = v }
replay t c claimed (r ∷ rs) k w v =
    on_step (step_of t r w) (record { number = 31; steps = k; plan = w; before = v })
    (λ next. stop_if (ltb c (length next)) (record { number = 32; steps = k; plan = w; before = v })
    (λ u. replay t c claimed rs (suc k) next w))

-- the replay that a check makes
unfoldable pub replay_of : Tables → List ℕ → List ℕ → List ℕ → ℕ → Replay
unfolding replay records_of
replay_of t start claimed rewriting c = replay t c claimed (records_of rewriting) 0 start []

-- everything that a check answers and leaves
pub record CheckOutcome : Type 0 where
  pub answer : Result Checked Refusal
  pub a : List ℕ
  pub b : List ℕ

abbrev pub checked : Replay → Result Checked Refusal
checked r = cond (eqb r.number 0) (Ok (Accepted r.steps (length r.plan))) (Ok (TurnedBack r.number r.steps (length r.plan)))

-- "Areas afterwards are as in unfolding, after the steps made."
abbrev pub settled : Replay → List ℕ → List ℕ → CheckOutcome
settled r a b =
    record {
      answer = checked r;
      a = area_a (even? r.steps) r.plan r.before (length a);
      b = area_b (even? r.steps) r.plan r.before (length b);
    }

abbrev pub unless_refused : Option Refusal → Replay → List ℕ → List ℕ → CheckOutcome
unless_refused (some f) r a b = record { answer = Err f; a = a; b = b }
unless_refused none r a b = settled r a b

unfoldable pub check_outcome : Tables → List ℕ → List ℕ → List ℕ → List ℕ → List ℕ → CheckOutcome
unfolding replay_of check_refusal capacity
check_outcome t start claimed rewriting a b =
    unless_refused (check_refusal t start claimed rewriting (capacity a b)) (replay_of t start claimed rewriting (capacity a b)) a b
