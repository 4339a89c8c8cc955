-- Nobody need believe this: contracts of functions cite it. What the parts of the checker answer: the records judged one by one, and the replay before
-- its end is compared.
use Rattle.std.specs.Prelude.{ℕ, ◌+◌, ◌≡◌, cond, ◌&&◌, List, ◌∷◌, eqb, leb, Result, Ok, Err, ⊤}
use Rattle.std.proofs.Math.Option.{Option, none, some}
use Rattle.refusals.specs.declared.Refusal.{Refusal}
use Rattle.refusals.specs.declared.Place.TheVariants.{Step}
use Rattle.refusals.specs.Refusal.{refuse}
use Rattle.plans.specs.Judging.{words_refusal}
use Rattle.laws.specs.Laws.{same_bytes, highest_law}
use Rattle.areas.specs.Storing.{before, Kept}
use Rattle.tables.specs.Tables.{Tables}
use Rattle.steps.specs.Working.{plan_in, Working, fault_number}
use Rattle.buffer.specs.declared.State.{State}
use Rattle.steps.specs.declared.NotMade.{NotMade}
use Rattle.rewritings.specs.Moves.{Move}
use Rattle.rewritings.specs.Records.{Recorded, forward, backward}
use Rattle.checking.specs.Checking.{if_refused, unknown_law, left_refusal, replay}

-- 17 of one step from left to right, step i, of law k; and 75 of the left side that step i carries, under n actions
abbrev pub law_refusal : ℕ → ℕ → Option Refusal
law_refusal k i = cond (leb 1 k && leb k highest_law) none (refuse 17 (Step i))

abbrev pub carried_refusal : ℕ → List ℕ → ℕ → Option Refusal
carried_refusal n left i = if_refused (words_refusal n left) (refuse 75 (Step i))

-- what was found before, else what is found from here on
abbrev pub else_found : Result ⊤ Refusal → Option Refusal → Option Refusal
else_found (Ok tt) o = o
else_found (Err f) o = some f

-- 17 and 75 of one record more: a step from left to right of law k is step i, or a left side is carried in it
abbrev pub LawJudged : ℕ → ℕ → Result ⊤ Refusal → Result ⊤ Refusal → Type 0
LawJudged k i found r =
    (p : ℕ) (rs : List Recorded) → else_found r (unknown_law (i + 1) rs) ≡ else_found found (unknown_law i (forward (record { law = k; place = p }) ∷ rs))

abbrev pub LeftJudged : ℕ → List ℕ → ℕ → Result ⊤ Refusal → Result ⊤ Refusal → Type 0
LeftJudged n left i found r =
    (m : Move) (rs : List Recorded) → else_found r (left_refusal n (i + 1) rs) ≡ else_found found (left_refusal n i (backward m left ∷ rs))

-- "33 all steps replayed, end differs from the claimed"
unfoldable pub compared : ℕ → List ℕ → List ℕ → ℕ
compared number w claimed = cond (eqb number 0) (cond (same_bytes w claimed) 0 33) number

-- how a replay ended: 31 or 32, or 0 where all steps were made; and the state then
abbrev pub number_of : Result State NotMade → ℕ
number_of (Ok s) = 0
number_of (Err e) = fault_number e.fault

abbrev pub state_of : Result State NotMade → State
state_of (Ok s) = s
state_of (Err e) = e.state

-- The records rs are replayed from plan w, with v before it and k steps made: stopped by 31 or 32, or all made (0) and the end not yet compared.
pub record Replayed (t : Tables) (c : ℕ) (rs : List Recorded) (k : ℕ) (w v : List ℕ) (left starts right old : List ℕ) (r : Result State NotMade) : Type 0 where
  pub working : Working t left starts right (state_of r)
  pub kept : Kept c (plan_in left right (state_of r)) old (state_of r).made
  pub outcome : (claimed : List ℕ)
      → replay t c claimed rs k w v
      ≡ record {
        number = compared (number_of r) (plan_in left right (state_of r)) claimed;
        steps = (state_of r).made.steps;
        plan = plan_in left right (state_of r);
        before = before (state_of r).made (plan_in left right (state_of r)) old;
      }
