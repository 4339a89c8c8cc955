-- The run of the unfolding's steps without limits, and what it is for it to come to an end. (01, "Unfolding"; request 109.)
use Rattle.std.specs.Prelude.{ℕ, suc, ◌≤◌, ◌≡◌, true, List, length}
use Rattle.std.proofs.Math.Option.{none, some}
use Rattle.tables.specs.Tables.{Tables, actions}
use Rattle.plans.specs.Basic.{basic_words?}
use Rattle.plans.specs.Accepted.{BasicWords}
use Rattle.rewritings.specs.Choice.{Found, next_step}

-- so many of the unfolding's steps, from one plan to another: neither steps, list nor areas are limited
pub data Steps (t : Tables) : ℕ → List ℕ → List ℕ → Type 0 where
  none_left : {w : List ℕ} → Steps t 0 w w
  one_more : {k : ℕ} {w v : List ℕ} (s : Found) → next_step t w ≡ some s → Steps t k s.plan v → Steps t (suc k) w v

-- every plan of the run from plan w has at most c words
abbrev pub Within : Tables → ℕ → List ℕ → Type 0
Within t c w = (k : ℕ) (v : List ℕ) → Steps t k w v → length v ≤ c

-- "the run of steps without limits comes after some number of steps to a basic plan": from plan w, after so many, to plan v. (Not a `BasicPlan`:
-- that has at most 16,384 words, as every plan handed in has, and a run without limits may pass them.)
pub record ComesTo (t : Tables) (w : List ℕ) (steps : ℕ) (v : List ℕ) : Type 0 where
  pub made : Steps t steps w v
  pub basic : BasicWords (actions t) v

-- there are such a number and such a plan
pub record ComesToAnEnd (t : Tables) (w : List ℕ) : Type 0 where
  pub steps : ℕ
  pub end : List ℕ
  pub comes : ComesTo t w steps end

-- The run from a plan ends: after a number of steps there is no next step, and the plan reached is basic.
pub record Ends (t : Tables) (w : List ℕ) : Type 0 where
  pub steps : ℕ
  pub reached : List ℕ
  pub made : Steps t steps w reached
  pub no_next : next_step t reached ≡ none
  pub basic : basic_words? (actions t) reached ≡ true
