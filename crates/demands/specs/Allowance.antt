-- How many steps a plan needs, and what is claimed of an unfolding for its allowance, for smaller and for larger ones. (Request 109.)
use Rattle.std.specs.Prelude.{ℕ, ◌-◌, ◌*◌, ◌≤◌, ◌<◌, ◌≡◌, List, ◌++◌, ◌↔◌, length, Ok}
use Rattle.std.proofs.Math.Option.{none}
use Rattle.areas.specs.Area.{most_words}
use Rattle.areas.specs.Reached.{capacity}
use Rattle.tables.specs.Tables.{Tables}
use Rattle.plans.specs.Accepted.{AcceptedPlan, BasicPlan}
use Rattle.rewritings.specs.Choice.{next_step}
use Rattle.ending.specs.Ending.{Within, ComesTo}
use Rattle.ending.proofs.Ending.{every_plan_comes_to_an_end}
use Rattle.unfolding.specs.declared.Unfolded.TheVariants.{Finished, Stopped}
use Rattle.unfolding.specs.Unfolding.{UnfoldOutcome, unfold_outcome}
use Rattle.demands.specs.Reports.{UnfoldGiven, Reports, own_rewriting, reached_in}

-- "allowance (0 to 4,294,967,295)"
abbrev pub most_steps : ℕ
most_steps = 4294967295

-- "that number", of steps after which the run without limits from an accepted plan comes to a basic plan; and that plan. That there are such a number
-- and such a plan is a theorem, and they are those that it gives; `EndClaims` says which they are without it.
unfoldable pub steps_needed : (t : Tables) (plan : List ℕ) → AcceptedPlan t plan → ℕ
steps_needed t plan p = (every_plan_comes_to_an_end t plan p).steps

unfoldable pub end_plan : (t : Tables) (plan : List ℕ) → AcceptedPlan t plan → List ℕ
end_plan t plan p = (every_plan_comes_to_an_end t plan p).end

-- Of the run without limits from an accepted plan, where `needed` is that number and `end` that plan:
pub record EndClaims (t : Tables) (plan : List ℕ) (needed : ℕ) (end : List ℕ) : Type 0 where
  -- "the run of steps without limits comes after some number of steps to a basic plan"
  pub comes : ComesTo t plan needed end
  -- after no other number of steps, and to no other plan
  pub only_there : (k : ℕ) (v : List ℕ) → ComesTo t plan k v → (k ≡ needed) × (v ≡ end)
  -- no law fits there, so that the run makes no further step
  pub no_next : next_step t end ≡ none
  -- "basic" as elsewhere, where that plan is no longer than plans may be
  pub basic_plan : length end ≤ most_words → BasicPlan t end

-- a list of room bytes, three to a step, and c words to a plan hold a run from plan w of so many steps
pub record Held (t : Tables) (w : List ℕ) (needed room c : ℕ) : Type 0 where
  pub records_held : 3 * needed ≤ room
  pub plans_held : Within t c w

-- the areas hold every plan of the run from plan w: "C is the least of both areas' lengths and 16,384", so document 01's limit is in it
abbrev pub AreasHold : UnfoldGiven → List ℕ → Type 0
AreasHold given w = Within given.tables (capacity given.a given.b) w

-- "list and areas hold them": the steps, so many, and the plans of the run from the given plan
abbrev pub AllHeld : UnfoldGiven → ℕ → Type 0
AllHeld given needed = Held given.tables given.plan needed (length given.list) (capacity given.a given.b)

-- the same unfolding with n steps allowed, in a list and areas of the same lengths, whatever they hold: what it answers and leaves
pub record Repeated (given : UnfoldGiven) (n : ℕ) (again : UnfoldOutcome) : Type 0 where
  pub list : List ℕ
  pub a : List ℕ
  pub b : List ℕ
  pub list_long : length list ≡ length given.list
  pub a_long : length a ≡ length given.a
  pub b_long : length b ≡ length given.b
  pub left_again : again ≡ unfold_outcome given.tables given.plan n list a b

-- n steps allowed give the answer finished
pub record FinishesWith (given : UnfoldGiven) (n : ℕ) : Type 0 where
  pub again : UnfoldOutcome
  pub repeated : Repeated given n again
  pub steps : ℕ
  pub size : ℕ
  pub finishes : again.answer ≡ Ok (Finished steps size)

-- one list of bytes is a beginning of another
abbrev pub Beginning : List ℕ → List ℕ → Type 0
Beginning xs ys = (rest : List ℕ) × (ys ≡ xs ++ rest)

-- Of the unfolding of an accepted plan that the areas can hold, whose run without limits needs so many steps and ends at that plan, by what was
-- given and what it answered and left:
pub record AllowanceClaims (given : UnfoldGiven) (needed : ℕ) (end : List ℕ) (left : UnfoldOutcome) : Type 0 where
  -- "Where that number and every plan of the run lie within document 01's limits, and list and areas hold them, that many steps allowed give the
  -- answer finished", with that number of steps; and nothing else does
  pub finished_exactly : (steps size : ℕ) → (left.answer ≡ Ok (Finished steps size))
      ↔ (AllHeld given needed × (needed ≤ given.allowance) × (steps ≡ needed) × (size ≡ length end))
  -- and then the plan reached is that plan
  pub finished_there : (steps size : ℕ) → left.answer ≡ Ok (Finished steps size) → reached_in left steps size ≡ end
  -- fewer steps allowed give 34, after all of them
  pub fewer_stopped : AllHeld given needed → given.allowance < needed → (size : ℕ) × (left.answer ≡ Ok (Stopped 34 given.allowance size))
  -- "A larger allowance never changes a finished answer": nor the list, nor the areas, byte for byte
  pub finished_unchanged : (steps size : ℕ) → left.answer ≡ Ok (Finished steps size)
      → (n : ℕ) → given.allowance ≤ n → (again : UnfoldOutcome) → Repeated given n again → again ≡ left
  -- for any two allowances, the rewriting under the smaller one is a beginning of the rewriting under the larger one
  pub list_begins : (steps size : ℕ) → Reports left.answer steps size
      → (n : ℕ) → given.allowance ≤ n → (again : UnfoldOutcome) → Repeated given n again
      → (steps' size' : ℕ) → Reports again.answer steps' size'
      → Beginning (own_rewriting steps left.list) (own_rewriting steps' again.list)
  -- what is left of the run: from the plan reached it needs as many steps as are not yet made
  pub rest : (steps size : ℕ) → Reports left.answer steps size
      → (steps ≤ needed) × ComesTo given.tables (reached_in left steps size) (needed - steps) end
  -- "When a tray stops on its allowance we don't know whether a larger one would help. Show that it would, as far as the limits reach": under 34
  -- some larger allowance gives finished exactly where the largest allowance, the list and the areas hold what is left of the run
  pub larger_helps : (steps size : ℕ) → left.answer ≡ Ok (Stopped 34 steps size)
      → ((n : ℕ) × (given.allowance < n) × (n ≤ most_steps) × FinishesWith given n)
      ↔ ((needed ≤ most_steps) × (3 * needed ≤ length given.list) × AreasHold given (reached_in left steps size))
  -- under 35 the list is too short for the run, and under 36 an area is
  pub list_too_short : (steps size : ℕ) → left.answer ≡ Ok (Stopped 35 steps size) → length given.list < 3 * needed
  pub areas_too_short : (steps size : ℕ) → left.answer ≡ Ok (Stopped 36 steps size) → AreasHold given given.plan → ⊥
  -- so under 35 and 36 no allowance helps, and a larger one changes nothing
  pub none_helps : (number steps size : ℕ) → left.answer ≡ Ok (Stopped number steps size) → 34 < number → (n : ℕ) → FinishesWith given n → ⊥
  pub stopped_unchanged : (number steps size : ℕ) → left.answer ≡ Ok (Stopped number steps size) → 34 < number
      → (n : ℕ) → given.allowance ≤ n → (again : UnfoldOutcome) → Repeated given n again → again ≡ left
