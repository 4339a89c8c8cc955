-- How many steps the plans of the trial trays need without limits, where they end and how many words their longest plan has: by the theorems on
-- allowances, from runs with just these limits, which are computed. (Request 109.)
use Prim.Native.Nat.{ℕ, ◌*◌}
use mathlib.Core.Path.{◌≡◌, refl, ◌∙◌, ap}
use mathlib.Core.Bool.{Bool, false}
use mathlib.Core.List.{List, [], ◌∷◌, map}
use lib.ListN.{length}
use lib.Dec.{ltb}
use borrow.Author.Tests.{ltb-false}
use Rattle.tables.specs.Tables.{actions, communication, below, blocked}
use Rattle.tables.specs.Search.{first_from}
use Rattle.plans.specs.Word.{binary_word, unary_word, word_of, sign_of}
use Rattle.plans.specs.Term.{words, push, read, term_of}
use Rattle.plans.specs.Place.{subterm, replace}
use Rattle.plans.specs.Accepted.{AcceptedPlan}
use Rattle.laws.specs.Laws.{laws, law_at, rewrite, fit, bind, holds, build, same_bytes}
use Rattle.laws.specs.Step.{step}
use Rattle.rewritings.specs.Choice.{next_step, lowest_law}
use Rattle.rewritings.specs.Runs.{Run, run, run_of}
use Rattle.ending.specs.Ending.{Within}
use Rattle.demands.specs.Allowance.{steps_needed, end_plan}
use Rattle.demands.proofs.Allowance.{finished_needs}
use Rattle.trays.specs.Trays.{trial, communicate, put_below, block}

-- a plan, with the steps that it needs, the plan that it ends at, and how many words no plan on the way exceeds
record Row : Type 0 where
  plan : List ℕ
  steps : ℕ
  end : List ℕ
  longest : ℕ

abbrev needs : List ℕ → ℕ → List ℕ → ℕ → Row
needs w k v c = record { plan = w; steps = k; end = v; longest = c }

unfoldable rows : List Row
rows =
    needs (1 ∷ 2 ∷ 66 ∷ []) 4 (1 ∷ 2 ∷ 65 ∷ 2 ∷ 1 ∷ 65 ∷ 64 ∷ 3 ∷ 64 ∷ []) 11
    ∷ needs (1 ∷ 2 ∷ 66 ∷ 80 ∷ []) 17 (3 ∷ []) 13
    ∷ needs (1 ∷ 4 ∷ 64 ∷ 70 ∷ []) 6 (4 ∷ []) 9
    ∷ needs (1 ∷ 2 ∷ 64 ∷ 70 ∷ []) 5 (1 ∷ 2 ∷ 64 ∷ []) 9
    ∷ needs (1 ∷ 2 ∷ 4 ∷ 65 ∷ 69 ∷ []) 2 (1 ∷ []) 5
    ∷ needs (0 ∷ []) 0 (0 ∷ []) 1
    ∷ needs (1 ∷ 0 ∷ 65 ∷ []) 0 (1 ∷ 0 ∷ 65 ∷ []) 3
    ∷ needs (0 ∷ 1 ∷ 65 ∷ []) 1 (0 ∷ []) 3
    ∷ needs (0 ∷ 0 ∷ 64 ∷ []) 1 (0 ∷ []) 3
    ∷ []

-- what is claimed of a row
abbrev Needed : Row → Type 0
Needed r =
    (p : AcceptedPlan trial r.plan)
    → (steps_needed trial r.plan p ≡ r.steps) × (end_plan trial r.plan p ≡ r.end) × Within trial r.longest r.plan

abbrev All : List Row → Type 0
All [] = Unit
All (r ∷ rs) = Needed r × All rs

-- the run with just these limits: its number, steps and end, and whether its plan is too long to begin with
record Said : Type 0 where
  number : ℕ
  steps : ℕ
  end : List ℕ
  too_long : Bool

abbrev just_enough : Row → Run
just_enough r = run_of trial r.plan r.steps (3 * r.steps) r.longest

unfoldable said : Row → Said
said r =
    record { number = (just_enough r).number; steps = (just_enough r).steps; end = (just_enough r).plan; too_long = ltb r.longest (length r.plan) }

unfoldable expected : Row → Said
expected r = record { number = 0; steps = r.steps; end = r.end; too_long = false }

computed : map said rows ≡ map expected rows
unfolding rows said expected trial communicate put_below block run_of run next_step lowest_law first_from step laws law_at rewrite fit bind holds build same_bytes words push read term_of subterm replace binary_word unary_word word_of sign_of actions communication below blocked
computed = refl

row_needed : (r : Row) → said r ≡ expected r → Needed r
unfolding said expected
row_needed r e p =
    let fits = ltb-false r.longest (length r.plan) (ap (λ (x : Said). x.too_long) e) in
    let n = finished_needs trial r.plan r.steps (3 * r.steps) r.longest p fits (ap (λ (x : Said). x.number) e) in
    (n.0 ∙ ap (λ (x : Said). x.steps) e, n.1 ∙ ap (λ (x : Said). x.end) e, n.2.plans_held)

all_needed : (rs : List Row) → map said rs ≡ map expected rs → All rs
all_needed [] e = tt
all_needed (r ∷ rs) e = (row_needed r cc, all_needed rs cc)

trays_needed : All rows
trays_needed = all_needed rows computed
