-- What the calls on accepted plans answer. (01, "Plans" and "Orders"; request 103.)
use Rattle.std.specs.Prelude.{ℕ, ◌≡◌, Bool, true, false, List, [], ◌∷◌, ◌↔◌, Result, Ok, Err}
use Rattle.std.proofs.Math.Option.{Option, none, some}
use Rattle.refusals.specs.declared.Refusal.{Refusal}
use Rattle.refusals.specs.Refusal.{Report, refused_report, reported}
use Rattle.tables.specs.Tables.{Tables, actions}
use Rattle.plans.specs.declared.Counts.{Counts}
use Rattle.plans.specs.Judging.{plan_refusal}
use Rattle.plans.specs.Basic.{basic_words?}
use Rattle.plans.specs.Orders.{counts_of}
use Rattle.plans.specs.Accepted.{AcceptedPlan}
use Rattle.paths.specs.Counts.{CountClaims}

-- whether a plan is basic, where nothing is refused
abbrev pub basic_of : Option Refusal → Bool → Result Bool Refusal
basic_of (some r) b = Err r
basic_of none b = Ok b

unfoldable pub basic_answer : Tables → List ℕ → Result Bool Refusal
basic_answer t ws = basic_of (plan_refusal t ws) (basic_words? (actions t) ws)

-- 1 for yes and 0 for no
abbrev pub bit : Bool → ℕ
bit true = 1
bit false = 0

-- each case of it in 01's numbers: 1 for basic, 0 for not
abbrev pub basic_report : Result Bool Refusal → Report
basic_report (Ok b) = record { number = 0; place = 0; values = bit b ∷ [] }
basic_report (Err r) = refused_report r

-- what is reported of tables and a plan that are asked about
abbrev pub basic_reported : Tables → List ℕ → Report
basic_reported t ws = reported (plan_refusal t ws) (bit (basic_words? (actions t) ws) ∷ [])

-- the orders of a plan and its stuck paths, where nothing is refused
abbrev pub orders_given : Option Refusal → Counts → Result Counts Refusal
orders_given (some r) c = Err r
orders_given none c = Ok c

unfoldable pub orders_answer : Tables → List ℕ → Result Counts Refusal
orders_answer t ws = orders_given (plan_refusal t ws) (counts_of (actions t) ws)

-- each case of it in 01's numbers
abbrev pub orders_report : Result Counts Refusal → Report
orders_report (Ok c) = record { number = 0; place = 0; values = c.orders ∷ c.stuck ∷ [] }
orders_report (Err r) = refused_report r

abbrev pub orders_reported : Tables → List ℕ → Report
orders_reported t ws = reported (plan_refusal t ws) ((counts_of (actions t) ws).orders ∷ (counts_of (actions t) ws).stuck ∷ [])

-- Of that answer: the paths are counted exactly where tables and plan are accepted, and what is claimed of their counts holds.
pub record OrdersClaims (t : Tables) (ws : List ℕ) (answer : Result Counts Refusal) : Type 0 where
  pub counted_exactly : ((c : Counts) × (answer ≡ Ok c)) ↔ AcceptedPlan t ws
  pub counts : (c : Counts) → answer ≡ Ok c → CountClaims t ws c
