-- What the call answers. (Request 105; refusals 73 and 70, after 1 to 8 and 11 to 14.)
use Rattle.std.specs.Prelude.{ℕ, Bool, not, ◌||◌, List, [], ◌∷◌, eqb, Result, Ok, Err, Some, None, Option as Maybe}
use Rattle.std.proofs.Math.Option.{Option, none, some}
use Rattle.refusals.specs.declared.Refusal.{Refusal}
use Rattle.refusals.specs.Refusal.{refuse_if, or_else, Report, refused_report, reported}
use Rattle.tables.specs.Tables.{Tables, actions, outside?}
use Rattle.plans.specs.Basic.{basic_words?}
use Rattle.plans.specs.Judging.{plan_refusal}
use Rattle.precedence.specs.Overtaking.{overtaking}

-- "Equal actions, or one outside 1 to n"
abbrev pub not_a_pair? : ℕ → ℕ → ℕ → Bool
not_a_pair? n first second = eqb first second || (outside? n first || outside? n second)

-- "A plan that isn't basic still gets 70. Equal actions, or one outside 1 to n, get 73, checked before 70."
unfoldable pub precedence_refusal : Tables → List ℕ → ℕ → ℕ → Option Refusal
precedence_refusal t plan first second =
    or_else (plan_refusal t plan)
    (or_else (refuse_if (not_a_pair? (actions t) first second) 73) (refuse_if (not (basic_words? (actions t) plan)) 70))

-- "say whether on every path each appearance of the second has the first somewhere before it. If not, give the place": of the least place that was found
abbrev pub found_answer : Option ℕ → Result (Maybe ℕ) Refusal
found_answer none = Ok None
found_answer (some p) = Ok (Some p)

-- the first refusal, and else what was found
abbrev pub unless_refused : Option Refusal → Option ℕ → Result (Maybe ℕ) Refusal
unless_refused (some r) o = Err r
unless_refused none o = found_answer o

-- "Given two actions and a basic plan, say whether …": what the call answers, whatever it is handed
unfoldable pub precedence_answer : Tables → List ℕ → ℕ → ℕ → Result (Maybe ℕ) Refusal
precedence_answer t plan first second = unless_refused (precedence_refusal t plan first second) (overtaking (actions t) plan first second)

-- Each case of it in numbers: 1 for yes and 0 for no, and the place under no, else 0.
abbrev pub precedence_report : Result (Maybe ℕ) Refusal → Report
precedence_report (Ok None) = record { number = 0; place = 0; values = 1 ∷ 0 ∷ [] }
precedence_report (Ok (Some p)) = record { number = 0; place = 0; values = 0 ∷ p ∷ [] }
precedence_report (Err r) = refused_report r

-- the same of the least place that was found
abbrev pub found_values : Option ℕ → List ℕ
found_values none = 1 ∷ 0 ∷ []
found_values (some p) = 0 ∷ p ∷ []

-- what is reported of tables, a plan and two actions
abbrev pub precedence_reported : Tables → List ℕ → ℕ → ℕ → Report
precedence_reported t plan first second = reported (precedence_refusal t plan first second) (found_values (overtaking (actions t) plan first second))
