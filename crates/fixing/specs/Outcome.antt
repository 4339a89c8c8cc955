-- What the call answers, and what it leaves of the area. (Request 107; refusals 70 and 74, after 1 to 8 and 11 to 14.)
use Rattle.std.specs.Prelude.{ℕ, not, List, [], ◌∷◌, length, ltb, Result, Ok, Err}
use Rattle.std.proofs.Math.Option.{Option, none, some}
use Rattle.refusals.specs.declared.Refusal.{Refusal}
use Rattle.refusals.specs.Refusal.{refuse_if, or_else, Report, refused_report, reported}
use Rattle.areas.specs.Area.{padded}
use Rattle.tables.specs.Tables.{Tables, actions}
use Rattle.plans.specs.Judging.{plan_refusal}
use Rattle.plans.specs.Basic.{basic_words?}
use Rattle.forms.specs.Form.{form_of}

-- "A plan that isn't basic gets 70.", after 1 to 8 and 11 to 14
unfoldable pub basic_refusal : Tables → List ℕ → Option Refusal
basic_refusal t ws = or_else (plan_refusal t ws) (refuse_if (not (basic_words? (actions t) ws)) 70)

-- "Bring a basic plan to a fixed form.": the form of the plan ws with the tables t
abbrev pub fixed_form : Tables → List ℕ → List ℕ
fixed_form t ws = form_of (actions t) ws

-- "After that an area shorter than the form gets 74": tables, a plan and the area's length
unfoldable pub form_refusal : Tables → List ℕ → ℕ → Option Refusal
form_refusal t ws area = or_else (basic_refusal t ws) (refuse_if (ltb area (length (fixed_form t ws))) 74)

-- everything that fixing a form answers and leaves
pub record FormOutcome : Type 0 where
  pub answer : Result ℕ Refusal
  pub area : List ℕ

-- "gets 74 and keeps its bytes; a longer one is zero past the form": a form for the area a
abbrev pub fixed_unless : Option Refusal → List ℕ → List ℕ → FormOutcome
fixed_unless (some r) form a = record { answer = Err r; area = a }
fixed_unless none form a = record { answer = Ok (length form); area = padded form (length a) }

-- the form of the plan ws, with the tables t, put into the area a
unfoldable pub form_outcome : Tables → List ℕ → List ℕ → FormOutcome
form_outcome t ws a = fixed_unless (form_refusal t ws (length a)) (fixed_form t ws) a

-- an answer in numbers: the form's length where it is written
abbrev pub fixed_report : Result ℕ Refusal → Report
fixed_report (Ok size) = record { number = 0; place = 0; values = size ∷ [] }
fixed_report (Err r) = refused_report r

-- what is reported of the tables t, the plan ws and an area of so many bytes
abbrev pub form_reported : Tables → List ℕ → ℕ → Report
form_reported t ws area = reported (form_refusal t ws area) (length (fixed_form t ws) ∷ [])
