-- What reading a text answers and leaves. (Request 101; refusals 61 to 63, after 1 to 8.)
use Rattle.std.specs.Prelude.{ℕ, cond, ◌&&◌, List, [], ◌∷◌, length, leb, Result, Ok, Err}
use Rattle.std.proofs.Math.Option.{Option, none, some}
use Rattle.refusals.specs.declared.Place.TheVariants.{Nowhere, Byte}
use Rattle.refusals.specs.declared.Refusal.{Refusal}
use Rattle.refusals.specs.Refusal.{refuse, or_else, Report, refused_report, reported}
use Rattle.areas.specs.Area.{most_words, padded}
use Rattle.tables.specs.Tables.{Tables, actions}
use Rattle.tables.specs.Judging.{table_refusal}
use Rattle.grammar.specs.Reading.{Parse, Plan, Fault, read_text}

-- what was found, for an area of so many bytes: "A plan longer than its area or than 16,384 words is 63, after both."
abbrev pub found_refusal : ℕ → Parse → Option Refusal
found_refusal area (Plan w) = cond (leb (length w) area && leb (length w) most_words) none (refuse 63 Nowhere)
found_refusal area (Fault k q) = refuse k (Byte q)

-- the plan that was found
abbrev pub plan_of : Parse → List ℕ
plan_of (Plan w) = w
plan_of (Fault k q) = []

-- "Tables are checked first."
unfoldable pub text_refusal : Tables → List ℕ → ℕ → Option Refusal
text_refusal t text area = or_else (table_refusal t) (found_refusal area (read_text (actions t) text))

-- everything that reading a text answers and leaves
pub record TextOutcome : Type 0 where
  pub answer : Result ℕ Refusal
  pub plan : List ℕ

-- "The area keeps its bytes under all of them, and else is zero past the plan."
abbrev pub refused_outcome : Refusal → List ℕ → TextOutcome
refused_outcome r area = record { answer = Err r; plan = area }

abbrev pub read_outcome : List ℕ → List ℕ → TextOutcome
read_outcome w area = record { answer = Ok (length w); plan = padded w (length area) }

abbrev pub unless_refused : Option Refusal → List ℕ → List ℕ → TextOutcome
unless_refused (some r) w area = refused_outcome r area
unless_refused none w area = read_outcome w area

-- a text read under tables into an area
unfoldable pub text_outcome : Tables → List ℕ → List ℕ → TextOutcome
text_outcome t text area = unless_refused (text_refusal t text (length area)) (plan_of (read_text (actions t) text)) area

-- an answer in 01's numbers: the plan's length where the text is read
abbrev pub text_report : Result ℕ Refusal → Report
text_report (Ok size) = record { number = 0; place = 0; values = size ∷ [] }
text_report (Err r) = refused_report r

-- what is reported of reading a text into an area
abbrev pub text_reported : Tables → List ℕ → List ℕ → Report
text_reported t text area = reported (text_refusal t text (length area)) (length (plan_of (read_text (actions t) text)) ∷ [])
