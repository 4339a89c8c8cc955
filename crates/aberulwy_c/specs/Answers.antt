-- What the calls for C and Rust answer and leave: a number, out numbers, and lent areas. (01, "Turned back by what was handed in".)
use Rattle.refusals.specs.declared.Refusal.{Refusal}
use Prim.Native.Nat.{ℕ, zero, suc}
use Rattle.std.specs.Prelude.{Bool, true, false, not, length, eqb, leb, Result, Ok, Err, ⊤}
use mathlib.Core.List.{List, [], ◌∷◌, ◌++◌}
use Rattle.std.proofs.Math.Option.{Option, none, some}
use Rattle.areas.specs.Area.{padded}
use Rattle.refusals.specs.Refusal.{Report, report}
use Rattle.tables.specs.Tables.{Tables}
use Rattle.unfolding.specs.Unfolding.{unfold_outcome, UnfoldOutcome}
use Rattle.checking.specs.Checking.{check_outcome, CheckOutcome}
use Rattle.stations.specs.File.{station_outcome, station_report, StationOutcome}
use Rattle.writing.specs.Writing.{write_outcome, written_report, WriteOutcome}
use Rattle.texts.specs.Text.{text_outcome, text_report, TextOutcome}
use Rattle.fixing.specs.Outcome.{form_outcome, fixed_report, FormOutcome}
use Rattle.walks.specs.Progress.{Progress}
use Rattle.walks.specs.Outcome.{WalkOutcome, fresh_outcome, walk_outcome}
use Rattle.aberulwy.specs.Judging.{bit}
use Rattle.aberulwy.specs.Rewriting.{unfold_report, check_report, own_report, both_outcome, BothOutcome}

-- everything that a call answers and leaves
pub record Returned : Type 0 where
  -- the number answered, 0 where nothing is refused
  pub number : ℕ
  -- what is set as the place
  pub place : ℕ
  -- the other out numbers, in the order of the parameters; of a walk, the number of the finish, which is lent
  pub values : List ℕ
  -- the lent areas, in the order of the parameters
  pub areas : List (List ℕ)

-- the first k values of a report, 0 for each that it does not have: a refusal has none
unfoldable pub out_numbers : ℕ → List ℕ → List ℕ
out_numbers zero v = []
out_numbers (suc k) [] = 0 ∷ out_numbers k []
out_numbers (suc k) (x ∷ v) = x ∷ out_numbers k v

-- a report of at most k values, and the areas as they are left
abbrev pub returned : ℕ → Report → List (List ℕ) → Returned
returned k R areas = record { number = R.number; place = R.place; values = out_numbers k R.values; areas = areas }

-- an unfolding: steps and size; list, a and b
abbrev pub of_unfold : UnfoldOutcome → Returned
of_unfold o = returned 2 (unfold_report o.answer) (o.list ∷ o.a ∷ o.b ∷ [])

abbrev pub unfold_returned : Tables → List ℕ → ℕ → List ℕ → List ℕ → List ℕ → Returned
unfold_returned t plan m list a b = of_unfold (unfold_outcome t plan m list a b)

-- a check: steps and size; a and b
abbrev pub of_check : CheckOutcome → Returned
of_check o = returned 2 (check_report o.answer) (o.a ∷ o.b ∷ [])

abbrev pub check_returned : Tables → List ℕ → List ℕ → List ℕ → List ℕ → List ℕ → Returned
check_returned t start claimed rewriting a b = of_check (check_outcome t start claimed rewriting a b)

-- a station file read: the plan's size; the tables and the plan
abbrev pub of_station : StationOutcome → Returned
of_station o = returned 1 (station_report o.answer) (o.tables ∷ o.plan ∷ [])

abbrev pub station_returned : List ℕ → List ℕ → List ℕ → Returned
station_returned file tables plan = of_station (station_outcome file tables plan)

-- a station file written: the file's size; the area
abbrev pub of_written : WriteOutcome → Returned
of_written o = returned 1 (written_report o.answer) (o.area ∷ [])

abbrev pub written_returned : Tables → List ℕ → List ℕ → Returned
written_returned tables plan area = of_written (write_outcome tables plan area)

-- a text read: the plan's size; the plan
abbrev pub of_text : TextOutcome → Returned
of_text o = returned 1 (text_report o.answer) (o.plan ∷ [])

abbrev pub text_returned : Tables → List ℕ → List ℕ → Returned
text_returned tables text plan = of_text (text_outcome tables text plan)

-- a plan brought to its form: the form's size; the area
abbrev pub of_fixed : FormOutcome → Returned
of_fixed o = returned 1 (fixed_report o.answer) (o.area ∷ [])

abbrev pub fixed_returned : Tables → List ℕ → List ℕ → Returned
fixed_returned tables plan area = of_fixed (form_outcome tables plan area)

-- 1 or 0 for whether a finish is reached, and under a refusal the number that was held
abbrev pub finish_left : Result ⊤ Refusal → ℕ → Bool → ℕ
finish_left (Ok tt) held finish = bit finish
finish_left (Err r) held finish = held

-- a walk: the number of the finish; the marks
abbrev pub of_walk : ℕ → WalkOutcome → Returned
of_walk held o =
    record {
      number = (report o.answer).number;
      place = (report o.answer).place;
      values = finish_left o.answer held o.progress.finish ∷ [];
      areas = o.progress.marks ∷ [];
    }

-- the progress lent: any number but 0 reads as a finish (no number returned and no byte left depends on this reading)
abbrev pub lent : List ℕ → ℕ → Progress
lent marks held = record { marks = marks; finish = not (eqb held 0) }

abbrev pub fresh_returned : Tables → List ℕ → List ℕ → ℕ → Returned
fresh_returned t plan marks held = of_walk held (fresh_outcome t plan (lent marks held))

abbrev pub walk_returned : Tables → List ℕ → List ℕ → ℕ → ℕ → Returned
walk_returned t plan marks m held = of_walk held (walk_outcome t plan m (lent marks held))

-- the check of an unfolding's own rewriting: whether it was made, its number, steps, size and place; zeros where none was made
abbrev pub own_numbers : Option Report → List ℕ
own_numbers none = 0 ∷ 0 ∷ 0 ∷ 0 ∷ 0 ∷ []
own_numbers (some R) = 1 ∷ R.number ∷ (out_numbers 2 R.values ++ (R.place ∷ []))

-- an unfolding with that check: the unfolding's number and place, its steps and size, then the check's numbers; list, a, b, c and d
abbrev pub of_both : BothOutcome → Returned
of_both o =
    record {
      number = (unfold_report o.unfolded.answer).number;
      place = (unfold_report o.unfolded.answer).place;
      values = out_numbers 2 (unfold_report o.unfolded.answer).values ++ own_numbers (own_report o.own.answer);
      areas = o.unfolded.list ∷ o.unfolded.a ∷ o.unfolded.b ∷ o.own.a ∷ o.own.b ∷ [];
    }

abbrev pub both_returned : Tables → List ℕ → ℕ → List ℕ → List ℕ → List ℕ → List ℕ → List ℕ → Returned
both_returned t plan m list a b c d = of_both (both_outcome t plan m list a b c d)

-- bytes handed over in an area: the number answered, the length set, and the area afterwards
pub record HandedOver : Type 0 where
  pub number : ℕ
  pub size : ℕ
  pub out : List ℕ

abbrev pub if_fits : Bool → List ℕ → List ℕ → HandedOver
if_fits true bytes out = record { number = 0; size = length bytes; out = padded bytes (length out) }
if_fits false bytes out = record { number = 1; size = 0; out = out }

-- 0 and all of the bytes with zeros behind them; or 1 where the area is too short for them, which then keeps its bytes
unfoldable pub handed_over : List ℕ → List ℕ → HandedOver
handed_over bytes out = if_fits (leb (length bytes) (length out)) bytes out
