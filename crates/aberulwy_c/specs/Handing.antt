-- Nobody need believe this: contracts of functions below the calls cite it. How a report is handed over, number by number.
use Rattle.refusals.specs.declared.Refusal.{Refusal}
use Rattle.std.specs.Prelude.{ℕ, ◌≡◌, Bool, [], ◌∷◌, get_or, Result, Ok, Err, ⊤}
use Rattle.std.proofs.Math.Option.{Option, none, some}
use Rattle.refusals.specs.Refusal.{Report, report, refused_report}
use Rattle.aberulwy_c.specs.declared.Came.{Came}
use Rattle.aberulwy_c.specs.Answers.{finish_left}

-- the number n answered and the out numbers p, v and w are those of a report
pub record Answered (R : Report) (n p v w : ℕ) : Type 0 where
  -- the number, 0 where nothing is refused
  pub number : n ≡ R.number
  -- the place as it is printed, 0 where none is named
  pub place : p ≡ R.place
  -- the first value of the report, 0 where it has none
  pub first : v ≡ get_or R.values 0 0
  -- the second value of the report, 0 where it has none
  pub second : w ≡ get_or R.values 1 0

-- the answer of a call that answers a size: the report of a file read or written, of a text read and of a form
abbrev pub size_report : Result ℕ Refusal → Report
size_report (Ok size) = record { number = 0; place = 0; values = size ∷ [] }
size_report (Err r) = refused_report r

-- the answer of an unfolding or of a check by how far it came
abbrev pub came_report : Result Came Refusal → Report
came_report (Ok c) = record { number = c.number; place = 0; values = c.steps ∷ c.size ∷ [] }
came_report (Err r) = refused_report r

-- whether there is a report, 1 or 0
abbrev pub there : Option Report → ℕ
there none = 0
there (some R) = 1

-- the report, and one of zeros where there is none
abbrev pub or_zeros : Option Report → Report
or_zeros none = record { number = 0; place = 0; values = [] }
or_zeros (some R) = R

-- the out numbers m, n, p, v and w are those of a report that may not be there: m says whether it is
pub record MaybeAnswered (R : Option Report) (m n p v w : ℕ) : Type 0 where
  pub made : m ≡ there R
  pub answered : Answered (or_zeros R) n p v w

-- the answer of a call of a walk handed over: its number n and place p, and the number f of the finish b, which a refusal leaves as it was, h
pub record WalkAnswered (answer : Result ⊤ Refusal) (b : Bool) (h n p f : ℕ) : Type 0 where
  pub number : n ≡ (report answer).number
  pub place : p ≡ (report answer).place
  pub finish : f ≡ finish_left answer h b
