-- What answers say in document 01's numbers. (01, "Turned back by what was handed in".)
use Rattle.std.specs.Prelude.{ℕ, ◌+◌, ◌*◌, Bool, true, false, cond, List, [], Result, Ok, Err, ⊤}
use Rattle.std.proofs.Math.Option.{Option, none, some}
use Rattle.refusals.specs.declared.Place.{Place}
use Rattle.refusals.specs.declared.Place.TheVariants.{Nowhere, Byte, Triple, Step}
use Rattle.refusals.specs.declared.Refusal.{Refusal}
use Rattle.refusals.specs.declared.Reason.{Reason}
use Rattle.refusals.specs.declared.Reason.TheVariants.{TablesLength, ActionCount, EntryOutside, NullEntry, NotCommutative, NotAssociative, NotAboveNull, NotAnOrder, PlanLength, UnknownWord, TooFewOperands, NotOnePlan, OverCapacity, RecordCutShort, UnknownLaw, ClaimedPlan, FileLength, BlockSum, BlockNumber, BlockUse, StationArea, NoText, TooDeep, TextTooLong, NotBasic, OutsideActions, NoPath, NotAPair, ShortArea, CarriedPlan}

-- "The place is a byte's index, a triple of actions or a step's index; 0 where none is named"; "a triple printed as 1,024a + 32b + c".
abbrev pub printed : Place → ℕ
printed Nowhere = 0
printed (Byte i) = i
printed (Triple a b c) = 1024 * a + 32 * b + c
printed (Step i) = i

-- the number by which a refusal is named
abbrev pub number_of : Reason → ℕ
number_of TablesLength = 1
number_of ActionCount = 2
number_of EntryOutside = 3
number_of NullEntry = 4
number_of NotCommutative = 5
number_of NotAssociative = 6
number_of NotAboveNull = 7
number_of NotAnOrder = 8
number_of PlanLength = 11
number_of UnknownWord = 12
number_of TooFewOperands = 13
number_of NotOnePlan = 14
number_of OverCapacity = 15
number_of RecordCutShort = 16
number_of UnknownLaw = 17
number_of ClaimedPlan = 18
number_of FileLength = 51
number_of BlockSum = 52
number_of BlockNumber = 53
number_of BlockUse = 54
number_of StationArea = 55
number_of NoText = 61
number_of TooDeep = 62
number_of TextTooLong = 63
number_of NotBasic = 70
number_of OutsideActions = 71
number_of NoPath = 72
number_of NotAPair = 73
number_of ShortArea = 74
number_of CarriedPlan = 75

-- refusal k at a place
abbrev pub refuse : ℕ → Place → Option Refusal
refuse k p = some (record { number = k; place = p })

-- refusal k, which names no place, where its condition holds
abbrev pub refuse_if : Bool → ℕ → Option Refusal
refuse_if true k = refuse k Nowhere
refuse_if false k = none

-- refusal k, which names no place, where a test is not met
abbrev pub refuse_unless : Bool → ℕ → Option Refusal
refuse_unless met k = cond met none (refuse k Nowhere)

-- "each just when its condition is the first to hold": the first refusal of two, in order
abbrev pub or_else : Option Refusal → Option Refusal → Option Refusal
or_else none s = s
or_else (some r) s = some r

-- the answer of a call that only judges
abbrev pub judged : Option Refusal → Result ⊤ Refusal
judged none = Ok tt
judged (some r) = Err r

-- an answer in 01's numbers: the number, 0 where nothing is refused; the place as it is printed; and the values that the answer gives
pub record Report : Type 0 where
  pub number : ℕ
  pub place : ℕ
  pub values : List ℕ

abbrev pub refused_report : Refusal → Report
refused_report r = record { number = r.number; place = printed r.place; values = [] }

-- what is reported where there may be a refusal, and else these values
abbrev pub reported : Option Refusal → List ℕ → Report
reported none v = record { number = 0; place = 0; values = v }
reported (some r) v = refused_report r

-- each case of a judgement
abbrev pub report : Result ⊤ Refusal → Report
report (Ok u) = record { number = 0; place = 0; values = [] }
report (Err r) = refused_report r
