-- What is claimed of the calls for C and Rust: the claims of the calls below, of the answer that the numbers seen tell. (Demands 2, 3; requests
-- 101 to 103, 105 to 109.)
use Rattle.std.specs.Prelude.{ℕ, ◌≤◌, ◌≡◌, Bool, List, ◌↔◌, Result, Ok, Err, Some, None, ⊤, Option as Maybe}
use Rattle.refusals.specs.declared.Refusal.{Refusal}
use Rattle.refusals.specs.Refusal.{printed}
use Rattle.unfolding.specs.declared.Unfolded.{Unfolded}
use Rattle.unfolding.specs.declared.Unfolded.TheVariants.{Finished, Stopped}
use Rattle.checking.specs.declared.Checked.{Checked}
use Rattle.checking.specs.declared.Checked.TheVariants.{Accepted, TurnedBack}
use Rattle.writing.specs.Claims.{ReadClaims, WriteClaims}
use Rattle.texts.specs.Claims.{TextClaims}
use Rattle.walks.specs.Claims.{FreshClaims, WalkClaims}
use Rattle.precedence.specs.Claims.{PrecedenceClaims}
use Rattle.fixing.specs.Claims.{FormClaims}
use Rattle.tables.specs.Tables.{Tables}
use Rattle.plans.specs.Accepted.{AcceptedPlan}
use Rattle.paths.specs.Counts.{CountClaims}
use Rattle.demands.specs.Reports.{UnfoldGiven}
use Rattle.demands.specs.Claims.{CheckGiven, UnfoldClaims, CheckClaims, StepClaims}
use Rattle.aberulwy.specs.Rewriting.{OwnAccepted}
use Rattle.aberulwy_c.specs.Answers.{finish_left, lent}

-- Of a plan's paths counted, by the number answered and the orders and stuck set: the number is 0 exactly where tables and plan are accepted, and then what
-- is claimed of counts holds of these.
pub record OrdersSeen (tables : Tables) (plan : List ℕ) (number orders stuck : ℕ) : Type 0 where
  pub counted_exactly : (number ≡ 0) ↔ AcceptedPlan tables plan
  pub counts : number ≡ 0 → CountClaims tables plan (record { orders = orders; stuck = stuck })

-- 01 has two sections of numbers. "Turned back by how far it had come" has 31 to 36, the numbers of endings.
abbrev pub EndingNumber : ℕ → Type 0
EndingNumber k = (31 ≤ k) × (k ≤ 36)

-- "Turned back by what was handed in" has the others, those of refusals; requests add to it (61 to 63, 70 to 75).
abbrev pub RefusalNumber : ℕ → Type 0
RefusalNumber k = (1 ≤ k) × (EndingNumber k → ⊥)

-- An unfolding's answer by the number answered and the place, steps and size set: 0 is finished, and of the endings 34 to 36 are its own.
pub data UnfoldedAs : Result Unfolded Refusal → ℕ → ℕ → ℕ → ℕ → Type 0 where
  finished : (steps size : ℕ) → UnfoldedAs (Ok (Finished steps size)) 0 0 steps size
  stopped : (number steps size : ℕ) → 34 ≤ number → number ≤ 36 → UnfoldedAs (Ok (Stopped number steps size)) number 0 steps size
  refused : (f : Refusal) → RefusalNumber f.number → UnfoldedAs (Err f) f.number (printed f.place) 0 0

-- A check's answer by the same numbers: 0 is accepted, and of the endings 31 to 33 are its own.
pub data CheckedAs : Result Checked Refusal → ℕ → ℕ → ℕ → ℕ → Type 0 where
  accepted : (steps size : ℕ) → CheckedAs (Ok (Accepted steps size)) 0 0 steps size
  turned_back : (number steps size : ℕ) → 31 ≤ number → number ≤ 33 → CheckedAs (Ok (TurnedBack number steps size)) number 0 steps size
  refused : (f : Refusal) → RefusalNumber f.number → CheckedAs (Err f) f.number (printed f.place) 0 0

-- The check of an unfolding's own rewriting by whether it was made, then the same numbers.
pub data OwnAs : Maybe (Result Checked Refusal) → ℕ → ℕ → ℕ → ℕ → ℕ → Type 0 where
  made : (answer : Result Checked Refusal) (number place steps size : ℕ) → CheckedAs answer number place steps size → OwnAs (Some answer) 1 number place steps size
  not_made : OwnAs None 0 0 0 0 0

-- The answer of reading a station file by the number answered and the place and size set: 0 is read, 1 to 55 are refusals.
pub data StationReadAs : Result ℕ Refusal → ℕ → ℕ → ℕ → Type 0 where
  read : (size : ℕ) → StationReadAs (Ok size) 0 0 size
  refused : (f : Refusal) → 1 ≤ f.number → f.number ≤ 55 → StationReadAs (Err f) f.number (printed f.place) 0

-- The answer of writing one by the same numbers: 0 is written, 1 to 74 are refusals.
pub data StationWrittenAs : Result ℕ Refusal → ℕ → ℕ → ℕ → Type 0 where
  written : (size : ℕ) → StationWrittenAs (Ok size) 0 0 size
  refused : (f : Refusal) → 1 ≤ f.number → f.number ≤ 74 → StationWrittenAs (Err f) f.number (printed f.place) 0

-- The answer of reading a text by the number answered and the place and size set: 0 is read, 1 to 63 are refusals.
pub data TextReadAs : Result ℕ Refusal → ℕ → ℕ → ℕ → Type 0 where
  read : (size : ℕ) → TextReadAs (Ok size) 0 0 size
  refused : (f : Refusal) → 1 ≤ f.number → f.number ≤ 63 → TextReadAs (Err f) f.number (printed f.place) 0

-- The answer of a call of a walk by the number answered and the place set: 0 is begun or taken, 1 to 72 are refusals.
pub data WalkedAs : Result ⊤ Refusal → ℕ → ℕ → Type 0 where
  accepted : WalkedAs (Ok tt) 0 0
  refused : (f : Refusal) → 1 ≤ f.number → f.number ≤ 72 → WalkedAs (Err f) f.number (printed f.place)

-- The answer whether one action stands before another by the number answered and the place, yes and at set: 0 with yes 1 is yes, 0 with yes 0 is no at that
-- place, 1 to 73 are refusals.
pub data PrecededAs : Result (Maybe ℕ) Refusal → ℕ → ℕ → ℕ → ℕ → Type 0 where
  is_so : PrecededAs (Ok None) 0 0 1 0
  not_so : (at : ℕ) → PrecededAs (Ok (Some at)) 0 0 0 at
  refused : (f : Refusal) → 1 ≤ f.number → f.number ≤ 73 → PrecededAs (Err f) f.number (printed f.place) 0 0

-- The answer of bringing a plan to its form by the number answered and the place and size set: 0 is fixed, 1 to 74 are refusals.
pub data FormFixedAs : Result ℕ Refusal → ℕ → ℕ → ℕ → Type 0 where
  fixed : (size : ℕ) → FormFixedAs (Ok size) 0 0 size
  refused : (f : Refusal) → 1 ≤ f.number → f.number ≤ 74 → FormFixedAs (Err f) f.number (printed f.place) 0

-- Of an unfolding that left these bytes: what is claimed of it holds of the answer seen.
pub record UnfoldSeen (given : UnfoldGiven) (list a b : List ℕ) (number place steps size : ℕ) : Type 0 where
  pub answer : Result Unfolded Refusal
  pub seen : UnfoldedAs answer number place steps size
  pub claims : UnfoldClaims given (record { answer = answer; list = list; a = a; b = b })

-- Of a check that left these areas, and of a check of a single step.
pub record CheckSeen (given : CheckGiven) (a b : List ℕ) (number place steps size : ℕ) : Type 0 where
  pub answer : Result Checked Refusal
  pub seen : CheckedAs answer number place steps size
  pub claims : CheckClaims given (record { answer = answer; a = a; b = b })
  pub single : StepClaims given (record { answer = answer; a = a; b = b })

-- The numbers that an unfolding with the check of its own rewriting answers and sets.
pub record BothNumbers : Type 0 where
  pub number : ℕ
  pub place : ℕ
  pub steps : ℕ
  pub size : ℕ
  pub checked : ℕ
  pub own_number : ℕ
  pub own_place : ℕ
  pub own_steps : ℕ
  pub own_size : ℕ

-- Of that unfolding, by the areas given: the check of its own rewriting accepts.
pub record OwnSeen (a b c d : List ℕ) (n : BothNumbers) : Type 0 where
  pub unfolded : Result Unfolded Refusal
  pub own : Maybe (Result Checked Refusal)
  pub seen : UnfoldedAs unfolded n.number n.place n.steps n.size
  pub own_seen : OwnAs own n.checked n.own_number n.own_place n.own_steps n.own_size
  pub accepts : OwnAccepted unfolded own a b c d

-- Of a station file read that left these bytes in the tables area and the plan area.
pub record StationReadSeen (file tables plan tables_left plan_left : List ℕ) (number place size : ℕ) : Type 0 where
  pub answer : Result ℕ Refusal
  pub seen : StationReadAs answer number place size
  pub claims : ReadClaims file tables plan (record { answer = answer; tables = tables_left; plan = plan_left })

-- Of a station file written that left these bytes in the area.
pub record StationWrittenSeen (tables : Tables) (plan area left : List ℕ) (number place size : ℕ) : Type 0 where
  pub answer : Result ℕ Refusal
  pub seen : StationWrittenAs answer number place size
  pub claims : WriteClaims tables plan area (record { answer = answer; area = left })

-- Of a text read that left these bytes in the plan area.
pub record TextSeen (tables : Tables) (text area left : List ℕ) (number place size : ℕ) : Type 0 where
  pub answer : Result ℕ Refusal
  pub seen : TextReadAs answer number place size
  pub claims : TextClaims tables text area (record { answer = answer; plan = left })

-- Of a fresh walk, and of a message brought, that left these marks and this number of the finish.
pub record FreshSeen (tables : Tables) (plan marks left : List ℕ) (held number place finished : ℕ) : Type 0 where
  pub answer : Result ⊤ Refusal
  pub finish : Bool
  pub seen : WalkedAs answer number place
  pub finish_seen : finished ≡ finish_left answer held finish
  pub claims : FreshClaims tables plan (lent marks held) (record { answer = answer; progress = record { marks = left; finish = finish } })

pub record WalkSeen (tables : Tables) (plan marks left : List ℕ) (message held number place finished : ℕ) : Type 0 where
  pub answer : Result ⊤ Refusal
  pub finish : Bool
  pub seen : WalkedAs answer number place
  pub finish_seen : finished ≡ finish_left answer held finish
  pub claims : WalkClaims tables plan message (lent marks held) (record { answer = answer; progress = record { marks = left; finish = finish } })

-- Of whether one action stands before another.
pub record PrecedenceSeen (tables : Tables) (plan : List ℕ) (first second number place yes at : ℕ) : Type 0 where
  pub answer : Result (Maybe ℕ) Refusal
  pub seen : PrecededAs answer number place yes at
  pub claims : PrecedenceClaims tables plan first second answer

-- Of bringing a plan to its form, which left these bytes in the area.
pub record FormSeen (tables : Tables) (plan area left : List ℕ) (number place size : ℕ) : Type 0 where
  pub answer : Result ℕ Refusal
  pub seen : FormFixedAs answer number place size
  pub claims : FormClaims tables plan area (record { answer = answer; area = left })
