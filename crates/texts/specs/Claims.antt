-- What is claimed of reading a text, said of the grammar and not of how a text is read. (Request 101.)
use Rattle.std.specs.Prelude.{ℕ, ◌≤◌, ◌<◌, ◌≡◌, List, ◌↔◌, ◌⊎◌, length}
use Rattle.std.proofs.Math.Option.{some}
use Rattle.refusals.specs.declared.Place.TheVariants.{Nowhere, Byte}
use Rattle.refusals.specs.declared.Refusal.{Refusal}
use Rattle.areas.specs.Area.{most_words}
use Rattle.tables.specs.Tables.{Tables, actions}
use Rattle.tables.specs.Judging.{table_refusal}
use Rattle.tables.specs.Lawful.{Lawful}
use Rattle.plans.specs.Term.{Term}
use Rattle.plans.specs.Accepted.{AcceptedPlan}
use Rattle.grammar.specs.Grammar.{SumOf, Within, deepest, ReadAs}
use Rattle.grammar.specs.Fault.{FirstFault}
use Rattle.grammar.specs.Typed.{typed}
use Rattle.texts.specs.Text.{TextOutcome, refused_outcome, read_outcome}

-- "The text is read exactly when it belongs to this grammar within the limits that follow": lawful tables, and a plan of the words w that is no
-- longer than its area and than 16,384 words
pub record IsRead (t : Tables) (text area w : List ℕ) : Type 0 where
  pub lawful : Lawful t
  pub reads : ReadAs (actions t) text w
  pub fits : length w ≤ length area
  pub short : length w ≤ most_words

-- "A plan longer than its area or than 16,384 words"
pub record TooLong (t : Tables) (text area : List ℕ) : Type 0 where
  pub out : List ℕ
  pub reads : ReadAs (actions t) text out
  pub long : (length area < length out) ⊎ (most_words < length out)

-- 200 levels are enough for a plan: some text without a deeper bracket makes it
abbrev pub EnoughLevels : Term → Type 0
EnoughLevels u = (s : List ℕ) × SumOf s u × Within deepest s

-- the outcomes that there are, each with what makes it
pub data Ended (t : Tables) (text area : List ℕ) : TextOutcome → Type 0 where
  by_tables : (r : Refusal) → table_refusal t ≡ some r → Ended t text area (refused_outcome r area)
  by_fault : (k p : ℕ) → Lawful t → FirstFault (actions t) text k p → Ended t text area (refused_outcome (record { number = k; place = Byte p }) area)
  by_length : Lawful t → TooLong t text area → Ended t text area (refused_outcome (record { number = 63; place = Nowhere }) area)
  by_reading : (w : List ℕ) → IsRead t text area w → Ended t text area (read_outcome w area)

-- of the outcome o of reading a text under tables t into an area
pub record TextClaims (t : Tables) (text area : List ℕ) (o : TextOutcome) : Type 0 where
  -- read with the plan w, which then stands in the area with zeros behind, exactly when it belongs to the grammar within the limits
  pub read_exactly : (w : List ℕ) → (o ≡ read_outcome w area) ↔ IsRead t text area w
  -- "and as one plan only"
  pub one_plan_only : (u v : Term) → SumOf text u → SumOf text v → u ≡ v
  -- "Tables are checked first."
  pub tables_first : (r : Refusal) → table_refusal t ≡ some r → o ≡ refused_outcome r area
  -- 61 and 62, at the first fault of the text
  pub fault_exactly : Lawful t → (k p : ℕ) → (o ≡ refused_outcome (record { number = k; place = Byte p }) area) ↔ FirstFault (actions t) text k p
  -- "is 63, after both": a text with a fault makes no plan within the limits
  pub too_long_exactly : Lawful t → (o ≡ refused_outcome (record { number = 63; place = Nowhere }) area) ↔ TooLong t text area
  -- there is no other outcome
  pub nothing_else : Ended t text area o
  -- every accepted plan can be typed, wherever 200 levels are enough for it and the area is long enough
  pub typed_read : (plan : List ℕ) (p : AcceptedPlan t plan) → EnoughLevels p.term → text ≡ typed p.term → length plan ≤ length area → o ≡ read_outcome plan area
