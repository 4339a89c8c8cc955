-- What is claimed of whether one action stands before another holds of the answer that the numbers tell: every refusal of it is 1 to 73.
use Rattle.std.specs.Prelude.{Result, Ok, Err, Some, None, Option as Maybe}
use Prim.Native.Nat.{ℕ}
use native.Mathlib.Omega.{arith}
use mathlib.Core.Path.{◌≡◌, sym, subst}
use mathlib.Core.Bool.{not}
use mathlib.Core.List.{List, [], ◌∷◌}
use mathlib.Core.Option.{Option, none, some}
use Rattle.refusals.specs.declared.Refusal.{Refusal}
use Rattle.refusals.specs.Refusal.{refuse_if}
use Rattle.tables.specs.Tables.{Tables, actions}
use Rattle.plans.specs.Basic.{basic_words?}
use Rattle.plans.specs.Judging.{plan_refusal}
use Rattle.precedence.specs.Overtaking.{overtaking}
use Rattle.precedence.specs.Outcome.{not_a_pair?, precedence_refusal, unless_refused, precedence_answer, precedence_report, precedence_reported}
use Rattle.precedence.specs.Claims.{PrecedenceClaims}
use Rattle.aberulwy_c.specs.Answers.{Returned, returned}
use Rattle.aberulwy_c.specs.Handing.{Answered}
use Rattle.aberulwy_c.specs.Seen.{PrecededAs, is_so, not_so, refused, PrecedenceSeen}
use Rattle.aberulwy_c.proofs.Answers.{answered, returned_2}
use Rattle.aberulwy_c.proofs.Numbers.{plan_numbers}
use Rattle.aberulwy_c.proofs.Ranges.{Range, widened, Numbered, numbered_or, numbered-if}

-- the numbers of refusals
abbrev Number : ℕ → Type 0
Number = Range 73

abbrev AnswerRange : Result (Maybe ℕ) Refusal → Type 0
AnswerRange (Ok None) = Unit
AnswerRange (Ok (Some p)) = Unit
AnswerRange (Err f) = Number f.number

unless_range : (o : Option Refusal) (p : Option ℕ) → Numbered Number o → AnswerRange (unless_refused o p)
unless_range (some f) p r = r
unless_range none none r = tt
unless_range none (some p) r = tt

module _ (t : Tables) (plan : List ℕ) (first second : ℕ) where
  range : AnswerRange (precedence_answer t plan first second)
  unfolding precedence_answer precedence_refusal
  range =
      unless_range (precedence_refusal t plan first second) (overtaking (actions t) plan first second)
      (numbered_or Number (plan_refusal t plan) _ (plan_numbers Number (widened 73 (omega arith)) t plan)
      (numbered_or Number (refuse_if (not_a_pair? (actions t) first second) 73) _ (numbered-if Number (not_a_pair? (actions t) first second) 73 (omega arith, omega arith))
      (numbered-if Number (not (basic_words? (actions t) plan)) 70 (omega arith, omega arith))))

  preceded_as : (x : Result (Maybe ℕ) Refusal) → AnswerRange x → {n p y a : ℕ} → Answered (precedence_report x) n p y a → PrecededAs x n p y a
  preceded_as (Ok None) r h = rw (h.number, h.place, h.first, h.second) is_so
  preceded_as (Ok (Some q)) r h = rw (h.number, h.place, h.first, h.second) (not_so q)
  preceded_as (Err f) r h = rw (h.number, h.place, h.first, h.second) (refused f r.0 r.1)

  -- all that the call promises, by the promises of the call below
  pub precedence_seen : {x : Result (Maybe ℕ) Refusal} {n p y a : ℕ}
      → (x ≡ precedence_answer t plan first second) × ((precedence_report x ≡ precedence_reported t plan first second) × PrecedenceClaims t plan first second x)
      → Answered (precedence_report x) n p y a
      → (◌≡◌ {A = Returned} (record { number = n; place = p; values = y ∷ a ∷ []; areas = [] }) (returned 2 (precedence_reported t plan first second) []))
      × PrecedenceSeen t plan first second n p y a
  precedence_seen {x} e h = (returned_2 [] (answered e.1.0 h), record { answer = x; seen = preceded_as x (subst AnswerRange (sym e.0) range) h; claims = e.1.1 })
