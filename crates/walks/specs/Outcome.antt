-- What the calls of a walk answer and leave. (Request 102; refusals 70 to 72, after 1 to 8 and 11 to 14.)
use Rattle.std.specs.Prelude.{ℕ, Bool, true, false, not, ◌||◌, List, length, eqb, Result, Ok, Err, ⊤}
use Rattle.std.proofs.Math.Option.{Option, none, some}
use Rattle.refusals.specs.declared.Refusal.{Refusal}
use Rattle.refusals.specs.Refusal.{refuse_if, or_else}
use Rattle.tables.specs.Tables.{Tables, actions, outside?}
use Rattle.plans.specs.Basic.{basic_words?}
use Rattle.plans.specs.Judging.{plan_refusal}
use Rattle.walks.specs.Progress.{Progress, fresh}
use Rattle.walks.specs.Pass.{take_message}

-- "A plan that isn't basic, or marks of another length than the plan, get 70 straight after 1 to 14"
unfoldable pub not_walkable_refusal : Tables → List ℕ → List ℕ → Option Refusal
unfolding basic_words?
not_walkable_refusal t plan marks = or_else (plan_refusal t plan) (refuse_if (not (basic_words? (actions t) plan) || not (eqb (length marks) (length plan))) 70)

-- everything that a call answers and leaves
pub record WalkOutcome : Type 0 where
  pub answer : Result ⊤ Refusal
  pub progress : Progress

abbrev pub accepted_outcome : Progress → WalkOutcome
accepted_outcome q = record { answer = Ok tt; progress = q }

-- "A refused message changes nothing."
abbrev pub refused_outcome : Refusal → Progress → WalkOutcome
refused_outcome r p = record { answer = Err r; progress = p }

-- the first refusal of a call, and else what follows
abbrev pub unless_refused : Option Refusal → Progress → WalkOutcome → WalkOutcome
unless_refused (some r) p o = refused_outcome r p
unless_refused none p o = o

-- a fresh walk begun, whatever progress p stood there
unfoldable pub fresh_outcome : Tables → List ℕ → Progress → WalkOutcome
unfolding not_walkable_refusal fresh
fresh_outcome t plan p = unless_refused (not_walkable_refusal t plan p.marks) p (accepted_outcome (fresh plan))

abbrev pub not_taken? : Option Progress → Bool
not_taken? none = true
not_taken? (some q) = false

-- message m brought where the progress p stands: "an action outside 1 to n gets 71, and a message that no path goes on with gets 72, in that order"
unfoldable pub walk_refusal : Tables → List ℕ → ℕ → Progress → Option Refusal
unfolding not_walkable_refusal take_message
walk_refusal t plan m p =
    or_else (not_walkable_refusal t plan p.marks)
    (or_else (refuse_if (outside? (actions t) m) 71) (refuse_if (not_taken? (take_message (actions t) plan m p)) 72))

-- what the message leaves where it is taken
abbrev pub or_keep : Option Progress → Progress → Progress
or_keep none p = p
or_keep (some q) p = q

-- and everything that it answers and leaves
unfoldable pub walk_outcome : Tables → List ℕ → ℕ → Progress → WalkOutcome
unfolding walk_refusal take_message
walk_outcome t plan m p = unless_refused (walk_refusal t plan m p) p (accepted_outcome (or_keep (take_message (actions t) plan m p) p))
