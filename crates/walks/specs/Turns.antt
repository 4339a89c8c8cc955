-- Nobody need believe this: contracts of functions cite it. What a pass over a plan's words is handed, and what one turn of it leaves.
use Rattle.std.specs.Prelude.{ℕ, ◌≤◌, ◌≡◌, Bool, ◌||◌, List, length}
use Rattle.std.proofs.Math.Option.{Option, none, some}
use Rattle.refusals.specs.declared.Place.TheVariants.{Nowhere}
use Rattle.areas.specs.Area.{most_words}
use Rattle.plans.specs.Judging.{words_refusal}
use Rattle.paths.specs.Operands.{Starts}
use Rattle.walks.specs.Progress.{Progress}
use Rattle.walks.specs.Pass.{look, passed}
use Rattle.walks.specs.Outcome.{WalkOutcome, accepted_outcome, refused_outcome}

-- an accepted plan, and one mark byte for each of its words
pub record Walking (n : ℕ) (plan marks : List ℕ) : Type 0 where
  pub few : n ≤ 31
  pub accepted : words_refusal n plan ≡ none
  pub fits : length marks ≡ length plan

-- what the pass over the whole plan finds
pub record Found (n : ℕ) (plan : List ℕ) (m : ℕ) (marks next : List ℕ) (r : Bool) : Type 0 where
  pub next_found : next ≡ (passed n plan m marks).next
  pub ending_found : r ≡ (passed n plan m marks).ending
  pub next_long : length next ≡ length plan

-- an accepted plan, where its words' subplans start, and for each word one mark to look at and one to be set
pub record Passing (n : ℕ) (plan starts left next : List ℕ) : Type 0 where
  pub few : n ≤ 31
  pub accepted : words_refusal n plan ≡ none
  pub starts_right : Starts n plan starts
  pub starts_long : length starts ≡ most_words
  pub left_long : length left ≡ length plan
  pub next_long : length next ≡ length plan

-- what a marked word leaves, whether or not the message was found to finish before it
pub record Looked (n : ℕ) (plan : List ℕ) (m i : ℕ) (left next left' next' : List ℕ) (r : Bool) : Type 0 where
  pub left_same : length left' ≡ length left
  pub next_same : length next' ≡ length next
  pub looked : (e : Bool) → look n plan m i (record { left = left; next = next; ending = e }) ≡ record { left = left'; next = next'; ending = r || e }

-- what a message of 1 to n leaves, by whether it is taken
abbrev pub message_outcome : Option Progress → Progress → WalkOutcome
message_outcome none p = refused_outcome (record { number = 72; place = Nowhere }) p
message_outcome (some q) p = accepted_outcome q
