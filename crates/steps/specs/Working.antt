-- Nobody need believe this: contracts of functions cite it. A plan under work between two steps, and what the functions on it answer.
use Rattle.std.specs.Prelude.{ℕ, ◌+◌, ◌-◌, ◌≤◌, ◌<◌, ◌≡◌, List, ◌++◌, length, get_or, take, drop, Some, None, Option as Maybe, Result, Ok, Err}
use Rattle.std.proofs.Math.Option.{Option, none, some}
use Rattle.areas.specs.Area.{overwrite, most_words}
use Rattle.tables.specs.Tables.{Tables, actions}
use Rattle.plans.specs.Judging.{words_refusal}
use Rattle.matching.specs.Right.{spelled_law}
use Rattle.areas.specs.Storing.{before, Kept}
use Rattle.buffer.specs.declared.State.{State}
use Rattle.buffer.specs.Buffer.{whole, Held, stepped}
use Rattle.steps.specs.declared.Fault.{Fault}
use Rattle.steps.specs.declared.Fault.TheVariants.{DoesNotFit, TooLong}
use Rattle.steps.specs.declared.NotMade.{NotMade}

-- "31 law doesn't fit at that place, or the place is past the end. 32 next plan longer than C."
abbrev pub fault_number : Fault → ℕ
fault_number DoesNotFit = 31
fault_number TooLong = 32

-- the plan under work
abbrev pub plan_in : List ℕ → List ℕ → State → List ℕ
plan_in left right s = whole left right s.read s.rest

-- it is held as a gap buffer, and it is an accepted plan
pub record Working (t : Tables) (left starts right : List ℕ) (s : State) : Type 0 where
  pub held : Held (actions t) left starts right s.read s.rest
  pub accepted : words_refusal (actions t) (plan_in left right s) ≡ none

-- the same plan with the gap elsewhere, and no step made
pub record Same (t : Tables) (left starts right left' starts' right' : List ℕ) (s s' : State) : Type 0 where
  pub working : Working t left' starts' right' s'
  pub same_plan : plan_in left' right' s' ≡ plan_in left right s
  pub same_step : s'.made ≡ s.made

-- a step was made: the plan is now w, and the one before it what it was
pub record Next (t : Tables) (c : ℕ) (left right : List ℕ) (left' starts' right' old' : List ℕ) (s s' : State) (w : List ℕ) : Type 0 where
  pub working : Working t left' starts' right' s'
  pub kept : Kept c w old' s'.made
  pub next_plan : plan_in left' right' s' ≡ w
  pub next_before : before s'.made w old' ≡ plan_in left right s
  pub next_steps : s'.made.steps ≡ s.made.steps + 1

-- where the subplan at the last word read starts, its words, and a law's right side for it
abbrev pub start_here : List ℕ → State → ℕ
start_here starts s = get_or starts (s.read - 1) 0

abbrev pub words_here : List ℕ → List ℕ → State → List ℕ
words_here left starts s = take (s.read - start_here starts s) (drop (start_here starts s) left)

abbrev pub side_here : Tables → ℕ → List ℕ → List ℕ → List ℕ → State → List ℕ
side_here t law left f g s = spelled_law t law (take s.read left) f g

-- the plan with words put in place of that subplan
abbrev pub next_with : List ℕ → List ℕ → List ℕ → List ℕ → State → List ℕ
next_with side left starts right s = take (start_here starts s) left ++ (side ++ drop s.rest right)

-- the state after so many words are put in there
abbrev pub stepped_here : List ℕ → ℕ → State → State
stepped_here starts size s = stepped s (start_here starts s) (s.read - start_here starts s) size (s.rest - size)

-- some word is read, its subplan starts before it, and the arrays have 16,384 places
pub record Subplan (left starts : List ℕ) (s : State) : Type 0 where
  pub some_read : 1 ≤ s.read
  pub apart : s.read ≤ s.rest
  pub rest_in : s.rest ≤ most_words
  pub left_long : length left ≡ most_words
  pub starts_long : length starts ≡ most_words
  pub begins : start_here starts s < s.read

-- room made for so many words in place of that subplan, whose words are kept, unless the plan would have more than c words
pub data Room (c size : ℕ) (left starts old old' : List ℕ) (s : State) : Maybe State → Type 0 where
  no_room : c < start_here starts s + size + (most_words - s.rest) → old' ≡ old → Room c size left starts old old' s None
  room : start_here starts s + size + (most_words - s.rest) ≤ c → take (s.read - start_here starts s) old' ≡ words_here left starts s
      → Room c size left starts old old' s (Some (stepped_here starts size s))

-- words put in there, unless the plan would have more than c words
pub data Put (c : ℕ) (side left starts right old right' old' : List ℕ) (s : State) : Maybe State → Type 0 where
  too_long : c < length (next_with side left starts right s) → right' ≡ right → old' ≡ old → Put c side left starts right old right' old' s None
  put_in : length (next_with side left starts right s) ≤ c
      → right' ≡ overwrite right (s.rest - length side) side
      → take (s.read - start_here starts s) old' ≡ words_here left starts s
      → Put c side left starts right old right' old' s (Some (stepped_here starts (length side) s))

-- the word at a place is sought: past the plan's end nothing is moved; else it is the last one read
pub data Sought (t : Tables) (place : ℕ) (left starts right left' starts' right' : List ℕ) (s : State) : Result State NotMade → Type 0 where
  past : length (plan_in left right s) ≤ place → left' ≡ left → starts' ≡ starts → right' ≡ right
      → Sought t place left starts right left' starts' right' s (Err (record { fault = DoesNotFit; state = s }))
  here : (s' : State) → place < length (plan_in left right s) → Same t left starts right left' starts' right' s s' → s'.read ≡ place + 1
      → Sought t place left starts right left' starts' right' s (Ok s')

-- one step of a rewriting, of either direction, that gives the plan `next` or does not fit: it is made, or does not fit, or gives too long a plan
pub data Stepping (t : Tables) (next : Option (List ℕ)) (c : ℕ) (left starts right old left' starts' right' old' : List ℕ) (s : State) : Result State NotMade → Type 0 where
  done : (s' : State) (w : List ℕ) → next ≡ some w → length w ≤ c
      → Next t c left right left' starts' right' old' s s' w → Stepping t next c left starts right old left' starts' right' old' s (Ok s')
  fails : (s' : State) → next ≡ none → Same t left starts right left' starts' right' s s' → old' ≡ old
      → Stepping t next c left starts right old left' starts' right' old' s (Err (record { fault = DoesNotFit; state = s' }))
  long : (s' : State) (w : List ℕ) → next ≡ some w → c < length w
      → Same t left starts right left' starts' right' s s' → old' ≡ old → Stepping t next c left starts right old left' starts' right' old' s (Err (record { fault = TooLong; state = s' }))
