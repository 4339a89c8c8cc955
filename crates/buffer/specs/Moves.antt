-- Nobody need believe this: contracts of functions cite it. What the functions on a gap buffer ask and answer: its sizes, and the first state.
use Rattle.std.specs.Prelude.{ℕ, ◌-◌, ◌≤◌, ◌≡◌, List, length}
use Rattle.areas.specs.Storing.{no_step}
use Rattle.buffer.specs.declared.State.{State}
use Rattle.areas.specs.Area.{most_words}

-- the sizes of `Held`, where nothing is asked of the starts
pub record Gap (left right : List ℕ) (read rest : ℕ) : Type 0 where
  pub left_long : length left ≡ most_words
  pub right_long : length right ≡ most_words
  pub rest_in : rest ≤ most_words
  pub apart : read ≤ rest

-- no step made and nothing read of a plan of so many words
abbrev pub loaded : ℕ → State
loaded size = record { read = 0; rest = most_words - size; made = no_step }
