-- Nobody need believe this: contracts of functions cite it. A plan under work as a gap buffer: the words read stand at the front of one array, the
-- words still to read at the end of another.
use Rattle.std.specs.Prelude.{ℕ, ◌≤◌, ◌<◌, ◌≡◌, List, ◌++◌, length, get_or, take, drop}
use Rattle.areas.specs.Storing as storing
use Rattle.plans.specs.Start.{start_of}
use Rattle.buffer.specs.declared.State.{State}
use Rattle.areas.specs.Area.{most_words}

-- the plan: the words read, then the words still to read
unfoldable pub whole : List ℕ → List ℕ → ℕ → ℕ → List ℕ
whole left right read rest = take read left ++ drop rest right

-- the arrays have 16,384 places, the words in them fit a plan, and `starts` says of each word read where its subplan starts
pub record Held (n : ℕ) (left starts right : List ℕ) (read rest : ℕ) : Type 0 where
  pub left_long : length left ≡ most_words
  pub starts_long : length starts ≡ most_words
  pub right_long : length right ≡ most_words
  pub rest_in : rest ≤ most_words
  pub apart : read ≤ rest
  pub starts_right : (k : ℕ) → k < read → get_or starts k 0 ≡ start_of n (take read left) k

-- the state with the gap at another place
abbrev pub moved : State → ℕ → ℕ → State
moved s read rest = record { read = read; rest = rest; made = s.made }

-- the state after one step more: the subplan of `old` words that started at `at` gave way to `new` words, now first to read at `rest`
abbrev pub stepped : State → ℕ → ℕ → ℕ → ℕ → State
stepped s at old new rest = record { read = at; rest = rest; made = storing.stepped s.made at old new }
