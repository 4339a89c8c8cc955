-- Nobody need believe this: contracts of functions cite it. What steps made on a graph, one after another, answer and record.
use Rattle.std.specs.Prelude.{ℕ, ◌+◌, ◌-◌, ◌≤◌, ◌<◌, ◌≡◌, List, ◌++◌, length, Option as Maybe}
use Rattle.areas.specs.declared.StepState.{StepState}
use Rattle.areas.specs.Area.{overwrite, most_words}
use Rattle.areas.specs.Reached.{even?}
use Rattle.tables.specs.Tables.{Tables, actions}
use Rattle.rewritings.specs.Moves.{Move, bytes_of}
use Rattle.rewritings.specs.Runs.{run}
use Rattle.graphsteps.specs.declared.Reading.{Reading}
use Rattle.graphsteps.specs.declared.Cut.{Cut}
use Rattle.graphsteps.specs.declared.Stop.{Stop}
use Rattle.graphsteps.specs.Stopping.{end_number}
use Rattle.graphsteps.specs.Holding.{Arrays, in_use, Fits, Holding, CutOf}
use Rattle.recording.specs.declared.Ending.{Ending}
use Rattle.recording.specs.declared.Ending.TheVariants.{Over, NoNode}
use Rattle.recording.specs.declared.StepsMade.{StepsMade}

-- a run that ends where it stands
abbrev pub Ends : Tables → ℕ → ℕ → ℕ → List ℕ → ℕ → Type 0
Ends t c m room w number =
    (k : ℕ) (v : List ℕ) (r : List Move) → run t c m room k w v r ≡ record { number = number; steps = k; plan = w; before = v; moves = r }

-- How steps on a graph end, the plan w reached: with the run, or all nodes are in use and an entry is still to read.
pub data EndOf (t : Tables) (c m room : ℕ) (a : Arrays) (p : Reading) (w : List ℕ) : Ending → Type 0 where
  run_ends : (stop : Maybe Stop) → Ends t c m room w (end_number stop) → EndOf t c m room a p w (Over stop)
  no_node : p.count ≡ length a.own → p.rest < most_words → EndOf t c m room a p w NoNode

-- Some steps were made: s' counts them and their parity, `left` of those allowed are left, and s' tells of the last step what its cut tells.
pub record Counted (s : StepState) (allowed : ℕ) (s' : StepState) (left : ℕ) (k : Cut) : Type 0 where
  pub fewer : left < allowed
  pub count : s'.steps + left ≡ s.steps + allowed
  pub parity : s.even ≡ even? s.steps → s'.even ≡ even? s'.steps
  pub at_is : s'.at ≡ k.at
  pub old_is : s'.old ≡ k.old
  pub new_is : s'.new ≡ k.new

-- No step was made, and at most as many nodes as entries read; or the steps ms were made: their records are in the list, from place `used` on, and
-- the run goes on from the plan reached.
pub data MadeOf (t : Tables) (c allowed used : ℕ) (list list' : List ℕ) (a' : Arrays) (p : Reading) (w : List ℕ) (s : StepState) (r : StepsMade) : Type 0 where
  none_made : r.state ≡ s → r.allowed ≡ allowed → r.used ≡ used → list' ≡ list → Fits a' r.reading → Holding t c a' r.reading w
      → r.reading.count + p.rest ≤ p.count + r.reading.rest
      → EndOf t c allowed (length list - used) a' r.reading w r.ending
      → MadeOf t c allowed used list list' a' p w s r
  some_made : (v' w' : List ℕ) (ms : List Move) → Counted s allowed r.state r.allowed r.cut
      → list' ≡ overwrite list used (bytes_of ms) → r.used ≡ used + length (bytes_of ms) → r.used ≤ length list
      → Fits a' r.reading → Holding t c a' r.reading w' → CutOf (actions t) (in_use a' r.reading.count) r.cut v' w' → length v' ≤ c
      → ((v : List ℕ) (r₀ : List Move)
      → run t c allowed (length list - used) s.steps w v r₀ ≡ run t c r.allowed (length list - r.used) r.state.steps w' v' (r₀ ++ ms))
      → EndOf t c r.allowed (length list - r.used) a' r.reading w' r.ending
      → MadeOf t c allowed used list list' a' p w s r

-- whatever plan the arrays held
pub record MadeOn (t : Tables) (c allowed used : ℕ) (list list' : List ℕ) (a a' : Arrays) (p : Reading) (s : StepState) (r : StepsMade) : Type 0 where
  pub made : (w : List ℕ) → Holding t c a p w → MadeOf t c allowed used list list' a' p w s r
