-- Nobody need believe this: contracts of functions cite it. What the parts of a round answer: the plan loaded, written out, and the whole round.
use Rattle.std.specs.Prelude.{ℕ, ◌+◌, ◌-◌, ◌≤◌, ◌<◌, ◌≡◌, List, ◌++◌, length, take, drop, Option as Maybe}
use Rattle.std.proofs.Math.Option.{none}
use Rattle.areas.specs.declared.StepState.{StepState}
use Rattle.areas.specs.Area.{overwrite, most_words}
use Rattle.areas.specs.Storing.{before, Kept}
use Rattle.tables.specs.Tables.{Tables, actions}
use Rattle.plans.specs.Term.{Term, words}
use Rattle.plans.specs.Stack.{spell, stacked}
use Rattle.plans.specs.Judging.{words_refusal}
use Rattle.rewritings.specs.Moves.{Move, bytes_of}
use Rattle.rewritings.specs.Runs.{run}
use Rattle.graph.specs.Graph.{Graph, Root, Held, ToRead}
use Rattle.graphsteps.specs.declared.Cut.{Cut}
use Rattle.graphsteps.specs.declared.Stop.{Stop}
use Rattle.graphsteps.specs.Stopping.{end_number}
use Rattle.recording.specs.declared.Ending.{Ending}
use Rattle.recording.specs.declared.Ending.TheVariants.{Over, NoNode}
use Rattle.recording.specs.Recording.{Ends}
use Rattle.rounds.specs.declared.Round.{Round}

-- An accepted plan of at most c words stands at the end of an array of words, from place `front` on, and the plan before it can be put together
-- again.
pub record Given (t : Tables) (c : ℕ) (ws old : List ℕ) (front : ℕ) (s : StepState) : Type 0 where
  pub long : length ws ≡ most_words
  pub old_long : length old ≡ most_words
  pub front_in : front ≤ most_words
  pub accepted : words_refusal (actions t) (drop front ws) ≡ none
  pub kept : Kept c (drop front ws) old s

-- the stack and the entries still to read hold some plan, of at most 16,384 words
pub record PlanOf (g : Graph) (stack : List ℕ) (height : ℕ) (todo : List ℕ) (rest : ℕ) : Type 0 where
  pub n : ℕ
  pub few : n ≤ 31
  pub terms : List Term
  pub behind : List ℕ
  pub held : Held n g (stacked stack height) terms
  pub to_read : ToRead n g (drop rest todo) behind
  pub short : length (spell terms ++ behind) ≤ most_words

-- its words stand at the end of an area, from place r on
pub record WroteOut (g : Graph) (stack : List ℕ) (height : ℕ) (todo : List ℕ) (rest : ℕ) (dst : List ℕ) (r : ℕ) : Type 0 where
  pub wrote : (n : ℕ) (terms : List Term) (behind : List ℕ) → n ≤ 31 → Held n g (stacked stack height) terms → ToRead n g (drop rest todo) behind
      → (drop r dst ≡ spell terms ++ behind) × (r + length (spell terms ++ behind) ≡ most_words)

-- some term that the cut of a step took away
pub record RedexOf (g : Graph) (k : Cut) : Type 0 where
  pub n : ℕ
  pub few : n ≤ 31
  pub redex : Term
  pub root : Root n g k.word k.a k.b redex
  pub old_is : k.old ≡ length (words redex)

-- its words stand at the front of an area
pub record RedexIn (g : Graph) (k : Cut) (old : List ℕ) : Type 0 where
  pub redex_in : (n : ℕ) (u : Term) → n ≤ 31 → Root n g k.word k.a k.b u → take k.old old ≡ words u

-- How a round ends, the plan w reached: with the run; or another round follows, with fewer steps allowed.
pub data RoundEnd (t : Tables) (c allowed left room : ℕ) (w : List ℕ) : Ending → Type 0 where
  run_over : (stop : Maybe Stop) → Ends t c left room w (end_number stop) → RoundEnd t c allowed left room w (Over stop)
  another : left < allowed → RoundEnd t c allowed left room w NoNode

-- A round was made: ms are its steps, and the run goes on from the plan reached.
pub record RoundOf (t : Tables) (c allowed used : ℕ) (ws old list ws' old' list' : List ℕ) (front : ℕ) (s : StepState) (r : Round) : Type 0 where
  pub ms : List Move
  pub given : Given t c ws' old' r.front r.state
  pub records : list' ≡ overwrite list used (bytes_of ms)
  pub used_is : r.used ≡ used + length (bytes_of ms)
  pub used_low : r.used ≤ length list
  pub count : r.state.steps + r.allowed ≡ s.steps + allowed
  pub runs : (r₀ : List Move)
      → run t c allowed (length list - used) s.steps (drop front ws) (before s (drop front ws) old) r₀
      ≡ run t c r.allowed (length list - r.used) r.state.steps (drop r.front ws') (before r.state (drop r.front ws') old') (r₀ ++ ms)
  pub ended : RoundEnd t c allowed r.allowed (length list - r.used) (drop r.front ws') r.ending
