-- Nobody need believe this: contracts of functions cite it. A plan under work on a graph: terms on a stack, read and free of redexes, and entries
-- still to read; and what reading one entry more comes to.
use Rattle.std.specs.Prelude.{ℕ, ◌+◌, ◌≤◌, ◌<◌, ◌≡◌, true, cond, List, ◌∷◌, ◌++◌, length, get_or, take, drop}
use Rattle.std.proofs.Math.Option.{none, some}
use Rattle.tables.specs.Tables.{Tables, actions}
use Rattle.plans.specs.declared.Unary.{Unary}
use Rattle.plans.specs.declared.Binary.{Binary}
use Rattle.plans.specs.Word.{unary_word, binary_word, takes_two?}
use Rattle.plans.specs.Term.{Term, words, SetNumber}
use Rattle.plans.specs.Stack.{spell, stacked}
use Rattle.plans.specs.Judging.{words_refusal}
use Rattle.graph.specs.Graph.{Graph, graph, Holds, Root, Held, ToRead, entry_size, most_nodes}
use Rattle.rewritings.specs.Choice.{Found, next_step}
use Rattle.graphsteps.specs.declared.Reading.{Reading}
use Rattle.graphsteps.specs.declared.Cut.{Cut}
use Rattle.graphsteps.specs.declared.Operands.{Operands}
use Rattle.graphsteps.specs.declared.Stop.{Stop}
use Rattle.graphsteps.specs.Stopping.{stop_number}
use Rattle.graphsteps.specs.declared.NextEntry.{NextEntry}
use Rattle.graphsteps.specs.declared.NextEntry.TheVariants.{Read, Step, Stopped, NoNode}
use Rattle.areas.specs.Area.{most_words}
use Rattle.laws.specs.Laws.{highest_law}

-- the arrays: words, first and second operands and sizes of nodes; the stack; the entries still to read
pub record Arrays : Type 0 where
  pub own : List ℕ
  pub first : List ℕ
  pub second : List ℕ
  pub sizes : List ℕ
  pub stack : List ℕ
  pub todo : List ℕ

abbrev pub arrays : List ℕ → List ℕ → List ℕ → List ℕ → List ℕ → List ℕ → Arrays
arrays own first second sizes stack todo =
    record { own = own; first = first; second = second; sizes = sizes; stack = stack; todo = todo }

-- the nodes in use
abbrev pub in_use : Arrays → ℕ → Graph
in_use m count = graph (take count m.own) (take count m.first) (take count m.second)

-- the arrays have their lengths, those of nodes all the same, and what is in use is within them
pub record Fits (m : Arrays) (p : Reading) : Type 0 where
  pub own_most : length m.own ≤ most_nodes
  pub first_long : length m.first ≡ length m.own
  pub second_long : length m.second ≡ length m.own
  pub sizes_long : length m.sizes ≡ length m.own
  pub stack_long : length m.stack ≡ most_words
  pub todo_long : length m.todo ≡ most_words
  pub some_nodes : 256 ≤ p.count
  pub nodes_in : p.count ≤ length m.own
  pub rest_in : p.rest ≤ most_words

-- they hold the plan w, of at most c words
pub record Holding (t : Tables) (c : ℕ) (m : Arrays) (p : Reading) (w : List ℕ) : Type 0 where
  pub terms : List Term
  pub behind : List ℕ
  pub held : Held (actions t) (in_use m p.count) (stacked m.stack p.height) terms
  pub to_read : ToRead (actions t) (in_use m p.count) (drop p.rest m.todo) behind
  pub plan : w ≡ spell terms ++ behind
  pub read_is : p.read ≡ length (spell terms)
  pub size_is : p.size ≡ length w
  pub accepted : words_refusal (actions t) w ≡ none
  pub short : length w ≤ c
  pub quiet : next_step t (spell terms) ≡ none
  pub nodes_hold : (v : ℕ) → 256 ≤ v → v < p.count → (u : Term) × Holds (actions t) (in_use m p.count) v u
  pub nodes_quiet : (v : ℕ) (u : Term) → 256 ≤ v → Holds (actions t) (in_use m p.count) v u → next_step t (words u) ≡ none
  pub nodes_sized : (v : ℕ) (u : Term) → 256 ≤ v → Holds (actions t) (in_use m p.count) v u → get_or m.sizes v 0 ≡ length (words u)

-- some plan that they hold
pub record SomePlan (t : Tables) (c : ℕ) (m : Arrays) (p : Reading) : Type 0 where
  pub some_plan : List ℕ
  pub holding : Holding t c m p some_plan

-- a sign, and its operands are on the stack
pub data Signed (stack : List ℕ) (height w : ℕ) : Type 0 where
  signed_one : (o : Unary) → w ≡ unary_word o → SetNumber o → 1 ≤ height → height ≤ length stack → Signed stack height w
  signed_two : (o : Binary) → w ≡ binary_word o → 2 ≤ height → height ≤ length stack → Signed stack height w

-- how many words a sign with its operands has
unfoldable pub size_under : List ℕ → ℕ → Operands → ℕ
size_under sizes w r = cond (takes_two? w) (entry_size sizes r.a + entry_size sizes r.b + 1) (entry_size sizes r.a + 1)

-- the sizes of a sign's operands are there
abbrev pub SizesOf : List ℕ → ℕ → Operands → Type 0
SizesOf sizes w r = (256 ≤ r.a → r.a < length sizes) × (takes_two? w ≡ true → 256 ≤ r.b → r.b < length sizes)

-- the reading after a term of k words; after a sign that has become a node on so many entries; and after a step
abbrev pub with_term : Reading → ℕ → Reading
with_term p k = record { height = p.height + 1; rest = p.rest + 1; count = p.count; read = p.read + k; size = p.size }

abbrev pub with_sign : Reading → ℕ → Reading
with_sign p under = record { height = under + 1; rest = p.rest + 1; count = p.count + 1; read = p.read + 1; size = p.size }

abbrev pub with_step : Reading → ℕ → ℕ → ℕ → ℕ → Reading
with_step p under rest at size = record { height = under; rest = rest; count = p.count; read = at; size = size }

-- by the entry, and by the sign's operands
abbrev pub after_term : List ℕ → Reading → ℕ → Reading
after_term sizes p v = with_term p (entry_size sizes v)

abbrev pub after_sign : Reading → Operands → Reading
after_sign p r = with_sign p r.under

-- the operands of a sign, taken from the stack
pub data TakenFor (w : ℕ) (stack : List ℕ) (height : ℕ) (r : Operands) : Type 0 where
  takes_one : (o : Unary) → w ≡ unary_word o → stacked stack height ≡ r.a ∷ stacked stack r.under → TakenFor w stack height r
  takes_two : (o : Binary) → w ≡ binary_word o → stacked stack height ≡ r.b ∷ (r.a ∷ stacked stack r.under) → TakenFor w stack height r

-- The cut of a step: the plan w with the term at the cut put back is the plan v before the step.
pub record CutOf (n : ℕ) (g : Graph) (k : Cut) (v w : List ℕ) : Type 0 where
  pub redex : Term
  pub root : Root n g k.word k.a k.b redex
  pub old_is : k.old ≡ length (words redex)
  pub inside : k.at + k.new ≤ length w
  pub put_back : v ≡ take k.at w ++ (words redex ++ drop (k.at + k.new) w)

-- Why the next step is not made, with m steps allowed, c words to a plan and room bytes left in the list: "34 steps made equal the allowance.
-- 35 the list can't take three bytes more. 36 next plan longer than C."
pub data NotMade (t : Tables) (c m room : ℕ) (w : List ℕ) : ℕ → Type 0 where
  none_allowed : (s : Found) → next_step t w ≡ some s → m ≡ 0 → NotMade t c m room w 34
  list_full : (s : Found) → next_step t w ≡ some s → 1 ≤ m → room < 3 → NotMade t c m room w 35
  too_long : (s : Found) → next_step t w ≡ some s → 1 ≤ m → 3 ≤ room → c < length s.plan → NotMade t c m room w 36

-- What came of the next entry: it was read; or a step was made there, the unfolding's next; or that step was not made; or no node is left.
pub data Advanced (t : Tables) (c allowed room : ℕ) (m m' : Arrays) (p : Reading) (w : List ℕ) : NextEntry → Type 0 where
  went_on : (p' : Reading) → Fits m' p' → Holding t c m' p' w → p'.rest ≡ p.rest + 1 → p'.count ≤ p.count + 1
      → ((k : Cut) (v : List ℕ) → CutOf (actions t) (in_use m p.count) k v w → CutOf (actions t) (in_use m' p'.count) k v w)
      → Advanced t c allowed room m m' p w (Read p')
  stepped : (law : ℕ) (p' : Reading) (k : Cut) (w' : List ℕ) → 1 ≤ allowed → 3 ≤ room → law ≤ highest_law
      → next_step t w ≡ some (record { law = law; place = p.read; plan = w' })
      → Fits m' p' → Holding t c m' p' w' → CutOf (actions t) (in_use m' p'.count) k w w' → Advanced t c allowed room m m' p w (Step law p' k)
  not_made : (why : Stop) → NotMade t c allowed room w (stop_number why) → m' ≡ m → Advanced t c allowed room m m' p w (Stopped why)
  no_node : p.count ≡ length m.own → m' ≡ m → Advanced t c allowed room m m' p w NoNode

-- whatever plan they hold, one entry more was read so
pub record AdvancedOn (t : Tables) (c allowed room : ℕ) (m m' : Arrays) (p : Reading) (r : NextEntry) : Type 0 where
  pub advanced : (w : List ℕ) → Holding t c m p w → Advanced t c allowed room m m' p w r
