-- What a message leads to in a basic plan, by its terms and the places of its subplans. (Request 102: "all subplans that the messages so far can
-- have led to".) A subplan stands in a plan from a word on, its start; its place is the index of its last word.
use Rattle.std.specs.Prelude.{ℕ, suc, ◌+◌, ◌-◌, ◌<◌, List, [], ◌∷◌, length}
use Rattle.tables.specs.Tables.{Tables}
use Rattle.plans.specs.declared.Binary.TheVariants.{Choice, Sequence}
use Rattle.plans.specs.Term.{Term, act, bin, words}
use Rattle.trees.specs.Tree.{Rest, finish, further}
use Rattle.trees.specs.Meaning.{tree}

-- "The place of a subplan is the index, from 0, of its last word": of the subplan u that starts at word s
abbrev pub place_of : ℕ → Term → ℕ
place_of s u = s + length (words u) - 1

-- what a message can lead to: a finish, or the subplan that starts at a word
pub data Target : Type 0 where
  at_finish : Target
  subplan : ℕ → Term → Target

-- message m taken by the subplan that starts at word s (in the field, a transition): an action that is the message finishes, a product whose first
-- factor it is leads to the second factor, and a sum does what its summands do. Dead stop, 0, takes nothing, and is no first factor of a basic plan.
pub data Transition (m : ℕ) : ℕ → Term → Target → Type 0 where
  ends : {s : ℕ} → 0 < m → Transition m s (act m) at_finish
  goes : {s : ℕ} {y : Term} → Transition m s (bin Sequence (act m) y) (subplan (suc s) y)
  left : {s : ℕ} {x y : Term} {g : Target} → Transition m s x g → Transition m s (bin Choice x y) g
  right : {s : ℕ} {x y : Term} {g : Target} → Transition m (s + length (words x)) y g → Transition m s (bin Choice x y) g

-- messages taken one after another
pub data Transitions : Target → List ℕ → Target → Type 0 where
  stay : {g : Target} → Transitions g [] g
  go : {m : ℕ} {ms : List ℕ} {s : ℕ} {u : Term} {h g : Target} → Transition m s u h → Transitions h ms g → Transitions (subplan s u) (m ∷ ms) g

-- what is left of the tree there
abbrev pub rest_of : Tables → Target → Rest
rest_of t at_finish = finish
rest_of t (subplan s u) = further (tree t u)
