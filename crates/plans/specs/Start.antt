-- Nobody need believe this: contracts of functions cite it. Where the subplan at a place starts.
use Rattle.std.specs.Prelude.{ℕ, suc, ◌-◌, ◌≤◌, ◌<◌, List, length, get_or}
use Rattle.std.proofs.Math.Option.{Option, none, some}
use Rattle.plans.specs.declared.Word.{Word}
use Rattle.plans.specs.declared.Word.TheVariants.{Action, One, Two, NoWord}
use Rattle.plans.specs.Term.{Term, words}
use Rattle.plans.specs.Place.{subterm}

abbrev pub begins : Option Term → ℕ → ℕ
begins none p = 0
begins (some u) p = suc p - length (words u)

-- the index of the first word of the subplan at place p
unfoldable pub start_of : ℕ → List ℕ → ℕ → ℕ
unfolding subterm words
start_of n ws p = begins (subterm n ws p) p

-- where the subplan that ends at the next word starts: an action by itself, one operand ends at the word before, and of two the right one
-- ends there and the left one before it. (What is no word starts no subplan.)
unfoldable pub start_next : Word → List ℕ → ℕ → ℕ
start_next (Action a) starts read = read
start_next (One o) starts read = get_or starts (read - 1) 0
start_next (Two o) starts read = get_or starts (get_or starts (read - 1) 0 - 1) 0
start_next NoWord starts read = read

-- the operands that the next word takes are there
abbrev pub Operands : Word → List ℕ → ℕ → Type 0
Operands (Action a) starts read = Unit
Operands (One o) starts read = 1 ≤ read
Operands (Two o) starts read = (1 ≤ read) × (1 ≤ get_or starts (read - 1) 0) × (get_or starts (read - 1) 0 < read)
Operands NoWord starts read = Unit
