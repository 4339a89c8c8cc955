-- Each law tried on small plans by computation, before all other proofs. (`law_sound` is of every plan.)
use Prim.Native.Nat.{ℕ, suc}
use mathlib.Core.Path.{◌≡◌, refl}
use mathlib.Core.Bool.{Bool, true, cond, ◌&&◌, ◌||◌, not}
use mathlib.Core.List.{List, [], ◌∷◌, ◌++◌}
use lib.ListN.{replicate, take, drop}
use Rattle.tables.specs.Tables.{Tables, communication, below, blocked}
use Rattle.plans.specs.declared.Binary.TheVariants.{Choice}
use Rattle.plans.specs.Term.{Term, act, bin}
use Rattle.trees.specs.Operators.{◌⊕◌, ◌⊙◌, left_trees, communication_trees, encapsulation_tree, unless_tree, priority_tree}
use Rattle.trees.specs.Meaning.{tree}
use Rattle.trees.proofs.Decision.{alike?}
use Rattle.laws.specs.Laws.{Law, laws, bind, same_bytes, holds, build}
use Rattle.laws.specs.Fits.{Letters, numbered}

-- the tables of the trial trays: n is 4, 1|2 = 2|1 = 3, 0 is below all and 1 < 4, and set 0 is {1, 2}
trial : Tables
trial =
    4 ∷ replicate 34 0 ++ (3 ∷ replicate 30 0 ++ (3 ∷ replicate 959 0 ++ (replicate 4 1 ++ (replicate 31 0 ++ (1 ∷ replicate 988 0 ++ (1 ∷ 1 ∷ replicate 253 0))))))

letters : Term → Term → Term → ℕ → ℕ → Letters
letters x y z a b = record { x = x; y = y; z = z; a = a; b = b; set = 0 }

trials : List Letters
unfolding letters
trials =
    letters (act 1) (act 2) (act 4) 1 2
    ∷ letters (act 1) (act 2) (act 4) 1 4
    ∷ letters (act 2) (bin Choice (act 1) (act 4)) (act 3) 2 1
    ∷ letters (act 1) (act 1) (act 0) 0 3
    ∷ []

-- a law keeps the tree, where its condition holds
keeps? : Law → Letters → Bool
unfolding trial numbered bind holds build same_bytes tree communication below blocked alike? ◌⊕◌ ◌⊙◌ left_trees communication_trees encapsulation_tree unless_tree priority_tree
keeps? l s = not (holds trial l.when (numbered s)) || alike? (tree trial (build trial (numbered s) l.lhs)) (tree trial (build trial (numbered s) l.rhs))

all_keep? : Law → List Letters → Bool
unfolding keeps?
all_keep? l [] = true
all_keep? l (s ∷ ss) = keeps? l s && all_keep? l ss

-- the numbers of the laws that do not, in a list whose first is law k
pub wrong : ℕ → List Law → List ℕ
unfolding all_keep? trials
wrong k [] = []
wrong k (l ∷ ls) = cond (all_keep? l trials) (wrong (suc k) ls) (k ∷ wrong (suc k) ls)

-- 1 to 9
pub choice_and_sequence : wrong 1 (take 9 laws) ≡ []
unfolding wrong laws
choice_and_sequence = refl

-- 10 to 19
pub merges : wrong 10 (take 10 (drop 9 laws)) ≡ []
unfolding wrong laws
merges = refl

-- 20 to 23
pub encapsulation : wrong 20 (take 4 (drop 19 laws)) ≡ []
unfolding wrong laws
encapsulation = refl

-- 24 to 29
pub unless : wrong 24 (take 6 (drop 23 laws)) ≡ []
unfolding wrong laws
unless = refl

-- 30 to the last
pub priority : wrong 30 (drop 29 laws) ≡ []
unfolding wrong laws
priority = refl
