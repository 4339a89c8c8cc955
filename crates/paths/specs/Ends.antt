-- Paths of a basic plan by its words, each told by the word where it ends, and how many there are. (Request 103.)
use Rattle.std.specs.Prelude.{ℕ, zero, suc, ◌+◌, ◌<◌, List, [], ◌∷◌, length}
use Rattle.plans.specs.declared.Binary.TheVariants.{Choice, Sequence}
use Rattle.plans.specs.Term.{Term, act, bin, words}
use Rattle.trees.specs.Tree.{stop, Rest, finish, further}

-- A path from the subplan that starts at word s: its actions, whether it ends in a finish or in a dead stop (`further stop`), and the place of the word
-- where it ends. At the word 0 a path ends in a dead stop, and at another action in a finish; a product goes on with its second factor, and a sum has the
-- paths of its summands.
pub data PathTo : ℕ → Term → List ℕ → Rest → ℕ → Type 0 where
  dead_stop : {s : ℕ} → PathTo s (act 0) [] (further stop) s
  action : {s a : ℕ} → 0 < a → PathTo s (act a) (a ∷ []) finish s
  prefix : {s a p : ℕ} {y : Term} {ms : List ℕ} {e : Rest} → PathTo (suc s) y ms e p → PathTo s (bin Sequence (act a) y) (a ∷ ms) e p
  left : {s p : ℕ} {x y : Term} {ms : List ℕ} {e : Rest} → PathTo s x ms e p → PathTo s (bin Choice x y) ms e p
  right : {s p : ℕ} {x y : Term} {ms : List ℕ} {e : Rest} → PathTo (s + length (words x)) y ms e p → PathTo s (bin Choice x y) ms e p

-- a path of the plan u ends at word p in a finish, or in a dead stop
abbrev pub EndsAt : Rest → Term → ℕ → Type 0
EndsAt e u p = (ms : List ℕ) × PathTo 0 u ms e p

-- of the places below m, exactly k are such that P
pub data HowMany (P : ℕ → Type 0) : ℕ → ℕ → Type 0 where
  none_yet : HowMany P zero 0
  one_more : {m k : ℕ} → HowMany P m k → P m → HowMany P (suc m) (suc k)
  not_so : {m k : ℕ} → HowMany P m k → (P m → ⊥) → HowMany P (suc m) k
