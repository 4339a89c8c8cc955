-- What an operand at the root of a term is: an action, a sum, a product, or a term of another sign.
use Prim.Native.Nat.{ℕ, ◌≤◌}
use mathlib.Core.Path.{◌≡◌, refl}
use mathlib.Core.Bool.{false, cond}
use native.Mathlib.Omega.{arith}
use lib.Dec.{eqb}
use borrow.Author.Tests.{ne_eqb, lt-ltb, le-ltb}
use Rattle.plans.specs.declared.Binary.{Binary}
use Rattle.plans.specs.declared.Binary.TheVariants.{Choice, Sequence, Merge, LeftMerge, CommunicationMerge, Unless}
use Rattle.plans.specs.declared.Unary.{Unary}
use Rattle.plans.specs.Word.{binary_word, unary_word}
use Rattle.plans.specs.Term.{Term, act, un, bin}
use Rattle.plans.proofs.Words.{unary_low}
use Rattle.graph.specs.Graph.{Graph, Holds, leaf, one, two}
use Rattle.redexes.specs.Redexes.{operand_of}
use Rattle.redexes.specs.declared.root.Operand.{Operand}
use Rattle.redexes.specs.declared.root.Operand.TheVariants.{Action, Sum, Product, Other}

-- An entry, the operand that it is looked at as, and the term that it stands for. Of a term of another sign it is enough that the sign is none
-- that the laws ask for.
pub data Seen (n : ℕ) (g : Graph) : ℕ → Operand → Term → Type 0 where
  seen-action : {v : ℕ} → v ≤ n → Seen n g v (Action v) (act v)
  seen-sum : {v i j : ℕ} {x y : Term} → Holds n g i x → Holds n g j y → Seen n g v (Sum i j) (bin Choice x y)
  seen-product : {v i j : ℕ} {x y : Term} → Holds n g i x → Holds n g j y → Seen n g v (Product i j) (bin Sequence x y)
  seen_one : {v : ℕ} {o : Unary} {x : Term} → Seen n g v Other (un o x)
  seen-two : {v : ℕ} {o : Binary} {x y : Term} → eqb (binary_word o) 64 ≡ false → eqb (binary_word o) 65 ≡ false → Seen n g v Other (bin o x y)

module _ {n : ℕ} {g : Graph} (few : n ≤ 31) where
  seen-node : (o : Binary) {v i j : ℕ} {x y : Term} → Holds n g i x → Holds n g j y
      → Seen n g v (cond (eqb (binary_word o) 64) (Sum i j) (cond (eqb (binary_word o) 65) (Product i j) Other)) (bin o x y)
  unfolding binary_word
  seen-node Choice h l = seen-sum h l
  seen-node Sequence h l = seen-product h l
  seen-node Merge h l = seen-two {o = Merge} refl refl
  seen-node LeftMerge h l = seen-two {o = LeftMerge} refl refl
  seen-node CommunicationMerge h l = seen-two {o = CommunicationMerge} refl refl
  seen-node Unless h l = seen-two {o = Unless} refl refl

  pub seen : {v : ℕ} {u : Term} → Holds n g v u → Seen n g v (operand_of g v) u
  unfolding operand_of
  seen (leaf {a} h) = rw (lt-ltb a 256 (omega arith)) (seen-action h)
  seen (one {v} {o} i j e k h) =
      let l = unary_low o in
      rw (le-ltb v 256 i, e, ne_eqb (unary_word o) 64 (λ q. omega arith), ne_eqb (unary_word o) 65 (λ q. omega arith)) seen_one
  seen (two {v} {o} i j e h l) = rw (le-ltb v 256 i, e) (seen-node o h l)
