-- The operands under an operator's word, and ∂'s words, which are no other sign's.
use Prim.Native.Nat.{ℕ, ◌≤◌, ◌<◌}
use mathlib.Core.Path.{◌≡◌}
use native.Mathlib.Omega.{arith}
use Rattle.plans.specs.declared.Binary.TheVariants.{Choice, Sequence, Merge, LeftMerge, CommunicationMerge, Unless}
use Rattle.plans.specs.declared.Unary.TheVariants.{Priority, Encapsulation}
use Rattle.plans.specs.Word.{binary_word, unary_word}
use Rattle.plans.specs.Term.{Term}
use Rattle.plans.proofs.Words.{unary_low}
use Rattle.graph.specs.Graph.{Graph, Holds, Root, root_one, root_two}
use Rattle.redexes.specs.Slots.{RootTerm}

module _ {n : ℕ} {g : Graph} {w a b : ℕ} where
  pub first_operand : RootTerm n g w a b → (u : Term) × Holds n g a u
  first_operand r = go r.root
    where
      go : {u : Term} → Root n g w a b u → (x : Term) × Holds n g a x
      go (root_one e k h) = (_, h)
      go (root_two e h l) = (_, h)

  pub second_operand : RootTerm n g w a b → w < 70 → (u : Term) × Holds n g b u
  second_operand r low = go r.root
    where
      go : {u : Term} → Root n g w a b u → (x : Term) × Holds n g b x
      go (root_one {o} e k h) = absurd (omega (arith, e, unary_low o, low))
      go (root_two e h l) = (_, l)

  -- the words of ∂ are those that are left
  pub encapsulation-word : RootTerm n g w a b → (w ≡ 64 → ⊥) → (w ≡ 66 → ⊥) → (w ≡ 65 → ⊥) → (w ≡ 67 → ⊥) → (w ≡ 68 → ⊥) → (w ≡ 69 → ⊥) → (w ≡ 70 → ⊥)
      → (80 ≤ w) × (w ≤ 87)
  unfolding unary_word binary_word
  encapsulation-word r n4 n6 n5 n7 n8 n9 n0 = go r.root
    where
      go : {u : Term} → Root n g w a b u → (80 ≤ w) × (w ≤ 87)
      go (root_one {o = Priority} e k h) = absurd (n0 e)
      go (root_one {o = Encapsulation s} e k h) = (omega (arith, e), omega (arith, e))
      go (root_two {o = Choice} e h l) = absurd (n4 e)
      go (root_two {o = Sequence} e h l) = absurd (n5 e)
      go (root_two {o = Merge} e h l) = absurd (n6 e)
      go (root_two {o = LeftMerge} e h l) = absurd (n7 e)
      go (root_two {o = CommunicationMerge} e h l) = absurd (n8 e)
      go (root_two {o = Unless} e h l) = absurd (n9 e)
