-- An entry stands for one term at most, and that term is one of the actions that there are.
use Prim.Native.Nat.{ℕ, ◌≤◌}
use native.Mathlib.Omega.{arith}
use mathlib.Core.Path.{◌≡◌, refl, sym, ◌∙◌, ap}
use Rattle.plans.specs.declared.Binary.{Binary}
use Rattle.plans.specs.declared.Unary.{Unary}
use Rattle.plans.specs.declared.Word.TheVariants.{One, Two}
use Rattle.plans.specs.Word.{binary_word, unary_word, word_of}
use Rattle.plans.specs.Term.{Term, SetNumber, Over}
use Rattle.plans.proofs.Words.{binary_range, unary_low, word_unary, word_binary}
use Rattle.graph.specs.Graph.{Graph, Holds, leaf, one, two, Root, root_one, root_two}

same_unary : (o o' : Unary) → SetNumber o → SetNumber o' → unary_word o ≡ unary_word o' → o ≡ o'
same_unary o o' h h' e =
    let p : One o ≡ One o' = sym (word_unary 31 (omega arith) o h) ∙ ap (word_of 31) e ∙ word_unary 31 (omega arith) o' h' in
    cc

same_binary : (o o' : Binary) → binary_word o ≡ binary_word o' → o ≡ o'
same_binary o o' e =
    let p : Two o ≡ Two o' = sym (word_binary 31 (omega arith) o) ∙ ap (word_of 31) e ∙ word_binary 31 (omega arith) o' in
    cc

-- whatever the number of actions
module _ (n m : ℕ) (few : n ≤ 31) (few' : m ≤ 31) (g : Graph) where
  pub holds_same : {v : ℕ} {u u' : Term} → Holds n g v u → Holds m g v u' → u ≡ u'
  holds_same (leaf h) (leaf h') = refl
  holds_same (leaf h) (one i j e k x) = absurd (omega arith)
  holds_same (leaf h) (two i j e x y) = absurd (omega arith)
  holds_same (one i j e k x) (leaf h) = absurd (omega arith)
  holds_same (one {o} {x} i j e k h) (one {o = o'} {x = x'} i' j' e' k' h') =
      let p : o ≡ o' = same_unary o o' k k' (sym e ∙ e') in
      let q : x ≡ x' = holds_same h h' in
      rw (p, q)
  holds_same (one {o} i j e k h) (two {o = o'} i' j' e' h' h'') = absurd (omega (arith, e, e', unary_low o, binary_range o'))
  holds_same (two i j e x y) (leaf h) = absurd (omega arith)
  holds_same (two {o = o'} i' j' e' h' h'') (one {o} i j e k h) = absurd (omega (arith, e, e', unary_low o, binary_range o'))
  holds_same (two {o} {x} {y} i j e h l) (two {o = o'} {x = x'} {y = y'} i' j' e' h' l') =
      let p : o ≡ o' = same_binary o o' (sym e ∙ e') in
      let q : x ≡ x' = holds_same h h' in
      let r : y ≡ y' = holds_same l l' in
      rw (p, q, r)

  pub root_same : {w a b : ℕ} {u u' : Term} → Root n g w a b u → Root m g w a b u' → u ≡ u'
  root_same (root_one {o} {x} e k h) (root_one {o = o'} {x = x'} e' k' h') =
      let p : o ≡ o' = same_unary o o' k k' (sym e ∙ e') in
      let q : x ≡ x' = holds_same h h' in
      rw (p, q)
  root_same (root_one {o} e k h) (root_two {o = o'} e' h' h'') = absurd (omega (arith, e, e', unary_low o, binary_range o'))
  root_same (root_two {o = o'} e' h' h'') (root_one {o} e k h) = absurd (omega (arith, e, e', unary_low o, binary_range o'))
  root_same (root_two {o} {x} {y} e h l) (root_two {o = o'} {x = x'} {y = y'} e' h' l') =
      let p : o ≡ o' = same_binary o o' (sym e ∙ e') in
      let q : x ≡ x' = holds_same h h' in
      let r : y ≡ y' = holds_same l l' in
      rw (p, q, r)

-- its actions and sets are words
pub holds-over : {n : ℕ} {g : Graph} {v : ℕ} {u : Term} → Holds n g v u → Over n u
holds-over (leaf h) = h
holds-over (one i j e k h) = (k, holds-over h)
holds-over (two i j e h l) = (holds-over h, holds-over l)

pub root_over : {n : ℕ} {g : Graph} {w a b : ℕ} {u : Term} → Root n g w a b u → Over n u
root_over (root_one e k h) = (k, holds-over h)
root_over (root_two e h l) = (holds-over h, holds-over l)
