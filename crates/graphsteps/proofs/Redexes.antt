-- A sign with its operands on the stack: the term at its place, and how many words it has.
use Prim.Native.Nat.{ℕ, ◌-◌, ◌≤◌}
use native.Mathlib.Omega.{arith}
use mathlib.Core.Path.{◌≡◌, refl, sym, ◌∙◌, ap, subst}
use mathlib.Core.Bool.{Bool, true, false}
use mathlib.Core.List.{List, [], ◌∷◌, ◌++◌, append_assoc}
use lib.ListN.{length, get_or, length-append}
use Rattle.plans.specs.declared.Unary.{Unary}
use Rattle.plans.specs.declared.Binary.{Binary}
use Rattle.plans.specs.Word.{unary_word, binary_word, takes_two?}
use Rattle.plans.specs.Term.{Term, un, bin, words, SetNumber}
use Rattle.plans.specs.Stack.{spell, stacked}
use Rattle.plans.proofs.Words.{binary_range, unary_low, two_unary, two_binary}
use Rattle.plans.proofs.Stack.{stacked-length, stacked-top}
use Rattle.graph.specs.Graph.{Graph, Holds, Root, root_one, root_two, Held, held_more}
use Rattle.graph.proofs.Reading.{held-long, sized-holds}
use Rattle.rewritings.proofs.Quiet.{sign-one, sign-two}
use Rattle.graphsteps.specs.declared.Operands.{Operands}
use Rattle.graphsteps.specs.Holding.{Signed, signed_one, signed_two, TakenFor, takes_one, takes_two, size_under}
use Rattle.graphsteps.proofs.Entries.{SignAt, sign_of-one, sign_of-two}

-- how many operands a sign takes
pub not_two : {w : ℕ} (o : Unary) → w ≡ unary_word o → SetNumber o → takes_two? w ≡ false
not_two o e k = rw e (two_unary o k)

pub is_two : {w : ℕ} (o : Binary) → w ≡ binary_word o → takes_two? w ≡ true
is_two o e = rw e (two_binary o)

pub true_false : {b : Bool} → b ≡ true → b ≡ false → ⊥
true_false p q = let e : ◌≡◌ {A = Bool} true false = sym p ∙ q in let z : ◌≡◌ {A = ℕ} 0 1 = cc in omega arith

-- as many entries as terms
pub stack_long : {n : ℕ} {g : Graph} (stack : List ℕ) (height : ℕ) {terms : List Term} → Held n g (stacked stack height) terms
    → (height ≡ length terms) × (height ≤ length (spell terms))
stack_long stack height h =
    (omega (arith, stacked-length stack height, (held-long h).1), omega (arith, stacked-length stack height, (held-long h).0))

-- the operands are on the stack
pub signed : {n : ℕ} {g : Graph} (stack : List ℕ) (height : ℕ) {v : ℕ} {terms : List Term} → Held n g (stacked stack height) terms → height ≤ length stack
    → SignAt v terms → Signed stack height v
signed stack height h l (sign_of-one o x S e k) = signed_one o e k (omega (arith, (stack_long stack height h).0)) l
signed stack height h l (sign_of-two o x y S e) = signed_two o e (omega (arith, (stack_long stack height h).0)) l

-- The term u at a sign v, with the terms S under it.
pub record Redex (n : ℕ) (g : Graph) (v : ℕ) (stack : List ℕ) (terms : List Term) (r : Operands) : Type 0 where
  pub term : Term
  pub under : List Term
  pub more : List ℕ
  pub root : Root n g v r.a r.b term
  pub held : Held n g (stacked stack r.under) under
  pub reads : spell terms ++ (v ∷ []) ≡ spell (term ∷ under)
  pub splits : spell terms ≡ spell under ++ more

module _ {n : ℕ} {g : Graph} where
  apart : {v : ℕ} {vs : List ℕ} {u : Term} {us : List Term} → Held n g (v ∷ vs) (u ∷ us) → Holds n g v u × Held n g vs us
  apart (held_more h k) = (h, k)

  module _ (stack : List ℕ) (height : ℕ) (r : Operands) where
    redex-one : {v : ℕ} (o : Unary) (x : Term) (S : List Term) → v ≡ unary_word o → SetNumber o → Held n g (stacked stack height) (x ∷ S)
        → stacked stack height ≡ r.a ∷ stacked stack r.under → Redex n g v stack (x ∷ S) r
    unfolding spell
    redex-one o x S e k h q =
        let b = apart (subst (λ (vs : List ℕ). Held n g vs (x ∷ S)) q h) in
        record {
          term = un o x;
          under = S;
          more = words x;
          root = root_one e k b.0;
          held = b.1;
          reads = ap (λ (w : ℕ). spell (x ∷ S) ++ (w ∷ [])) e ∙ sign-one o x S;
          splits = refl;
        }

    redex-two : {v : ℕ} (o : Binary) (x y : Term) (S : List Term) → v ≡ binary_word o → Held n g (stacked stack height) (y ∷ (x ∷ S))
        → stacked stack height ≡ r.b ∷ (r.a ∷ stacked stack r.under) → Redex n g v stack (y ∷ (x ∷ S)) r
    unfolding spell
    redex-two o x y S e h q =
        let b = apart (subst (λ (vs : List ℕ). Held n g vs (y ∷ (x ∷ S))) q h) in
        let d = apart b.1 in
        record {
          term = bin o x y;
          under = S;
          more = words x ++ words y;
          root = root_two e d.0 b.0;
          held = d.1;
          reads = ap (λ (w : ℕ). spell (y ∷ (x ∷ S)) ++ (w ∷ [])) e ∙ sign-two o x y S;
          splits = append_assoc (spell S) (words x) (words y);
        }

    -- by the sign, and by what was taken for it: these agree
    pub redex : {v : ℕ} {terms : List Term} → SignAt v terms → TakenFor v stack height r → Held n g (stacked stack height) terms → Redex n g v stack terms r
    redex (sign_of-one o x S e k) (takes_one o' e' q) h = redex-one o x S e k h q
    redex (sign_of-one o x S e k) (takes_two o' e' q) h = absurd (omega (arith, e, e', unary_low o, binary_range o'))
    redex (sign_of-two o x y S e) (takes_one o' e' q) h = absurd (omega (arith, e, e', unary_low o', binary_range o))
    redex (sign_of-two o x y S e) (takes_two o' e' q) h = redex-two o x y S e h q

-- its size
module _ {n : ℕ} (few : n ≤ 31) {g : Graph} (sizes : List ℕ) (right : (v : ℕ) (u : Term) → 256 ≤ v → Holds n g v u → get_or sizes v 0 ≡ length (words u)) where
  pub redex-long : (v : ℕ) (r : Operands) {u : Term} → Root n g v r.a r.b u → size_under sizes v r ≡ length (words u)
  unfolding size_under words
  redex-long v r (root_one {o} {x} e k h) =
      rw (not_two o e k) (omega (arith, sized-holds sizes right h few, length-append (words x) (unary_word o ∷ [])))
  redex-long v r (root_two {o} {x} {y} e h l) =
      rw (is_two o e)
      (omega (
        arith,
        sized-holds sizes right h few,
        sized-holds sizes right l few,
        length-append (words x) (words y ++ (binary_word o ∷ [])),
        length-append (words y) (binary_word o ∷ []),
      ))

-- what is on the stack for a sign, and what is taken for it
module _ (stack : List ℕ) (height w : ℕ) (s : Signed stack height w) where
  pub signed_some : (1 ≤ height) × (height ≤ length stack)
  signed_some = go s
    where
      go : Signed stack height w → (1 ≤ height) × (height ≤ length stack)
      go (signed_one o e k l h) = (l, h)
      go (signed_two o e l h) = (omega arith, h)

  pub signed_both : takes_two? w ≡ true → 2 ≤ height
  signed_both b = go s
    where
      go : Signed stack height w → 2 ≤ height
      go (signed_one o e k l h) = absurd (true_false b (not_two o e k))
      go (signed_two o e l h) = l

  pub taken-two : takes_two? w ≡ true → TakenFor w stack height (record { a = get_or stack (height - 2) 0; b = get_or stack (height - 1) 0; under = height - 2 })
  taken-two b = go s
    where
      go : Signed stack height w → TakenFor w stack height (record { a = get_or stack (height - 2) 0; b = get_or stack (height - 1) 0; under = height - 2 })
      go (signed_one o e k l h) = absurd (true_false b (not_two o e k))
      go (signed_two o e l h) =
          let q : height - 1 - 1 ≡ height - 2 = omega arith in
          takes_two o e (stacked-top stack height (omega arith) ∙ ap (λ (r : List ℕ). get_or stack (height - 1) 0 ∷ r) (stacked-top stack (height - 1) (omega arith) ∙ rw q))

  pub taken-one : takes_two? w ≡ false → TakenFor w stack height (record { a = get_or stack (height - 1) 0; b = get_or stack (height - 1) 0; under = height - 1 })
  taken-one b = go s
    where
      go : Signed stack height w → TakenFor w stack height (record { a = get_or stack (height - 1) 0; b = get_or stack (height - 1) 0; under = height - 1 })
      go (signed_one o e k l h) = takes_one o e (stacked-top stack height (omega arith))
      go (signed_two o e l h) = absurd (true_false (is_two o e) b)
