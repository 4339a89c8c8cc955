-- The law that what the operands are tell is the lowest of laws 5 to 32 that fits, and its letters stand for what they are bound to.
use Rattle.std.specs.Prelude.{Some, None, IfSome, Option as Maybe}
use Prim.Native.Nat.{ℕ, ◌+◌, ◌≤◌}
use mathlib.Core.Path.{◌≡◌, refl, ◌∙◌}
use Rattle.tables.specs.Tables.{Tables, actions}
use Rattle.tables.specs.Lawful.{Lawful}
use Rattle.plans.specs.declared.Binary.{Binary}
use Rattle.plans.specs.declared.Binary.TheVariants.{Choice, Sequence, Merge, LeftMerge, CommunicationMerge, Unless}
use Rattle.plans.specs.declared.Unary.{Unary}
use Rattle.plans.specs.declared.Unary.TheVariants.{Priority, Encapsulation}
use Rattle.plans.specs.declared.Word.{Word}
use Rattle.plans.specs.declared.Word.TheVariants.{Action, One, Two, NoWord}
use Rattle.plans.specs.Word.{unary_word, binary_word, word_of}
use Rattle.plans.specs.Term.{Term, un, bin, SetNumber}
use Rattle.plans.proofs.Words.{word_unary, word_binary}
use Rattle.graph.specs.Graph.{Graph, Holds, Root, root_one, root_two}
use Rattle.rewritings.specs.Roots.{first_law}
use Rattle.redexes.specs.declared.Redex.{Redex}
use Rattle.redexes.specs.Slots.{RootTerm, ChosenRoot}
use Rattle.redexes.specs.Redexes.{
  operand_of,
  on_plans,
  choice_redex,
  sequence_redex,
  left_merge_redex,
  communication_redex,
  unless_redex,
  priority_redex,
  encapsulation_redex,
}
use Rattle.redexes.proofs.Operands.{seen}
use Rattle.redexes.proofs.Letters.{Told, told_chosen, told_actions}
use Rattle.redexes.proofs.OneOperand.{choice_told, merge_told, sequence_told, left_merge_told, priority_told, encapsulation_told}
use Rattle.redexes.proofs.TwoOperands.{communication_told, unless_told}
use Rattle.laws.specs.Laws.{first_choice, choices}

-- what the operands a and b tell, by the operator
unfoldable pub redex-under : Tables → Graph → Word → ℕ → ℕ → Maybe Redex
redex-under t g (Action v) a b = None
redex-under t g (One Priority) a b = priority_redex (operand_of g a)
redex-under t g (One (Encapsulation h)) a b = encapsulation_redex t (80 + h) (operand_of g a)
redex-under t g (Two Choice) a b = choice_redex a b
redex-under t g (Two Sequence) a b = sequence_redex b (operand_of g a)
redex-under t g (Two Merge) a b = Some (on_plans 11 a b 0)
redex-under t g (Two LeftMerge) a b = left_merge_redex b (operand_of g a)
redex-under t g (Two CommunicationMerge) a b = communication_redex a b (operand_of g a) (operand_of g b)
redex-under t g (Two Unless) a b = unless_redex t a b (operand_of g a) (operand_of g b)
redex-under t g NoWord a b = None

-- by the operator's word
unfoldable pub redex_of : Tables → Graph → ℕ → ℕ → ℕ → Maybe Redex
redex_of t g w a b = redex-under t g (word_of (actions t) w) a b

module _ (t : Tables) (ok : Lawful t) where
  pub few : actions t ≤ 31
  few = ok.well_formed.few_actions

  -- by the operator at the root
  one_told : (o : Unary) → SetNumber o → {g : Graph} {a : ℕ} (b : ℕ) {x : Term} → Holds (actions t) g a x
      → Told t (actions t) g (redex-under t g (One o) a b) (first_law t first_choice choices (un o x))
  unfolding redex-under
  one_told Priority k b p = priority_told t (seen few p)
  one_told (Encapsulation h) k b p = encapsulation_told t h k (seen few p)

  two_told : (o : Binary) → {g : Graph} {a b : ℕ} {x y : Term} → Holds (actions t) g a x → Holds (actions t) g b y
      → Told t (actions t) g (redex-under t g (Two o) a b) (first_law t first_choice choices (bin o x y))
  unfolding redex-under
  two_told Choice p q = choice_told t p q
  two_told Sequence p q = sequence_told t (seen few p) q
  two_told Merge p q = merge_told t p q
  two_told LeftMerge p q = left_merge_told t few (seen few p) q
  two_told CommunicationMerge p q = communication_told t few p q (seen few p) (seen few q)
  two_told Unless p q = unless_told t p q (seen few p) (seen few q)

  root_told : {g : Graph} {w a b : ℕ} {u : Term} → Root (actions t) g w a b u → Told t (actions t) g (redex_of t g w a b) (first_law t first_choice choices u)
  unfolding redex_of
  root_told {b} (root_one {o} e k p) = rw (e, word_unary (actions t) few o k) (one_told o k b p)
  root_told (root_two {o} e p q) = rw (e, word_binary (actions t) few o) (two_told o p q)

  -- what is told at a root is the law chosen there, and its actions are actions
  module _ {g : Graph} {w a b : ℕ} (x : RootTerm (actions t) g w a b) (r : Maybe Redex) where
    pub redex_chosen : r ≡ redex_of t g w a b → ChosenRoot t (actions t) g w a b r × IfSome r (λ d. (d.a ≤ 31) × (d.b ≤ 31))
    redex_chosen e =
        let l = told_actions t few (root_told x.root) in
        rw e (record { chosen_root = λ u q. told_chosen t few (refl, ok) (root_told q) }, l)

    -- so it is for the word of an operator
    pub one_chosen : (o : Unary) → SetNumber o → w ≡ unary_word o → r ≡ redex-under t g (One o) a b
        → ChosenRoot t (actions t) g w a b r × IfSome r (λ d. (d.a ≤ 31) × (d.b ≤ 31))
    unfolding redex_of
    one_chosen o k e i = redex_chosen (i ∙ rw (e, word_unary (actions t) few o k))

    pub two_chosen : (o : Binary) → w ≡ binary_word o → r ≡ redex-under t g (Two o) a b
        → ChosenRoot t (actions t) g w a b r × IfSome r (λ d. (d.a ≤ 31) × (d.b ≤ 31))
    unfolding redex_of
    two_chosen o e i = redex_chosen (i ∙ rw (e, word_binary (actions t) few o))
