-- The law that fits is told by what both operands are: | ◁. The definitions do not ask in the order of the laws' numbers throughout, which
-- makes no difference: laws that fit the same operands are asked for in that order.
use Rattle.std.specs.Prelude.{Some}
use Prim.Native.Nat.{ℕ, ◌≤◌}
use mathlib.Core.Path.{◌≡◌, refl}
use mathlib.Core.Bool.{Bool, true, false}
use mathlib.Core.Option.{none}
use native.Mathlib.Omega.{arith}
use lib.Dec.{eqb, ltb}
use borrow.Author.Tests.{lt-ltb, le-ltb}
use Rattle.tables.specs.Tables.{Tables, below}
use Rattle.plans.specs.declared.Binary.{Binary}
use Rattle.plans.specs.declared.Binary.TheVariants.{Choice, Sequence, CommunicationMerge, Unless}
use Rattle.plans.specs.declared.Unary.{Unary}
use Rattle.plans.specs.Word.{binary_word}
use Rattle.plans.specs.Term.{Term, act, un, bin}
use Rattle.graph.specs.Graph.{Graph, Holds, leaf, one, two}
use Rattle.laws.specs.Laws.{Pattern, any, any_action, node, Binding, bind, fit, holds, build, rewrite, laws, law_at, first_choice, choices}
use Rattle.rewritings.specs.Roots.{first_law}
use Rattle.redexes.specs.Redexes.{communication_redex, unless_actions, unless_redex}
use Rattle.redexes.specs.declared.root.Operand.{Operand}
use Rattle.redexes.specs.declared.root.Operand.TheVariants.{Action, Sum, Product, Other}
use Rattle.redexes.proofs.Operands.{Seen, seen-action, seen-sum, seen-product, seen_one, seen-two}
use Rattle.redexes.proofs.Letters.{Told, told_none}
use Rattle.redexes.proofs.OneOperand.{stop-held, plans_told, actions_told}

-- a term that neither is a sum nor begins with an action
record NoBeginning (u : Term) : Type 0 where
  no_action : (k : ℕ) (s : Binding) → fit (any_action k) u s ≡ none
  no_sum : (p q : Pattern) (s : Binding) → fit (node Choice p q) u s ≡ none
  no_begin : (k m : ℕ) (s : Binding) → fit (node Sequence (any_action k) (any m)) u s ≡ none

-- an operand of |: an action, a product that begins with one, a sum, a product that does not, or none of these
data Begun (n : ℕ) (g : Graph) : Operand → Term → Type 0 where
  begun_action : {v : ℕ} → v ≤ n → Begun n g (Action v) (act v)
  begun_product : {i j : ℕ} {y : Term} → i ≤ n → ltb i 256 ≡ true → Holds n g j y → Begun n g (Product i j) (bin Sequence (act i) y)
  begun_sum : {i j : ℕ} {x y : Term} → Holds n g i x → Holds n g j y → Begun n g (Sum i j) (bin Choice x y)
  begun_far : {i j : ℕ} {u : Term} → ltb i 256 ≡ false → NoBeginning u → Begun n g (Product i j) u
  begun_not : {u : Term} → NoBeginning u → Begun n g Other u

none_begins-one : (o : Unary) (x : Term) → NoBeginning (un o x)
unfolding fit
none_begins-one o x = record { no_action = λ k s. refl; no_sum = λ p q s. refl; no_begin = λ k m s. refl }

none_begins-two : (o : Binary) (x y : Term) → eqb (binary_word o) 64 ≡ false → eqb (binary_word o) 65 ≡ false → NoBeginning (bin o x y)
unfolding fit binary_word
none_begins-two o x y f d = record { no_action = λ k s. refl; no_sum = λ p q s. rw f; no_begin = λ k m s. rw d }

none_begins-product : (x y : Term) → ((k : ℕ) (s : Binding) → fit (any_action k) x s ≡ none) → NoBeginning (bin Sequence x y)
unfolding fit binary_word
none_begins-product x y other = record { no_action = λ k s. refl; no_sum = λ p q s. refl; no_begin = λ k m s. other k _ }

begun : {n : ℕ} {g : Graph} {v : ℕ} {p : Operand} {u : Term} → n ≤ 31 → Seen n g v p u → Begun n g p u
unfolding fit
begun few (seen-action h) = begun_action h
begun few (seen-sum h l) = begun_sum h l
begun few (seen-product (leaf {a} h) l) = begun_product h (lt-ltb a 256 (omega arith)) l
begun few (seen-product (one {v} h k e c d) l) = begun_far (le-ltb v 256 h) (none_begins-product _ _ (λ k s. refl))
begun few (seen-product (two {v} h k e c d) l) = begun_far (le-ltb v 256 h) (none_begins-product _ _ (λ k s. refl))
begun few seen_one = begun_not (none_begins-one _ _)
begun few (seen-two {o} f d) = begun_not (none_begins-two o _ _ f d)

module _ (t : Tables) {n : ℕ} {g : Graph} where
  -- x | y
  communication_by : {a b : ℕ} {p q : Operand} {x y : Term} → Holds n g a x → Holds n g b y → Begun n g p x → Begun n g q y
      → Told t n g (communication_redex a b p q) (first_law t first_choice choices (bin CommunicationMerge x y))
  unfolding communication_redex first_law rewrite law_at laws fit holds build bind binary_word
  communication_by v w (begun_action h) (begun_action l) = actions_told t 10 (omega arith) h l stop-held stop-held
  communication_by v w (begun_action h) (begun_product l f r) = rw f (actions_told t 16 (omega arith) h l r stop-held)
  communication_by v w (begun_action h) (begun_sum l r) = plans_told t 19 (omega arith) v l r
  communication_by v w (begun_action h) (begun_far f u) = rw (f, u.no_action 4, u.no_begin 4 0, u.no_begin 4 1, u.no_sum (any 1) (any 2)) told_none
  communication_by v w (begun_action h) (begun_not u) = rw (u.no_action 4, u.no_begin 4 0, u.no_begin 4 1, u.no_sum (any 1) (any 2)) told_none
  communication_by v w (begun_product h f r) (begun_action l) = rw f (actions_told t 15 (omega arith) h l r stop-held)
  communication_by v w (begun_product h f r) (begun_product l e c) = rw (f, e) (actions_told t 17 (omega arith) h l r c)
  communication_by v w (begun_product h f r) (begun_sum l c) = plans_told t 19 (omega arith) v l c
  communication_by v w (begun_product h f r) (begun_far e u) = rw (f, e, u.no_action 4, u.no_begin 4 0, u.no_begin 4 1, u.no_sum (any 1) (any 2)) told_none
  communication_by v w (begun_product h f r) (begun_not u) = rw (u.no_action 4, u.no_begin 4 0, u.no_begin 4 1, u.no_sum (any 1) (any 2)) told_none
  communication_by v w (begun_sum h l) (begun_action r) = plans_told t 18 (omega arith) h l w
  communication_by v w (begun_sum h l) (begun_product r f c) = plans_told t 18 (omega arith) h l w
  communication_by v w (begun_sum h l) (begun_sum r c) = plans_told t 18 (omega arith) h l w
  communication_by v w (begun_sum h l) (begun_far f u) = rw (u.no_action 4, u.no_begin 4 0, u.no_begin 4 1) (plans_told t 18 (omega arith) h l w)
  communication_by v w (begun_sum h l) (begun_not u) = rw (u.no_action 4, u.no_begin 4 0, u.no_begin 4 1) (plans_told t 18 (omega arith) h l w)
  communication_by v w (begun_far e u) (begun_action l) = rw (e, u.no_action 3, u.no_begin 3 0, u.no_sum (any 0) (any 1)) told_none
  communication_by v w (begun_far e u) (begun_product l f r) = rw (e, u.no_action 3, u.no_begin 3 0, u.no_sum (any 0) (any 1)) told_none
  communication_by v w (begun_far e u) (begun_sum l r) = rw (u.no_sum (any 0) (any 1)) (plans_told t 19 (omega arith) v l r)
  communication_by v w (begun_far e u) (begun_far f d) =
      rw (e, d.no_action 4, d.no_begin 4 0, d.no_begin 4 1, u.no_sum (any 0) (any 1), d.no_sum (any 1) (any 2)) told_none
  communication_by v w (begun_far e u) (begun_not d) =
      rw (d.no_action 4, d.no_begin 4 0, d.no_begin 4 1, u.no_sum (any 0) (any 1), d.no_sum (any 1) (any 2)) told_none
  communication_by v w (begun_not u) (begun_action l) = rw (u.no_action 3, u.no_begin 3 0, u.no_sum (any 0) (any 1)) told_none
  communication_by v w (begun_not u) (begun_product l f r) = rw (u.no_action 3, u.no_begin 3 0, u.no_sum (any 0) (any 1)) told_none
  communication_by v w (begun_not u) (begun_sum l r) = rw (u.no_sum (any 0) (any 1)) (plans_told t 19 (omega arith) v l r)
  communication_by v w (begun_not u) (begun_far f d) =
      rw (d.no_action 4, d.no_begin 4 0, d.no_begin 4 1, u.no_sum (any 0) (any 1), d.no_sum (any 1) (any 2)) told_none
  communication_by v w (begun_not u) (begun_not d) =
      rw (d.no_action 4, d.no_begin 4 0, d.no_begin 4 1, u.no_sum (any 0) (any 1), d.no_sum (any 1) (any 2)) told_none

  pub communication_told : {a b : ℕ} {p q : Operand} {x y : Term} → n ≤ 31 → Holds n g a x → Holds n g b y → Seen n g a p x → Seen n g b q y
      → Told t n g (communication_redex a b p q) (first_law t first_choice choices (bin CommunicationMerge x y))
  communication_told few h l p q = communication_by h l (begun few p) (begun few q)

  -- a ◁ b of two actions, by the order
  below_by : {a b : ℕ} → a ≤ n → b ≤ n → (c : Bool) → below t a b ≡ c → Told t n g (Some (unless_actions t a b)) (first_law t first_choice choices (bin Unless (act a) (act b)))
  unfolding unless_actions first_law rewrite law_at laws fit holds build bind binary_word
  below_by h l true e = rw e (actions_told t 25 (omega arith) h l stop-held stop-held)
  below_by h l false e = rw e (actions_told t 24 (omega arith) h l stop-held stop-held)

  -- x ◁ y
  pub unless_told : {a b : ℕ} {p q : Operand} {x y : Term} → Holds n g a x → Holds n g b y → Seen n g a p x → Seen n g b q y
      → Told t n g (unless_redex t a b p q) (first_law t first_choice choices (bin Unless x y))
  unfolding unless_redex first_law rewrite law_at laws fit holds build bind binary_word
  unless_told v w (seen-action r) (seen-product h l) = plans_told t 26 (omega arith) v h l
  unless_told v w (seen-sum r c) (seen-product h l) = plans_told t 26 (omega arith) v h l
  unless_told v w (seen-product r c) (seen-product h l) = plans_told t 26 (omega arith) v h l
  unless_told v w seen_one (seen-product h l) = plans_told t 26 (omega arith) v h l
  unless_told v w (seen-two f d) (seen-product h l) = plans_told t 26 (omega arith) v h l
  unless_told v w (seen-action r) (seen-sum h l) = plans_told t 27 (omega arith) v h l
  unless_told v w (seen-sum r c) (seen-sum h l) = plans_told t 27 (omega arith) v h l
  unless_told v w (seen-product r c) (seen-sum h l) = plans_told t 27 (omega arith) v h l
  unless_told v w seen_one (seen-sum h l) = plans_told t 27 (omega arith) v h l
  unless_told v w (seen-two f d) (seen-sum h l) = plans_told t 27 (omega arith) v h l
  unless_told v w (seen-product h l) (seen-action r) = plans_told t 28 (omega arith) h l w
  unless_told v w (seen-product h l) seen_one = plans_told t 28 (omega arith) h l w
  unless_told v w (seen-product h l) (seen-two f d) = rw (d, f) (plans_told t 28 (omega arith) h l w)
  unless_told v w (seen-sum h l) (seen-action r) = plans_told t 29 (omega arith) h l w
  unless_told v w (seen-sum h l) seen_one = plans_told t 29 (omega arith) h l w
  unless_told v w (seen-sum h l) (seen-two f d) = rw (d, f) (plans_told t 29 (omega arith) h l w)
  unless_told {a} {b} v w (seen-action h) (seen-action l) = below_by h l (below t a b) refl
  unless_told v w (seen-action h) seen_one = told_none
  unless_told v w (seen-action h) (seen-two f d) = rw (d, f) told_none
  unless_told v w seen_one (seen-action h) = told_none
  unless_told v w seen_one seen_one = told_none
  unless_told v w seen_one (seen-two f d) = rw (d, f) told_none
  unless_told v w (seen-two f d) (seen-action h) = rw (d, f) told_none
  unless_told v w (seen-two f d) seen_one = rw (d, f) told_none
  unless_told v w (seen-two f d) (seen-two f' d') = rw (d', f', d, f) told_none
