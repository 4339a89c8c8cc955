-- A message leads from subplan to subplan of a basic plan exactly as it leads from tree to tree.
use Prim.Native.Nat.{ℕ, suc, ◌+◌, ◌<◌}
use native.Mathlib.Omega.{arith}
use mathlib.Core.Path.{◌≡◌, refl}
use mathlib.Core.List.{List}
use mathlib.Core.Logic.{◌⊎◌, inl, inr}
use lib.ListN.{length}
use borrow.Author.Tests.{ne_eqb}
use Rattle.tables.specs.Tables.{Tables}
use Rattle.plans.specs.declared.Binary.TheVariants.{Choice, Sequence}
use Rattle.plans.specs.Term.{Term, act, bin, words}
use Rattle.plans.specs.Basic.{Basic, dead_stop, sum_plan, SumPlan, action, prefix, sum}
use Rattle.trees.specs.Tree.{Tree, stop, branch, Rest, finish, further, Has, here, past}
use Rattle.trees.specs.Operators.{◌⊕◌, ◌⊙◌, one}
use Rattle.trees.specs.Meaning.{tree}
use Rattle.trees.proofs.Branches.{has_left, has_right}
use Rattle.paths.specs.Paths
use Rattle.paths.specs.Paths.{Leads}
use Rattle.paths.specs.Subplans.{Target, at_finish, subplan, Transition, ends, goes, left, right, Transitions, stay, go, rest_of}

pub has_choice : {a : ℕ} {n : Rest} (x : Tree) {y : Tree} → Has a n (x ⊕ y) → Has a n x ⊎ Has a n y
unfolding ◌⊕◌
has_choice stop h = inr h
has_choice (branch b m r) here = inl here
has_choice (branch b m r) {y} (past h) = step (has_choice r h)
  where
    step : {a : ℕ} {n : Rest} → Has a n r ⊎ Has a n y → Has a n (branch b m r) ⊎ Has a n y
    step (inl h) = inl (past h)
    step (inr h) = inr h

-- targets that are basic
abbrev pub BasicTarget : Target → Type 0
BasicTarget at_finish = Unit
BasicTarget (subplan s u) = Basic u

mutual
  pub transition_basic : {m s : ℕ} {u : Term} {g : Target} → Basic u → Transition m s u g → BasicTarget g
  transition_basic dead_stop (ends h) = tt
  transition_basic (sum_plan p) i = sum_transition_basic p i

  sum_transition_basic : {m s : ℕ} {u : Term} {g : Target} → SumPlan u → Transition m s u g → BasicTarget g
  sum_transition_basic (action l) (ends h) = tt
  sum_transition_basic (prefix l b) goes = b
  sum_transition_basic (sum p q) (left i) = sum_transition_basic p i
  sum_transition_basic (sum p q) (right i) = sum_transition_basic q i

module _ (t : Tables) where
  action-tree : (a : ℕ) → 0 < a → tree t (act a) ≡ one a finish
  unfolding tree
  action-tree a h = rw (ne_eqb a 0 (λ e. omega arith)) refl

  mutual
    unfolding tree ◌⊙◌

    pub transition_has : {m s : ℕ} {u : Term} {g : Target} → Basic u → Transition m s u g → Has m (rest_of t g) (tree t u)
    transition_has dead_stop (ends h) = absurd (omega arith)
    transition_has (sum_plan p) i = sum_transition_has p i

    sum_transition_has : {m s : ℕ} {u : Term} {g : Target} → SumPlan u → Transition m s u g → Has m (rest_of t g) (tree t u)
    sum_transition_has (action {a = a} l) (ends h) = rw (action-tree a l) here
    sum_transition_has (prefix {a = a} l b) goes = rw (ne_eqb a 0 (λ e. omega arith)) here
    sum_transition_has (sum {u = x} {v = y} p q) (left i) = has_left (tree t y) (sum_transition_has p i)
    sum_transition_has (sum {u = x} {v = y} p q) (right i) = has_right (tree t x) (sum_transition_has q i)

  -- a branch of the tree comes from a transition
  abbrev Comes : ℕ → ℕ → Term → Rest → Type 0
  Comes m s u n = (g : Target) × Transition m s u g × (n ≡ rest_of t g) × BasicTarget g

  comes-left : {m s : ℕ} {x y : Term} {n : Rest} → Comes m s x n → Comes m s (bin Choice x y) n
  comes-left (g, i, e, b) = (g, left i, e, b)

  comes-right : {m s : ℕ} {x y : Term} {n : Rest} → Comes m (s + length (words x)) y n → Comes m s (bin Choice x y) n
  comes-right (g, i, e, b) = (g, right i, e, b)

  of_one : {m a s : ℕ} {n : Rest} → 0 < a → Has m n (one a finish) → Comes m s (act a) n
  of_one h here = (at_finish, ends h, refl, tt)
  of_one h (past x) = elim x [ ]

  of_product : {m a s : ℕ} {y : Term} {n : Rest} → Basic y → Has m n (one a (further (tree t y))) → Comes m s (bin Sequence (act a) y) n
  of_product {s = s} {y = y} b here = (subplan (suc s) y, goes, refl, b)
  of_product b (past x) = elim x [ ]

  mutual
    unfolding tree ◌⊙◌

    pub has_transition : {m : ℕ} (s : ℕ) {u : Term} {n : Rest} → Basic u → Has m n (tree t u) → Comes m s u n
    has_transition s dead_stop h = elim h [ ]
    has_transition s (sum_plan p) h = sum-has_transition s p h

    sum-has_transition : {m : ℕ} (s : ℕ) {u : Term} {n : Rest} → SumPlan u → Has m n (tree t u) → Comes m s u n
    sum-has_transition s (action {a = a} l) h = of_one l (rw (ne_eqb a 0 (λ e. omega arith)) at h)
    sum-has_transition s (prefix {a = a} {u = y} l b) h = of_product b (rw (ne_eqb a 0 (λ e. omega arith)) at h)
    sum-has_transition s (sum {u = x} {v = y} p q) h = pick (has_choice (tree t x) h) (λ i. sum-has_transition s p i) (λ i. sum-has_transition (s + length (words x)) q i)
      where
        pick : {m : ℕ} {n : Rest} → Has m n (tree t x) ⊎ Has m n (tree t y) → (Has m n (tree t x) → Comes m s x n)
            → (Has m n (tree t y) → Comes m (s + length (words x)) y n) → Comes m s (bin Choice x y) n
        pick (inl i) f g = comes-left (f i)
        pick (inr i) f g = comes-right (g i)

  -- and so for messages one after another
  pub transitions_lead : {g h : Target} {ms : List ℕ} → BasicTarget g → Transitions g ms h → Leads (rest_of t g) ms (rest_of t h)
  transitions_lead b stay = Paths.stay
  transitions_lead b (go i l) = let j = transition_has b i in Paths.go j (transitions_lead (transition_basic b i) l)

  abbrev pub Arrives : Target → List ℕ → Rest → Type 0
  Arrives g ms n = (h : Target) × Transitions g ms h × (n ≡ rest_of t h) × BasicTarget h

  arrive : {j n : Rest} {ms : List ℕ} → Leads j ms n → (g : Target) → BasicTarget g → j ≡ rest_of t g → Arrives g ms n
  arrive Paths.stay g b e = (g, stay, e, b)
  arrive (Paths.go h l) at_finish b e = let q : ◌≡◌ {A = ℕ} 0 1 = cc in absurd (omega arith)
  arrive (Paths.go {t = x} h l) (subplan s u) b e =
      let q : x ≡ tree t u = cc in
      let c = has_transition s b (rw q at h) in
      let r = arrive l c.0 c.3 c.2 in (r.0, go c.1 r.1, r.2, r.3)

  pub lead_transitions : (g : Target) {ms : List ℕ} {n : Rest} → BasicTarget g → Leads (rest_of t g) ms n → Arrives g ms n
  lead_transitions g b l = arrive l g b refl

  pub lead_finish : (g : Target) {ms : List ℕ} → BasicTarget g → Leads (rest_of t g) ms finish → Transitions g ms at_finish
  lead_finish g {ms} b l = let r = lead_transitions g b l in only r.0 r.1 r.2
    where
      only : (h : Target) → Transitions g ms h → finish ≡ rest_of t h → Transitions g ms at_finish
      only at_finish l e = l
      only (subplan s u) l e = let q : ◌≡◌ {A = ℕ} 0 1 = cc in absurd (omega arith)
