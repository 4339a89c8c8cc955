-- Paths by the words: they are the paths of the tree, a word tells the path that ends there, and as many end as are counted.
use Prim.Native.Nat.{ℕ, suc, ◌+◌, ◌≤◌, ◌<◌}
use native.Mathlib.Numerals.{add-one}
use native.Mathlib.Omega.{arith}
use mathlib.Core.Path.{◌≡◌, refl, sym, ap, subst}
use mathlib.Core.Bool.{Bool, true, false}
use mathlib.Core.List.{List, [], ◌∷◌, ◌++◌}
use mathlib.Core.Logic.{◌↔◌}
use lib.Dec.{ltb}
use lib.ListN.{length, get_or}
use borrow.Author.Tests.{ne_eqb, ltb-true, ltb-false}
use Rattle.tables.specs.Tables.{Tables}
use Rattle.plans.specs.declared.Binary.{Binary}
use Rattle.plans.specs.declared.Binary.TheVariants.{Choice, Sequence}
use Rattle.plans.specs.declared.Counts.{Counts}
use Rattle.plans.specs.Term.{Term, act, bin, words}
use Rattle.plans.specs.Basic.{Basic, SumPlan}
use Rattle.plans.specs.Basic as basic_plan
use Rattle.plans.specs.Orders.{one_order, one_stuck, both_of, counts}
use Rattle.trees.specs.Tree.{stop, Rest, finish, further, Has, here}
use Rattle.trees.specs.Operators.{◌⊙◌}
use Rattle.trees.specs.Meaning.{tree}
use Rattle.trees.proofs.Branches.{has_left}
use Rattle.paths.specs.Paths.{Finishes, Sticks}
use Rattle.paths.specs.Subplans.{Target, at_finish, subplan, Transition, ends, goes, Transitions, stay, go, rest_of}
use Rattle.paths.specs.Subplans as subplans
use Rattle.paths.specs.Ends.{PathTo, dead_stop, action, prefix, left, right, EndsAt, HowMany, none_yet, one_more, not_so}
use Rattle.paths.proofs.Standing.{Standing, size-bin, standing_action, standing_first, standing_second}
use Rattle.paths.proofs.Subplans.{BasicTarget, transitions_lead, lead_transitions, lead_finish}

-- a path ends at a word of its plan
pub inside : {s p : ℕ} {u : Term} {ms : List ℕ} {e : Rest} → PathTo s u ms e p → (s ≤ p) × (p < s + length (words u))
unfolding words
inside dead_stop = (omega arith, omega arith)
inside (action h) = (omega arith, omega arith)
inside (prefix {a = a} {y = y} i) = let h = inside i in (omega arith, omega (arith, size-bin Sequence (act a) y))
inside (left {x = x} {y = y} i) = let h = inside i in (omega arith, omega (arith, size-bin Choice x y))
inside (right {x = x} {y = y} i) = let h = inside i in (omega arith, omega (arith, size-bin Choice x y))

-- and one at most ends there: of two that start and end at equal words
same_path : {s r p q : ℕ} {u : Term} {ms ks : List ℕ} {e f : Rest} → s ≡ r → p ≡ q → PathTo s u ms e p → PathTo r u ks f q → (ms ≡ ks) × (e ≡ f)
same_path g h dead_stop dead_stop = (refl, refl)
same_path g h dead_stop (action l) = absurd (omega arith)
same_path g h (action l) dead_stop = absurd (omega arith)
same_path g h (action l) (action m) = (refl, refl)
same_path g h (prefix {a = a} i) (prefix j) = let r = same_path (ap suc g) h i j in (ap (λ (l : List ℕ). a ∷ l) r.0, r.1)
same_path g h (left i) (left j) = same_path g h i j
same_path g h (left i) (right j) = absurd (omega (arith, inside i, inside j))
same_path g h (right i) (left j) = absurd (omega (arith, inside i, inside j))
same_path g h (right {x = x} i) (right j) = same_path (ap (λ (n : ℕ). n + length (words x)) g) h i j

pub one_path : {s p : ℕ} {u : Term} {ms ks : List ℕ} {e f : Rest} → PathTo s u ms e p → PathTo s u ks f p → (ms ≡ ks) × (e ≡ f)
one_path i j = same_path refl refl i j

-- Paths by the words and messages taken one after another.

-- where such a path leads
abbrev target : Rest → ℕ → Target
target finish p = at_finish
target (further x) p = subplan p (act 0)

no_action : {A : Type 0} → SumPlan (act 0) → A
no_action (basic_plan.action h) = absurd (omega arith)

-- a summand takes some message first, and a sum takes it too
over : {s r : ℕ} {x y : Term} {ms : List ℕ} (e : Rest) (p : ℕ) → ((m : ℕ) (g : Target) → Transition m r x g → Transition m s y g) → SumPlan x
    → Transitions (subplan r x) ms (target e p) → Transitions (subplan s y) ms (target e p)
over finish p f b (go i l) = go (f _ _ i) l
over (further z) p f b stay = no_action b
over (further z) p f b (go i l) = go (f _ _ i) l

mutual
  path_transitions : {s p : ℕ} {u : Term} {ms : List ℕ} {e : Rest} → Basic u → PathTo s u ms e p → Transitions (subplan s u) ms (target e p)
  path_transitions basic_plan.dead_stop dead_stop = stay
  path_transitions basic_plan.dead_stop (action h) = absurd (omega arith)
  path_transitions (basic_plan.sum_plan b) i = sum_transitions b i

  sum_transitions : {s p : ℕ} {u : Term} {ms : List ℕ} {e : Rest} → SumPlan u → PathTo s u ms e p → Transitions (subplan s u) ms (target e p)
  sum_transitions (basic_plan.action h) dead_stop = absurd (omega arith)
  sum_transitions (basic_plan.action h) (action i) = go (ends h) stay
  sum_transitions (basic_plan.prefix h b) (prefix i) = go goes (path_transitions b i)
  sum_transitions (basic_plan.sum b c) (left {p = p} {e = e} i) = over e p (λ m g j. subplans.left j) b (sum_transitions b i)
  sum_transitions (basic_plan.sum b c) (right {p = p} {e = e} i) = over e p (λ m g j. subplans.right j) c (sum_transitions c i)

-- the other way round
ends-path : {m s : ℕ} {u : Term} → Transition m s u at_finish → (p : ℕ) × PathTo s u (m ∷ []) finish p
ends-path (ends {s = s} h) = (s, action h)
ends-path (subplans.left i) = let r = ends-path i in (r.0, left r.1)
ends-path (subplans.right i) = let r = ends-path i in (r.0, right r.1)

onto : {m s r p : ℕ} {u v : Term} {ms : List ℕ} {e : Rest} → Transition m s u (subplan r v) → PathTo r v ms e p → PathTo s u (m ∷ ms) e p
onto goes i = prefix i
onto (subplans.left j) i = left (onto j i)
onto (subplans.right j) i = right (onto j i)

finish-path : {s : ℕ} {u : Term} {ms : List ℕ} → Transitions (subplan s u) ms at_finish → (p : ℕ) × PathTo s u ms finish p
finish-path (go {h = at_finish} i stay) = ends-path i
finish-path (go {h = subplan r v} i l) = let r = finish-path l in (r.0, onto i r.1)

stuck_path : {s p : ℕ} {u : Term} {ms : List ℕ} → Transitions (subplan s u) ms (subplan p (act 0)) → PathTo s u ms (further stop) p
stuck_path stay = dead_stop
stuck_path (go {h = at_finish} i l) = elim l [ ]
stuck_path (go {h = subplan r v} i l) = onto i (stuck_path l)

-- a basic plan whose tree has no branch is the dead stop
module _ (t : Tables) where
  branches : {u : Term} → SumPlan u → (a : ℕ) × ((n : Rest) × Has a n (tree t u))
  unfolding tree ◌⊙◌
  branches (basic_plan.action {a = a} h) = (a, (finish, rw (ne_eqb a 0 (λ e. omega arith)) here))
  branches (basic_plan.prefix {a = a} {u = y} h b) = (a, (further (tree t y), rw (ne_eqb a 0 (λ e. omega arith)) here))
  branches (basic_plan.sum {v = y} b c) = let r = branches b in (r.0, (r.1.0, has_left (tree t y) r.1.1))

  no_branch : {a : ℕ} {n : Rest} → Has a n stop → ⊥
  no_branch h = elim h [ ]

  only-stop : {u : Term} → Basic u → tree t u ≡ stop → u ≡ act 0
  only-stop basic_plan.dead_stop e = refl
  only-stop (basic_plan.sum_plan b) e = let r = branches b in absurd (no_branch (rw e at r.1.1))

  -- and so paths by the words are those of the tree
  module _ (u : Term) (b : Basic u) (ms : List ℕ) where
    pub finishing_paths : Finishes (tree t u) ms ↔ ((p : ℕ) × PathTo 0 u ms finish p)
    finishing_paths = (λ l. finish-path (lead_finish t (subplan 0 u) b l), λ r. transitions_lead t b (path_transitions b r.1))

    pub stuck_paths : Sticks (tree t u) ms ↔ ((p : ℕ) × PathTo 0 u ms (further stop) p)
    unfolding tree
    stuck_paths = (to, λ r. transitions_lead t b (path_transitions b r.1))
      where
        at_stop : (h : Target) → Transitions (subplan 0 u) ms h → further stop ≡ rest_of t h → BasicTarget h → (p : ℕ) × PathTo 0 u ms (further stop) p
        at_stop at_finish l e i = let q : ◌≡◌ {A = ℕ} 0 1 = cc in absurd (omega arith)
        at_stop (subplan p w) l e i = let q : stop ≡ tree t w = cc in (p, stuck_path (rw (only-stop i (sym q)) at l))

        to : Sticks (tree t u) ms → (p : ℕ) × PathTo 0 u ms (further stop) p
        to l = let r = lead_transitions t (subplan 0 u) b l in at_stop r.0 r.1 r.2 r.3

-- How many paths end.

module _ {P : ℕ → Type 0} where
  many_as : {m n k l : ℕ} → m ≡ n → k ≡ l → HowMany P m k → HowMany P n l
  many_as e q h = rw (← e, ← q) h

  -- where none is counted, P holds at no place; where it holds at none, none is counted
  pub many_none : {m : ℕ} → HowMany P m 0 → (p : ℕ) → p < m → P p → ⊥
  many_none none_yet p l q = omega arith
  many_none (not_so {m = m} h j) p l q = by (ltb p m) refl (λ o. many_none h p o q)
    where
      by : (b : Bool) → ltb p m ≡ b → (p < m → ⊥) → ⊥
      by true e f = f (ltb-true p m e)
      by false e f = let o = ltb-false p m e in let r : p ≡ m = omega arith in j (subst P r q)

  pub none_many : {m k : ℕ} → HowMany P m k → ((p : ℕ) → p < m → P p → ⊥) → k ≡ 0
  none_many none_yet f = refl
  none_many (one_more {m = m} h j) f = absurd (f m (omega arith) j)
  none_many (not_so h j) f = none_many h (λ p l. f p (omega arith))

-- paths with the ending e
module _ (e : Rest) where
  abbrev Ending : ℕ → Term → ℕ → Type 0
  Ending s u p = (ms : List ℕ) × PathTo s u ms e p

  product_inside : {s a p : ℕ} {y : Term} → Ending s (bin Sequence (act a) y) p → Ending (suc s) y p
  product_inside (ms, prefix {ms = ks} i) = (ks, i)

  product-over : {s p : ℕ} (a : ℕ) {y : Term} → Ending (suc s) y p → Ending s (bin Sequence (act a) y) p
  product-over a (ms, i) = (a ∷ ms, prefix i)

  left-inside : {s p : ℕ} {x y : Term} → p < s + length (words x) → Ending s (bin Choice x y) p → Ending s x p
  left-inside h (ms, left i) = (ms, i)
  left-inside h (ms, right i) = absurd (omega (arith, inside i))

  right-inside : {s p : ℕ} {x y : Term} → s + length (words x) ≤ p → Ending s (bin Choice x y) p → Ending (s + length (words x)) y p
  right-inside h (ms, left i) = absurd (omega (arith, inside i))
  right-inside h (ms, right i) = (ms, i)

  -- no path ends at the sign of a sum or of a product
  no_sign : {s p : ℕ} {o : Binary} {x y : Term} → p ≡ s + (length (words x) + length (words y)) → Ending s (bin o x y) p → ⊥
  unfolding words
  no_sign h (ms, prefix i) = omega (arith, inside i)
  no_sign h (ms, left i) = omega (arith, inside i)
  no_sign h (ms, right i) = omega (arith, inside i)

  module _ (P : ℕ → Type 0) where
    -- at the words of the subplan u, which starts at word s, P says exactly where such paths end
    abbrev SaysEnds : ℕ → Term → Type 0
    SaysEnds s u = (p : ℕ) → s ≤ p → p < s + length (words u) → P p ↔ Ending s u p

    -- f is one of the two counts: a sum adds, and at_stop and at_action are what a word counts by itself
    module _ (f : Counts → ℕ) (adds : (x y : Counts) → f (both_of x y) ≡ f x + f y)
        (at_stop : (m k : ℕ) → HowMany P m k → (P m ↔ Ending m (act 0) m) → HowMany P (suc m) (k + f one_stuck))
        (at_action : (m k a : ℕ) → 0 < a → HowMany P m k → (P m ↔ Ending m (act a) m) → HowMany P (suc m) (k + f one_order)) where
      mutual
        unfolding words counts

        ends-counted : {u : Term} {s k : ℕ} → Basic u → HowMany P s k → SaysEnds s u → HowMany P (s + length (words u)) (k + f (counts u))
        ends-counted {s = s} {k = k} basic_plan.dead_stop h g = many_as (omega arith) refl (at_stop s k h (g s (omega arith) (omega arith)))
        ends-counted (basic_plan.sum_plan b) h g = sum-counted b h g

        sum-counted : {u : Term} {s k : ℕ} → SumPlan u → HowMany P s k → SaysEnds s u → HowMany P (s + length (words u)) (k + f (counts u))
        sum-counted {s = s} {k = k} (basic_plan.action {a = a} l) h g = many_as (omega arith) (rw (ne_eqb a 0 (λ e. omega arith)) refl) (at_action s k a l h (g s (omega arith) (omega arith)))
        sum-counted {s = s} (basic_plan.prefix {a = a} {u = y} l b) h g =
            let z = size-bin Sequence (act a) y in
            let first = not_so h (λ q. omega (arith, inside (product_inside ((g s (omega arith) (omega arith)).0 q)).1)) in
            let rest = ends-counted b first (λ p i j. let r = g p (omega arith) (omega arith) in (λ q. product_inside (r.0 q), λ q. r.1 (product-over a q))) in
            many_as (omega arith) refl (not_so rest (λ q. no_sign (omega arith) ((g (suc s + length (words y)) (omega arith) (omega arith)).0 q)))
        sum-counted {s = s} (basic_plan.sum {u = x} {v = y} b c) h g =
            let z = size-bin Choice x y in
            let first = sum-counted b h (λ p i j. let r = g p (omega arith) (omega arith) in (λ q. left-inside j (r.0 q), λ q. r.1 (q.0, left q.1))) in
            let rest = sum-counted c first (λ p i j. let r = g p (omega arith) (omega arith) in (λ q. right-inside i (r.0 q), λ q. r.1 (q.0, right q.1))) in
            many_as (omega arith) (omega (arith, adds (counts x) (counts y)))
            (not_so rest (λ q. no_sign (omega arith) ((g (s + length (words x) + length (words y)) (omega arith) (omega arith)).0 q)))

-- orders and stuck paths
no_finish : {s p : ℕ} → Ending finish s (act 0) p → ⊥
no_finish (ms, action h) = omega arith

no_stop : {s p a : ℕ} → 0 < a → Ending (further stop) s (act a) p → ⊥
no_stop h (ms, dead_stop) = omega arith

module _ (u : Term) (b : Basic u) where
  pub orders_counted : HowMany (EndsAt finish u) (length (words u)) (counts u).orders
  orders_counted =
      many_as (omega arith) (omega arith)
      (ends-counted finish (EndsAt finish u) (λ c. c.orders) (λ x y. refl)
      (λ m k h g. many_as refl (omega arith) (not_so h (λ q. no_finish (g.0 q))))
      (λ m k a l h g. many_as refl (omega arith) (one_more h (g.1 (a ∷ [], action l))))
      b none_yet (λ p i j. (λ q. q, λ q. q)))

  pub stuck_counted : HowMany (EndsAt (further stop) u) (length (words u)) (counts u).stuck
  stuck_counted =
      many_as (omega arith) (omega arith)
      (ends-counted (further stop) (EndsAt (further stop) u) (λ c. c.stuck) (λ x y. refl)
      (λ m k h g. many_as refl (omega arith) (one_more h (g.1 ([], dead_stop))))
      (λ m k a l h g. many_as refl (omega arith) (not_so h (λ q. no_stop l (g.0 q))))
      b none_yet (λ p i j. (λ q. q, λ q. q)))

-- the word where a path ends: its last action, or 0
abbrev Told : List ℕ → Rest → ℕ → Type 0
Told ms finish w = (ks : List ℕ) × (ms ≡ ks ++ (w ∷ []))
Told ms (further t) w = w ≡ 0

one-before : (a : ℕ) (ms : List ℕ) (e : Rest) (w : ℕ) → Told ms e w → Told (a ∷ ms) e w
one-before a ms finish w (ks, q) = (a ∷ ks, ap (λ (l : List ℕ). a ∷ l) q)
one-before a ms (further t) w q = q

module _ {n : ℕ} (few : n ≤ 31) {plan : List ℕ} where
  pub path_told : {s p : ℕ} {u : Term} {ms : List ℕ} {e : Rest} → PathTo s u ms e p → Standing n plan s u → Told ms e (get_or plan p 0)
  unfolding words
  path_told dead_stop k = standing_action few k
  path_told (action {a = a} h) k = ([], ap (λ w. w ∷ []) (sym (standing_action few k)))
  path_told (prefix {s = s} {a = a} {p = p} {ms = ms} {e = e} i) k = one-before a ms e (get_or plan p 0) (path_told i (rw (← add-one s) (standing_second few k)))
  path_told (left i) k = path_told i (standing_first few k)
  path_told (right i) k = path_told i (standing_second few k)
