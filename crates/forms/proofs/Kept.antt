-- What a plan and its form have in common: the form of a basic plan is basic, the trees are alike, and no form is longer than its plan.
use Prim.Native.Nat.{ℕ, suc, ◌+◌, ◌≤◌}
use native.Mathlib.Omega.{arith}
use mathlib.Core.Path.{◌≡◌, refl, sym, ap, ◌∙◌}
use mathlib.Core.List.{List, [], ◌∷◌, ◌++◌}
use lib.ListN.{length, length-append}
use Rattle.tables.specs.Tables.{Tables}
use Rattle.plans.specs.declared.Binary.TheVariants.{Choice, Sequence, Merge, LeftMerge, CommunicationMerge, Unless}
use Rattle.plans.specs.Word.{binary_word}
use Rattle.plans.specs.Term.{Term, act, un, bin, words, Over}
use Rattle.plans.specs.Basic.{Basic, dead_stop, sum_plan, SumPlan, action, prefix, sum}
use Rattle.plans.proofs.Reading.{words_injective}
use Rattle.plans.proofs.Accepted.{words_some}
use Rattle.trees.specs.Tree.{Tree, stop, Alike}
use Rattle.trees.specs.Operators.{◌⊕◌}
use Rattle.trees.specs.Meaning.{tree}
use Rattle.trees.proofs.Operators.{choice_stop, choice_assoc}
use Rattle.trees.proofs.Equations.{choice_comm, choice_same}
use Rattle.trees.proofs.Alike.{alike_refl, alike_sym, alike_trans, alike-path, choice_cong, sequence_cong}
use Rattle.forms.specs.Form.{insert, in_order, group_on, group, summands, form}
use Rattle.forms.proofs.Sorted.{Inserted, goes_before, goes_on, is_there, inserted}

-- P holds of each summand
abbrev pub Each : (Term → Type 0) → List Term → Type 0
Each P [] = Unit {0}
Each P (s ∷ ss) = P s × Each P ss

module _ (P : Term → Type 0) where
  pub each_append : (k l : List Term) → Each P k → Each P l → Each P (k ++ l)
  each_append [] l h i = i
  each_append (s ∷ k) l h i = (h.0, each_append k l h.1 i)

  each-insert : (s : Term) (l : List Term) → P s → Each P l → Each P (insert s l)
  unfolding insert
  each-insert s [] p h = (p, tt)
  each-insert s (r ∷ rs) p h = go (inserted s r rs) (each-insert s rs p h.1)
    where
      go : {l : List Term} → Inserted s r rs l → Each P (insert s rs) → Each P l
      go (goes_before e) i = (p, h)
      go (goes_on e) i = (h.0, i)
      go (is_there e) i = h

  pub each-in_order : (l : List Term) → Each P l → Each P (in_order l)
  unfolding in_order
  each-in_order [] h = tt
  each-in_order (s ∷ l) h = each-insert s (in_order l) h.0 (each-in_order l h.1)

-- the form has the plan's actions and sets, at most n
module _ (n : ℕ) where
  group_on-over : (x : Term) (l : List Term) → Over n x → Each (Over n) l → Over n (group_on x l)
  unfolding group_on
  group_on-over x [] h i = h
  group_on-over x (s ∷ l) h i = group_on-over (bin Choice x s) l (h, i.0) i.1

  group-over : (l : List Term) → Each (Over n) l → Over n (group l)
  unfolding group
  group-over [] h = omega arith
  group-over (s ∷ l) h = group_on-over s l h.0 h.1

  summands-over : (u : Term) → Over n u → Each (Over n) (summands u)
  unfolding summands
  summands-over (act a) h = (h, tt)
  summands-over (un o u) h = (h, tt)
  summands-over (bin Choice u v) h = each_append (Over n) (summands u) (summands v) (summands-over u h.0) (summands-over v h.1)
  summands-over (bin Sequence u v) h = ((h.0, group-over (in_order (summands v)) (each-in_order (Over n) (summands v) (summands-over v h.1))), tt)
  summands-over (bin Merge u v) h = (h, tt)
  summands-over (bin LeftMerge u v) h = (h, tt)
  summands-over (bin CommunicationMerge u v) h = (h, tt)
  summands-over (bin Unless u v) h = (h, tt)

  in_order-over : (u : Term) → Over n u → Each (Over n) (in_order (summands u))
  in_order-over u h = each-in_order (Over n) (summands u) (summands-over u h)

  pub form-over : (u : Term) → Over n u → Over n (form u)
  unfolding form
  form-over u h = group-over (in_order (summands u)) (in_order-over u h)

-- the form of a basic plan is basic
group_on-plan : (x : Term) (l : List Term) → SumPlan x → Each SumPlan l → SumPlan (group_on x l)
unfolding group_on
group_on-plan x [] h i = h
group_on-plan x (s ∷ l) h i = group_on-plan (bin Choice x s) l (sum h i.0) i.1

group-basic : (l : List Term) → Each SumPlan l → Basic (group l)
unfolding group
group-basic [] h = dead_stop
group-basic (s ∷ l) h = sum_plan (group_on-plan s l h.0 h.1)

mutual
  unfolding summands form

  summands_plans : {u : Term} → SumPlan u → Each SumPlan (summands u)
  summands_plans (action h) = (action h, tt)
  summands_plans (prefix h b) = (prefix h (form-basic b), tt)
  summands_plans (sum {u = u} {v = v} p q) = each_append SumPlan (summands u) (summands v) (summands_plans p) (summands_plans q)

  pub form-basic : {u : Term} → Basic u → Basic (form u)
  form-basic dead_stop = dead_stop
  form-basic (sum_plan {u = u} p) = group-basic (in_order (summands u)) (each-in_order SumPlan (summands u) (summands_plans p))

-- the trees are alike: the summands' branches are only put in another order (A1, A2), and equal ones are left out (A3)
module _ (t : Tables) where
  abbrev sum-tree : List Term → Tree
  sum-tree [] = stop
  sum-tree (s ∷ l) = tree t s ⊕ sum-tree l

  group_on-tree : (x : Term) (l : List Term) → tree t (group_on x l) ≡ tree t x ⊕ sum-tree l
  unfolding group_on tree
  group_on-tree x [] = sym (choice_stop (tree t x))
  group_on-tree x (s ∷ l) = group_on-tree (bin Choice x s) l ∙ choice_assoc (tree t x) (tree t s) (sum-tree l)

  group-tree : (l : List Term) → tree t (group l) ≡ sum-tree l
  unfolding group tree
  group-tree [] = refl
  group-tree (s ∷ l) = group_on-tree s l

  append-tree : (k l : List Term) → sum-tree (k ++ l) ≡ sum-tree k ⊕ sum-tree l
  unfolding ◌⊕◌
  append-tree [] l = refl
  append-tree (s ∷ k) l = ap (λ x. tree t s ⊕ x) (append-tree k l) ∙ sym (choice_assoc (tree t s) (sum-tree k) (sum-tree l))

  swap : (x y z : Tree) → Alike (x ⊕ (y ⊕ z)) (y ⊕ (x ⊕ z))
  swap x y z =
      alike_trans (alike-path (sym (choice_assoc x y z)))
      (alike_trans (choice_cong _ _ _ _ (choice_comm x y) (alike_refl z)) (alike-path (choice_assoc y x z)))

  again : (x z : Tree) → Alike (x ⊕ z) (x ⊕ (x ⊕ z))
  again x z = alike_sym (alike_trans (alike-path (sym (choice_assoc x x z))) (choice_cong _ _ _ _ (choice_same x) (alike_refl z)))

  module _ (n : ℕ) (few : n ≤ 31) where
    insert-tree : (s : Term) (l : List Term) → Over n s → Each (Over n) l → Alike (sum-tree (insert s l)) (tree t s ⊕ sum-tree l)
    unfolding insert
    insert-tree s [] h i = alike_refl _
    insert-tree s (r ∷ rs) h i = go (inserted s r rs) (insert-tree s rs h i.1)
      where
        go : {l : List Term} → Inserted s r rs l → Alike (sum-tree (insert s rs)) (tree t s ⊕ sum-tree rs) → Alike (sum-tree l) (tree t s ⊕ (tree t r ⊕ sum-tree rs))
        go (goes_before e) p = alike_refl _
        go (goes_on e) p = alike_trans (choice_cong _ _ _ _ (alike_refl (tree t r)) p) (swap (tree t r) (tree t s) (sum-tree rs))
        go (is_there e) p = rw (words_injective n few s r h i.0 e) (again (tree t r) (sum-tree rs))

    pub in_order-tree : (l : List Term) → Each (Over n) l → Alike (sum-tree (in_order l)) (sum-tree l)
    unfolding in_order
    in_order-tree [] h = alike_refl stop
    in_order-tree (s ∷ l) h =
        alike_trans (insert-tree s (in_order l) h.0 (each-in_order (Over n) l h.1)) (choice_cong _ _ _ _ (alike_refl (tree t s)) (in_order-tree l h.1))

    pub summands-tree : (u : Term) → Over n u → Alike (sum-tree (summands u)) (tree t u)
    unfolding summands tree
    summands-tree (act a) h = alike-path (choice_stop _)
    summands-tree (un o u) h = alike-path (choice_stop _)
    summands-tree (bin Choice u v) h = alike_trans (alike-path (append-tree (summands u) (summands v))) (choice_cong _ _ _ _ (summands-tree u h.0) (summands-tree v h.1))
    summands-tree (bin Sequence u v) h =
        alike_trans (alike-path (choice_stop _))
        (sequence_cong _ _ _ _ (alike_refl (tree t u))
        (alike_trans (alike-path (group-tree (in_order (summands v)))) (alike_trans (in_order-tree (summands v) (summands-over n v h.1)) (summands-tree v h.1))))
    summands-tree (bin Merge u v) h = alike-path (choice_stop _)
    summands-tree (bin LeftMerge u v) h = alike-path (choice_stop _)
    summands-tree (bin CommunicationMerge u v) h = alike-path (choice_stop _)
    summands-tree (bin Unless u v) h = alike-path (choice_stop _)

    pub form-tree : (u : Term) → Over n u → Alike (tree t (form u)) (tree t u)
    unfolding form
    form-tree u h =
        alike_trans (alike-path (group-tree (in_order (summands u)))) (alike_trans (in_order-tree (summands u) (summands-over n u h)) (summands-tree u h))

-- no form is longer than its plan: a summand counts its words and one sign
weight : List Term → ℕ
weight [] = 0
weight (s ∷ l) = suc (length (words s)) + weight l

weight_append : (k l : List Term) → weight (k ++ l) ≡ weight k + weight l
unfolding weight
weight_append [] l = omega arith
weight_append (s ∷ k) l = let e = weight_append k l in omega arith

weight_insert : (s : Term) (l : List Term) → weight (insert s l) ≤ suc (length (words s)) + weight l
unfolding weight insert
weight_insert s [] = omega arith
weight_insert s (r ∷ rs) = go (inserted s r rs) (weight_insert s rs)
  where
    go : {l : List Term} → Inserted s r rs l → weight (insert s rs) ≤ suc (length (words s)) + weight rs → weight l ≤ suc (length (words s)) + (suc (length (words r)) + weight rs)
    go (goes_before e) i = omega arith
    go (goes_on e) i = omega arith
    go (is_there e) i = omega arith

weight_in_order : (l : List Term) → weight (in_order l) ≤ weight l
unfolding weight in_order
weight_in_order [] = omega arith
weight_in_order (s ∷ l) = let i = weight_in_order l in let j = weight_insert s (in_order l) in omega arith

length-bin : (u v : Term) → length (words (bin Choice u v)) ≡ suc (length (words u) + length (words v))
unfolding words
length-bin u v =
    let e = length-append (words u) (words v ++ (binary_word Choice ∷ [])) in let d = length-append (words v) (binary_word Choice ∷ []) in omega arith

length-product : (u v : Term) → length (words (bin Sequence u v)) ≡ suc (length (words u) + length (words v))
unfolding words
length-product u v =
    let e = length-append (words u) (words v ++ (binary_word Sequence ∷ [])) in let d = length-append (words v) (binary_word Sequence ∷ []) in omega arith

group_on-length : (x : Term) (l : List Term) → length (words (group_on x l)) ≡ length (words x) + weight l
unfolding group_on weight
group_on-length x [] = omega arith
group_on-length x (s ∷ l) = let e = group_on-length (bin Choice x s) l in let d = length-bin x s in omega arith

-- where there is a summand; dead stop alone has one word
group-length : (l : List Term) (k : ℕ) → weight l ≤ suc k → 1 ≤ k → length (words (group l)) ≤ k
unfolding group weight words
group-length [] k h i = i
group-length (s ∷ l) k h i = let e = group_on-length s l in omega arith

summands_weight : (u : Term) → weight (summands u) ≤ suc (length (words u))
unfolding summands weight
summands_weight (act a) = omega arith
summands_weight (un o u) = omega arith
summands_weight (bin Choice u v) =
    let e = weight_append (summands u) (summands v) in
    let i = summands_weight u in let j = summands_weight v in let d = length-bin u v in omega arith
summands_weight (bin Sequence u v) =
    let i = weight_in_order (summands v) in
    let j = summands_weight v in
    let g = group-length (in_order (summands v)) (length (words v)) (omega arith) (words_some v) in
    let d = length-product u v in let e = length-product u (group (in_order (summands v))) in omega arith
summands_weight (bin Merge u v) = omega arith
summands_weight (bin LeftMerge u v) = omega arith
summands_weight (bin CommunicationMerge u v) = omega arith
summands_weight (bin Unless u v) = omega arith

pub form-length : (u : Term) → length (words (form u)) ≤ length (words u)
unfolding form
form-length u =
    let i = weight_in_order (summands u) in
    let j = summands_weight u in
    group-length (in_order (summands u)) (length (words u)) (omega arith) (words_some u)
