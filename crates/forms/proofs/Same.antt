-- Two basic plans have equal forms exactly when their trees are alike, whatever tables each comes with; the form of a form is itself.
use Prim.Native.Nat.{ℕ, suc, zero, ◌+◌, ◌≤◌, ◌<◌}
use native.Mathlib.Omega.{arith}
use mathlib.Core.Path.{◌≡◌, refl, sym, ap, ap₂, subst, ◌∙◌}
use mathlib.Core.Logic.{◌↔◌, ◌⊎◌, inl, inr}
use mathlib.Core.List.Memᴰ
use mathlib.Core.List.Memᴰ.{head as at_head}
use mathlib.Core.List.Memᴰ.{tail as in_Tail}
use mathlib.Core.List.{List, [], ◌∷◌, ◌++◌, map, append_assoc, append-nil, Memᴰ as In}
use borrow.Author.Tests.{ne_eqb}
use Rattle.tables.specs.Tables.{Tables}
use Rattle.plans.specs.declared.Binary.TheVariants.{Choice, Sequence}
use Rattle.plans.specs.Term.{Term, act, un, bin, words, Over}
use Rattle.plans.specs.Basic.{Basic, dead_stop, sum_plan, SumPlan, action, prefix, sum}
use Rattle.plans.proofs.Reading.{words_injective}
use Rattle.trees.specs.Tree.{Tree, stop, branch, Rest, finish, further, Has, here, past, Alike, alike, Matched, matched, AlikeRest, both_lead}
use Rattle.trees.specs.Operators.{◌⊕◌, ◌⊙◌, one, height, height_rest}
use Rattle.trees.specs.Meaning.{tree}
use Rattle.trees.proofs.Branches.{has_left, has_right}
use Rattle.trees.proofs.Operators.{height-has}
use Rattle.trees.proofs.Alike.{alike_sym, alike_trans, alike-path}
use Rattle.forms.specs.Form.{in_order, group_on, group, summands, form}
use Rattle.forms.specs.Gathering.{join, joined}
use Rattle.forms.proofs.Sorted.{Within, in_order_same}
use Rattle.forms.proofs.Kept.{form-over, form-basic, form-tree}

-- the tree of a basic plan does not depend on the tables
mutual
  unfolding tree

  sum_plan-tree : {u : Term} (t t' : Tables) → SumPlan u → tree t u ≡ tree t' u
  sum_plan-tree t t' (action h) = refl
  sum_plan-tree t t' (prefix {a = a} h b) = ap (λ x. tree t (act a) ⊙ x) (basic-tree t t' b)
  sum_plan-tree t t' (sum p q) = ap₂ ◌⊕◌ (sum_plan-tree t t' p) (sum_plan-tree t t' q)

  pub basic-tree : {u : Term} (t t' : Tables) → Basic u → tree t u ≡ tree t' u
  basic-tree t t' dead_stop = refl
  basic-tree t t' (sum_plan p) = sum_plan-tree t t' p

-- the words of a sum grouped to the left
group_on-words : (x : Term) (l : List Term) → words (group_on x l) ≡ words x ++ joined (map words l)
unfolding group_on joined
group_on-words x [] = sym (append-nil (words x))
group_on-words x (s ∷ l) = group_on-words (bin Choice x s) l ∙ shift
  where
    shift : words (bin Choice x s) ++ joined (map words l) ≡ words x ++ (words s ++ (64 ∷ joined (map words l)))
    shift = unfold words in simp append_assoc

group-words : (l : List Term) → words (group l) ≡ join (map words l)
unfolding group join words
group-words [] = refl
group-words (s ∷ l) = group_on-words s l

pub form-join : (u : Term) → words (form u) ≡ join (map words (in_order (summands u)))
unfolding form
form-join u = group-words (in_order (summands u))

-- which branches an action, an action before a plan, and a choice have
one-action : {a : ℕ} (t : Tables) → 0 < a → tree t (act a) ≡ one a finish
unfolding tree
one-action {a} t h = rw (ne_eqb a 0 (λ e. omega arith)) refl

one-prefix : {a : ℕ} (t : Tables) (x : Term) → 0 < a → tree t (bin Sequence (act a) x) ≡ one a (further (tree t x))
unfolding tree ◌⊙◌
one-prefix {a} t x h = rw (ne_eqb a 0 (λ e. omega arith)) refl

has_choice : {a : ℕ} {m : Rest} (x : Tree) {y : Tree} → Has a m (x ⊕ y) → Has a m x ⊎ Has a m y
unfolding ◌⊕◌
has_choice stop h = inr h
has_choice (branch b n r) here = inl here
has_choice (branch b n r) (past h) = later (has_choice r h)
  where
    later : {a : ℕ} {m : Rest} {y : Tree} → Has a m r ⊎ Has a m y → Has a m (branch b n r) ⊎ Has a m y
    later (inl i) = inl (past i)
    later (inr i) = inr i

has_one : {a b : ℕ} {m k : Rest} (P : ℕ → Rest → Type 0) → P b k → Has a m (one b k) → P a m
has_one P p here = p
has_one P p (past h) = elim h [ ]

module _ (t : Tables) (n : ℕ) where
  -- the summand that stands for a branch
  data Stands : Term → ℕ → Rest → Type 0 where
    ends : {a : ℕ} → Stands (act a) a finish
    goes : {a : ℕ} {x : Term} → Basic x → Over n x → Stands (bin Sequence (act a) (form x)) a (further (tree t x))

  -- each branch of a sum has a summand, and each summand a branch
  record Summand (u : Term) (a : ℕ) (m : Rest) : Type 0 where
    term : Term
    is_in : In term (summands u)
    stands : Stands term a m

  record Branch (u s : Term) : Type 0 where
    first : ℕ
    rest : Rest
    has : Has first rest (tree t u)
    stands : Stands s first rest

  summand_of : {u : Term} (a : ℕ) (m : Rest) → SumPlan u → Over n u → Has a m (tree t u) → Summand u a m
  unfolding summands form
  summand_of a m (action {a = b} p) o h =
      has_one (λ c k. Summand (act b) c k) (record { term = act b; is_in = at_head refl; stands = ends }) (subst (Has a m) (one-action t p) h)
  summand_of a m (prefix {a = b} {u = x} p q) o h =
      has_one (λ c k. Summand (bin Sequence (act b) x) c k) (record { term = bin Sequence (act b) (form x); is_in = at_head refl; stands = goes q o.1 }) (subst (Has a m) (one-prefix t x p) h)
  summand_of a m (sum {u = u} {v = v} p q) o h = pick (has_choice (tree t u) (unfold tree in h)) (summand_of a m p o.0) (summand_of a m q o.1)
    where
      pick : Has a m (tree t u) ⊎ Has a m (tree t v) → (Has a m (tree t u) → Summand u a m) → (Has a m (tree t v) → Summand v a m) → Summand (bin Choice u v) a m
      pick (inl i) f g = let s = f i in record { term = s.term; is_in = Memᴰ.append_left (summands v) s.is_in; stands = s.stands }
      pick (inr i) f g = let s = g i in record { term = s.term; is_in = Memᴰ.append_right (summands u) s.is_in; stands = s.stands }

  branch_of : {u : Term} (s : Term) → SumPlan u → Over n u → In s (summands u) → Branch u s
  unfolding summands form
  branch_of s (action {a = b} p) o h = only h
    where
      only : In s (act b ∷ []) → Branch (act b) s
      only (at_head e) = record { first = b; rest = finish; has = rw (one-action t p) here; stands = rw e ends }
      only (in_Tail i) = elim i [ ]
  branch_of s (prefix {a = b} {u = x} p q) o h = only h
    where
      only : In s (bin Sequence (act b) (form x) ∷ []) → Branch (bin Sequence (act b) x) s
      only (at_head e) = record { first = b; rest = further (tree t x); has = rw (one-prefix t x p) here; stands = rw e (goes q o.1) }
      only (in_Tail i) = elim i [ ]
  branch_of s (sum {u = u} {v = v} p q) o h = pick (Memᴰ.append_cases (summands u) h) (branch_of s p o.0) (branch_of s q o.1)
    where
      pick : In s (summands u) ⊎ In s (summands v) → (In s (summands u) → Branch u s) → (In s (summands v) → Branch v s) → Branch (bin Choice u v) s
      pick (inl i) f g = let b = f i in record { first = b.first; rest = b.rest; has = unfold tree in has_left (tree t v) b.has; stands = b.stands }
      pick (inr i) f g = let b = g i in record { first = b.first; rest = b.rest; has = unfold tree in has_right (tree t u) b.has; stands = b.stands }

  some_branch : {u : Term} → SumPlan u → (a : ℕ) × (m : Rest) × Has a m (tree t u)
  unfolding tree
  some_branch (action {a = a} p) = (a, finish, subst (Has a finish) (sym (one-action t p)) here)
  some_branch (prefix {a = a} {u = x} p q) = (a, further (tree t x), subst (Has a (further (tree t x))) (sym (one-prefix t x p)) here)
  some_branch (sum {v = v} p q) = let b = some_branch p in (b.0, b.1, has_left (tree t v) b.2)

  -- alike branches have the same summand, where alike remainders have the same form
  abbrev Forms : ℕ → Type 0
  Forms k = (u v : Term) → Basic u → Basic v → Over n u → Over n v → height (tree t u) ≤ k → height (tree t v) ≤ k → Alike (tree t u) (tree t v) → form u ≡ form v

  stands_same : (k : ℕ) → Forms k → (r s : Term) (a : ℕ) (l m : Rest) → Stands r a l → Stands s a m → height_rest l ≤ k → height_rest m ≤ k → AlikeRest l m → r ≡ s
  unfolding height
  stands_same k f r s a l m ends ends h i p = refl
  stands_same k f r s a l m ends (goes {x = y} c o) h i p = elim p [ ]
  stands_same k f r s a l m (goes {x = x} b o) ends h i p = elim p [ ]
  stands_same k f r s a l m (goes {x = x} b o) (goes {x = y} c q) h i p = ap (bin Sequence (act a)) (f x y b c o q h i (inside p))
    where
      inside : {x y : Tree} → AlikeRest (further x) (further y) → Alike x y
      inside (both_lead e) = e

  -- where each branch of u is matched in v, each summand of u is one of v
  summands-within : (k : ℕ) → Forms k → (u v : Term) → SumPlan u → SumPlan v → Over n u → Over n v → height (tree t u) ≤ suc k → height (tree t v) ≤ suc k
      → ((a : ℕ) (m : Rest) → Has a m (tree t u) → Matched a m (tree t v)) → (s : Term) → In s (summands u) → In s (summands v)
  summands-within k f u v p q o o' h h' g s i = pick (branch_of s p o i)
    where
      put : (a : ℕ) (l : Rest) → Has a l (tree t u) → Stands s a l → Matched a l (tree t v) → In s (summands v)
      put a l j c (matched {m = m} j' r) =
          let b = summand_of a m q o' j' in
          let d = height-has j in
          let d' = height-has j' in
          Memᴰ.cast (stands_same k f s b.term a l m c b.stands (omega arith) (omega arith) r) b.is_in

      pick : Branch u s → In s (summands v)
      pick b = put b.first b.rest b.has b.stands (g b.first b.rest b.has)

in_words : {s : Term} {l : List Term} → In s l → In (words s) (map words l)
in_words (at_head e) = at_head (ap words e)
in_words (in_Tail m) = in_Tail (in_words m)

words-within : (k l : List Term) → ((s : Term) → In s k → In s l) → Within (map words k) (map words l)
words-within [] l f w m = elim m [ ]
words-within (s ∷ k) l f w (at_head e) = Memᴰ.cast e (in_words (f s (at_head refl)))
words-within (s ∷ k) l f w (in_Tail m) = words-within k l (λ r i. f r (in_Tail i)) w m

module _ (n : ℕ) (few : n ≤ 31) where
  -- plans with the same summands have the same form
  same_summands : (u v : Term) → Over n u → Over n v → ((s : Term) → In s (summands u) → In s (summands v)) → ((s : Term) → In s (summands v) → In s (summands u)) → form u ≡ form v
  same_summands u v o q f g =
      words_injective n few (form u) (form v) (form-over n u o) (form-over n v q)
      (form-join u ∙ (ap join (in_order_same (summands u) (summands v) (words-within _ _ f) (words-within _ _ g)) ∙ sym (form-join v)))

  module _ (t : Tables) where
    not_stop : {a : ℕ} {m : Rest} → Matched a m (tree t (act 0)) → ⊥
    unfolding tree
    not_stop (matched h r) = elim h [ ]

    dead_alone : {v : Term} → SumPlan v → Alike (tree t (act 0)) (tree t v) → ⊥
    dead_alone q (alike f g) = let b = some_branch t n q in not_stop (g b.0 b.1 b.2)

    -- trees without branches
    flat_forms : Forms t n 0
    flat_forms u v dead_stop dead_stop o q h i e = refl
    flat_forms u v dead_stop (sum_plan c) o q h i e = absurd (dead_alone c e)
    flat_forms u v (sum_plan b) c o q h i e = let j = some_branch t n b in let l = height-has j.2 in absurd (omega arith)

    deeper_forms : (k : ℕ) → Forms t n k → Forms t n (suc k)
    deeper_forms k r u v dead_stop dead_stop o q h i e = refl
    deeper_forms k r u v dead_stop (sum_plan c) o q h i e = absurd (dead_alone c e)
    deeper_forms k r u v (sum_plan b) dead_stop o q h i e = absurd (dead_alone b (alike_sym e))
    deeper_forms k r u v (sum_plan b) (sum_plan c) o q h i (alike f g) =
        same_summands u v o q (summands-within t n k r u v b c o q h i f) (summands-within t n k r v u c b q o i h g)

    -- by how deep the trees go
    alike_forms : (k : ℕ) → Forms t n k
    alike_forms zero = flat_forms
    alike_forms (suc k) = deeper_forms k (alike_forms k)

-- a term over n actions is one over 31
pub over-more : (n : ℕ) → n ≤ 31 → (u : Term) → Over n u → Over 31 u
over-more n h (act a) i = omega arith
over-more n h (un o u) i = (i.0, over-more n h u i.1)
over-more n h (bin o u v) i = (over-more n h u i.0, over-more n h v i.1)

-- "Two basic plans have equal fixed forms exactly when their trees are alike"
pub equal_forms_iff_alike : (t t' : Tables) (u v : Term) → Basic u → Basic v → Over 31 u → Over 31 v → (form u ≡ form v) ↔ Alike (tree t u) (tree t' v)
equal_forms_iff_alike t t' u v b c o q = (to, back)
  where
    to : form u ≡ form v → Alike (tree t u) (tree t' v)
    to e =
        alike_trans (alike_sym (form-tree t 31 (omega arith) u o))
        (alike_trans (alike-path (ap (tree t) e)) (alike_trans (form-tree t 31 (omega arith) v q) (alike-path (basic-tree t t' c))))

    back : Alike (tree t u) (tree t' v) → form u ≡ form v
    back p =
        alike_forms 31 (omega arith) t (height (tree t u) + height (tree t v)) u v b c o q (omega arith) (omega arith)
        (alike_trans p (alike-path (basic-tree t' t c)))

-- "the fixed form of a fixed form is itself"
pub form-form : (u : Term) → Basic u → Over 31 u → form (form u) ≡ form u
form-form u b o = (equal_forms_iff_alike [] [] (form u) u (form-basic b) b (form-over 31 u o) o).1 (form-tree [] 31 (omega arith) u o)
