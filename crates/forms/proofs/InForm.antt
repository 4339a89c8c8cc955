-- The form of a basic plan is in the fixed form; a plan in the fixed form is basic and its own form.
use Prim.Native.Nat.{ℕ}
use mathlib.Core.Path.{◌≡◌, refl, sym, ap, subst, ◌∙◌}
use mathlib.Core.Bool.{true, false≢true}
use mathlib.Core.List.Memᴰ.{head as at_head}
use mathlib.Core.List.{List, [], ◌∷◌, ◌++◌, map, append_assoc, append-nil}
use mathlib.Core.Logic.{◌↔◌}
use Rattle.plans.specs.declared.Binary.TheVariants.{Choice, Sequence}
use Rattle.plans.specs.Term.{Term, act, bin, words}
use Rattle.plans.specs.Basic.{Basic, dead_stop as stop-plan, sum_plan, SumPlan, action as one-action, prefix as one-prefix, sum as sum_of}
use Rattle.forms.specs.Form.{before?, insert, in_order, group_on, group, summands, form}
use Rattle.forms.specs.InForm.{Before, begins, less, later, InForm, dead_stop, sum, SumInForm, alone, more, SummandInForm, action, prefix}
use Rattle.forms.proofs.Order.{Heads, less as first-less, tie, heads, heads_before}
use Rattle.forms.proofs.Sorted.{After, Sorted, no_more, then-after, after_none, after_cons, in_order-sorted}
use Rattle.forms.proofs.Kept.{Each, each_append, each-in_order}

-- the order of byte lists, and its test
before_tested : {v w : List ℕ} → Before v w → before? v w ≡ true
unfolding before?
before_tested begins = refl
before_tested (less {a = a} {b = b} {v = v} {w = w} h) = heads_before a b v w (first-less h)
before_tested (later {a = a} {v = v} {w = w} h) = heads_before a a v w (tie refl (before_tested h))

tested_before : (v w : List ℕ) → before? v w ≡ true → Before v w
unfolding before?
tested_before [] [] e = absurd (false≢true e)
tested_before [] (b ∷ w) e = begins
tested_before (a ∷ v) [] e = absurd (false≢true e)
tested_before (a ∷ v) (b ∷ w) e = pick (heads a b v w e) (tested_before v w)
  where
    pick : Heads a b v w → (before? v w ≡ true → Before v w) → Before (a ∷ v) (b ∷ w)
    pick (first-less h) f = less h
    pick (tie h d) f = subst (λ c. Before (a ∷ v) (c ∷ w)) h (later (f d))

pub before_iff : (v w : List ℕ) → Before v w ↔ (before? v w ≡ true)
before_iff v w = (before_tested, tested_before v w)

-- summands in order, grouped to the left after a sum in the fixed form
group_on-in_form : (x r : Term) (l : List Term) → SumInForm x r → Each SummandInForm l → Sorted (words r ∷ map words l) → InForm (group_on x l)
unfolding group_on
group_on-in_form x r [] p h o = sum p
group_on-in_form x r (s ∷ l) p h (then-after a o) =
    group_on-in_form (bin Choice x s) s l (more p h.0 (tested_before (words r) (words s) (a (words s) (at_head refl)))) h.1 o

group-in_form : (l : List Term) → Each SummandInForm l → Sorted (map words l) → InForm (group l)
unfolding group
group-in_form [] h o = dead_stop
group-in_form (s ∷ l) h o = group_on-in_form s s l (alone h.0) h.1 o

mutual
  unfolding summands form

  summands-in_form : {u : Term} → SumPlan u → Each SummandInForm (summands u)
  summands-in_form (one-action h) = (action h, tt)
  summands-in_form (one-prefix h b) = (prefix h (form-in_form b), tt)
  summands-in_form (sum_of {u = u} {v = v} p q) = each_append SummandInForm (summands u) (summands v) (summands-in_form p) (summands-in_form q)

  -- the form of a basic plan is in the fixed form
  pub form-in_form : {u : Term} → Basic u → InForm (form u)
  form-in_form stop-plan = dead_stop
  form-in_form (sum_plan {u = u} p) =
      group-in_form (in_order (summands u)) (each-in_order SummandInForm (summands u) (summands-in_form p)) (in_order-sorted (summands u))

-- summands that are in order stay as they are
insert-first : (s : Term) (l : List Term) → After (words s) (map words l) → insert s l ≡ s ∷ l
unfolding insert
insert-first s [] f = refl
insert-first s (r ∷ rs) f = rw (f (words r) (at_head refl)) refl

sorted_stays : (l : List Term) → Sorted (map words l) → in_order l ≡ l
unfolding in_order
sorted_stays [] o = refl
sorted_stays (s ∷ l) (then-after a o) = rw (sorted_stays l o) (insert-first s l a)

-- the summands of a sum, with further ones after its last: in order, and grouped to the left they are the sum again
abbrev Stays : Term → List Term → Type 0
Stays u l = Sorted (map words (summands u ++ l)) × (group (summands u ++ l) ≡ group_on u l)

mutual
  unfolding summands form group

  one-summand : {s : Term} → SummandInForm s → summands s ≡ s ∷ []
  one-summand (action h) = refl
  one-summand (prefix {a = a} h p) = ap (λ v. bin Sequence (act a) v ∷ []) (in_form_same p)

  sum_stays : {u r : Term} → SumInForm u r → (l : List Term) → Sorted (words r ∷ map words l) → Stays u l
  sum_stays (alone {s = s} p) l o = rw (one-summand p) (o, refl)
  sum_stays (more {u = u} {r = r} {s = s} p q b) l (then-after a o) =
      let i = sum_stays p (s ∷ l) (then-after (after_cons (words r) (words s) (map words l) (before_tested b) a) (then-after a o)) in
      let e : (summands u ++ summands s) ++ l ≡ summands u ++ (s ∷ l) = append_assoc (summands u) (summands s) l ∙ ap (λ k. summands u ++ (k ++ l)) (one-summand q) in
      rw e i

  -- a plan in the fixed form is its own form
  pub in_form_same : {u : Term} → InForm u → form u ≡ u
  in_form_same dead_stop = refl
  in_form_same (sum {u = u} {s = s} p) =
      let i = sum_stays p [] (then-after (after_none (words s)) no_more) in
      let e : summands u ++ [] ≡ summands u = append-nil (summands u) in
      ap group (sorted_stays (summands u) (subst (λ k. Sorted (map words k)) e i.0)) ∙ (ap group (sym e) ∙ i.1)

-- and basic
mutual
  in_form-plan : {u s : Term} → SumInForm u s → SumPlan u
  in_form-plan (alone p) = summand-plan p
  in_form-plan (more p q b) = sum_of (in_form-plan p) (summand-plan q)

  summand-plan : {s : Term} → SummandInForm s → SumPlan s
  summand-plan (action h) = one-action h
  summand-plan (prefix h p) = one-prefix h (in_form-basic p)

  pub in_form-basic : {u : Term} → InForm u → Basic u
  in_form-basic dead_stop = stop-plan
  in_form-basic (sum p) = sum_plan (in_form-plan p)
