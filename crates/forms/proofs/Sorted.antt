-- Byte lists in ascending order, each once: two such lists with the same members are equal. `in_order` makes such a list.
use Prim.Native.Nat.{ℕ}
use mathlib.Core.Path.{◌≡◌, refl, sym, ap₂, subst, ◌∙◌}
use mathlib.Core.Bool.{true, cond}
use mathlib.Core.List.Memᴰ.{head as at_head}
use mathlib.Core.List.Memᴰ.{tail as in_Tail}
use mathlib.Core.List.{List, [], ◌∷◌, map, Memᴰ as In}
use Rattle.plans.specs.Term.{Term, words}
use Rattle.forms.specs.Form.{before?, insert, in_order}
use Rattle.forms.proofs.Order.{before-irreflexive, not_before-itself, before_trans, before-asymmetric, Order, earlier, same, later, before-total}

-- each byte list of l stands after v
abbrev pub After : List ℕ → List (List ℕ) → Type 0
After v l = (w : List ℕ) → In w l → before? v w ≡ true

pub data Sorted : List (List ℕ) → Type 0 where
  no_more : Sorted []
  then-after : {v : List ℕ} {l : List (List ℕ)} → After v l → Sorted l → Sorted (v ∷ l)

abbrev pub Within : List (List ℕ) → List (List ℕ) → Type 0
Within x y = (w : List ℕ) → In w x → In w y

-- the members of a list determine it
before_head : (v w : List ℕ) (l : List (List ℕ)) → After w l → In v (w ∷ l) → before? v w ≡ true → ⊥
before_head v w l f (at_head e) d = not_before-itself w (subst (λ x. before? x w ≡ true) e d)
before_head v w l f (in_Tail h) d = not_before-itself w (before_trans w v w (f v h) d)

head_same : (v w : List ℕ) (x y : List (List ℕ)) → After v x → After w y → In v (w ∷ y) → In w (v ∷ x) → v ≡ w
head_same v w x y f g h i = pick (before-total v w)
  where
    pick : Order v w → v ≡ w
    pick (earlier e) = absurd (before_head v w y g h e)
    pick (same e) = e
    pick (later e) = absurd (before_head w v x f i e)

tail_within : (v w : List ℕ) (x y : List (List ℕ)) → v ≡ w → After v x → Within (v ∷ x) (w ∷ y) → Within x y
tail_within v w x y e f h u m = pick (h u (in_Tail m))
  where
    pick : In u (w ∷ y) → In u y
    pick (at_head d) = absurd (not_before-itself w (subst (λ z. before? z w ≡ true) e (subst (λ z. before? v z ≡ true) d (f u m))))
    pick (in_Tail i) = i

pub sorted_unique : (x y : List (List ℕ)) → Sorted x → Sorted y → Within x y → Within y x → x ≡ y
sorted_unique [] [] s t f g = refl
sorted_unique [] (w ∷ y) s t f g = elim (g w (at_head refl)) [ ]
sorted_unique (v ∷ x) [] s t f g = elim (f v (at_head refl)) [ ]
sorted_unique (v ∷ x) (w ∷ y) (then-after a s) (then-after b t) f g =
    let e = head_same v w x y a b (f v (at_head refl)) (g w (at_head refl)) in
    ap₂ (λ u z. u ∷ z) e (sorted_unique x y s t (tail_within v w x y e a f) (tail_within w v y x (sym e) b g))

-- the three ways in which a summand is put among others
pub data Inserted (s r : Term) (rs : List Term) : List Term → Type 0 where
  goes_before : before? (words s) (words r) ≡ true → Inserted s r rs (s ∷ (r ∷ rs))
  goes_on : before? (words r) (words s) ≡ true → Inserted s r rs (r ∷ insert s rs)
  is_there : words s ≡ words r → Inserted s r rs (r ∷ rs)

pub inserted : (s r : Term) (rs : List Term) → Inserted s r rs (insert s (r ∷ rs))
unfolding insert
inserted s r rs = pick (before-total (words s) (words r))
  where
    pick : Order (words s) (words r)
        → Inserted s r rs (cond (before? (words s) (words r)) (s ∷ (r ∷ rs)) (cond (before? (words r) (words s)) (r ∷ insert s rs) (r ∷ rs)))
    pick (earlier e) = rw e (goes_before e)
    pick (same e) = rw (e, before-irreflexive (words r)) (is_there e)
    pick (later e) = rw (before-asymmetric (words r) (words s) e, e) (goes_on e)

-- what stands in a list after a summand was put in
insert_members : (s : Term) (l : List Term) → Within (map words (insert s l)) (words s ∷ map words l)
unfolding insert
insert_members s [] w m = m
insert_members s (r ∷ rs) w m = go (inserted s r rs) (insert_members s rs w) m
  where
    skip : In w (words s ∷ map words rs) → In w (words s ∷ (words r ∷ map words rs))
    skip (at_head e) = at_head e
    skip (in_Tail i) = in_Tail (in_Tail i)

    on : (In w (map words (insert s rs)) → In w (words s ∷ map words rs)) → In w (words r ∷ map words (insert s rs)) → In w (words s ∷ (words r ∷ map words rs))
    on f (at_head e) = in_Tail (at_head e)
    on f (in_Tail i) = skip (f i)

    go : {l : List Term} → Inserted s r rs l → (In w (map words (insert s rs)) → In w (words s ∷ map words rs)) → In w (map words l) → In w (words s ∷ (words r ∷ map words rs))
    go (goes_before e) f m = m
    go (goes_on e) f m = on f m
    go (is_there e) f m = in_Tail m

insert-has : (s : Term) (l : List Term) → Within (words s ∷ map words l) (map words (insert s l))
unfolding insert
insert-has s [] w m = m
insert-has s (r ∷ rs) w m = go (inserted s r rs) (insert-has s rs w) m
  where
    on : (In w (words s ∷ map words rs) → In w (map words (insert s rs))) → In w (words s ∷ (words r ∷ map words rs)) → In w (words r ∷ map words (insert s rs))
    on f (at_head e) = in_Tail (f (at_head e))
    on f (in_Tail (at_head e)) = at_head e
    on f (in_Tail (in_Tail i)) = in_Tail (f (in_Tail i))

    there : words s ≡ words r → In w (words s ∷ (words r ∷ map words rs)) → In w (words r ∷ map words rs)
    there d (at_head e) = at_head (e ∙ d)
    there d (in_Tail i) = i

    go : {l : List Term} → Inserted s r rs l → (In w (words s ∷ map words rs) → In w (map words (insert s rs))) → In w (words s ∷ (words r ∷ map words rs)) → In w (map words l)
    go (goes_before e) f m = m
    go (goes_on e) f m = on f m
    go (is_there e) f m = there e m

pub after_none : (v : List ℕ) → After v []
after_none v w m = elim m [ ]

pub after_cons : (u v : List ℕ) (l : List (List ℕ)) → before? u v ≡ true → After v l → After u (v ∷ l)
after_cons u v l e f w (at_head d) = rw d e
after_cons u v l e f w (in_Tail m) = before_trans u v w e (f w m)

after-insert : (v : List ℕ) (s : Term) (l : List Term) → before? v (words s) ≡ true → After v (map words l) → After v (map words (insert s l))
after-insert v s l e f w m = pick (insert_members s l w m)
  where
    pick : In w (words s ∷ map words l) → before? v w ≡ true
    pick (at_head d) = rw d e
    pick (in_Tail i) = f w i

insert-sorted : (s : Term) (l : List Term) → Sorted (map words l) → Sorted (map words (insert s l))
unfolding insert
insert-sorted s [] o = then-after (after_none (words s)) no_more
insert-sorted s (r ∷ rs) (then-after a o) = go (inserted s r rs) (insert-sorted s rs o)
  where
    go : {l : List Term} → Inserted s r rs l → Sorted (map words (insert s rs)) → Sorted (map words l)
    go (goes_before e) i = then-after (after_cons (words s) (words r) (map words rs) e a) (then-after a o)
    go (goes_on e) i = then-after (after-insert (words r) s rs e a) i
    go (is_there e) i = then-after a o

-- summands put in order are sorted, and are the same summands
pub in_order-sorted : (l : List Term) → Sorted (map words (in_order l))
unfolding in_order
in_order-sorted [] = no_more
in_order-sorted (s ∷ l) = insert-sorted s (in_order l) (in_order-sorted l)

within_cons : (v : List ℕ) (x y : List (List ℕ)) → Within x y → Within (v ∷ x) (v ∷ y)
within_cons v x y f w (at_head e) = at_head e
within_cons v x y f w (in_Tail m) = in_Tail (f w m)

pub in_order_members : (l : List Term) → Within (map words (in_order l)) (map words l)
unfolding in_order
in_order_members [] w m = m
in_order_members (s ∷ l) w m = within_cons (words s) _ _ (in_order_members l) w (insert_members s (in_order l) w m)

pub in_order-has : (l : List Term) → Within (map words l) (map words (in_order l))
unfolding in_order
in_order-has [] w m = m
in_order-has (s ∷ l) w m = insert-has s (in_order l) w (within_cons (words s) _ _ (in_order-has l) w m)

-- so summands with the same bytes give the same list
pub in_order_same : (k l : List Term) → Within (map words k) (map words l) → Within (map words l) (map words k) → map words (in_order k) ≡ map words (in_order l)
in_order_same k l f g =
    sorted_unique _ _ (in_order-sorted k) (in_order-sorted l)
    (λ w m. in_order-has l w (f w (in_order_members k w m))) (λ w m. in_order-has k w (g w (in_order_members l w m)))
