-- What `sort` and `once` make of a list of byte lists is in order, each once, with the same members.
use Prim.Native.Nat.{ℕ, suc, zero, ◌+◌, ◌≤◌, ◌<◌}
use native.Mathlib.Omega.{arith}
use mathlib.Core.Path.{◌≡◌, refl, sym, ap, ap₂, subst, ◌∙◌}
use mathlib.Core.Bool.{Bool, true, false, false≢true}
use mathlib.Core.List.Memᴰ
use mathlib.Core.List.Memᴰ.{head as at_head}
use mathlib.Core.List.Memᴰ.{tail as in_Tail}
use mathlib.Core.List.{List, [], ◌∷◌, ◌++◌, map, append-nil, Memᴰ as In}
use lib.ListN.{length, take, drop, length-take, length-drop, drop_of_length-le}
use lib.Seq.{take_all, take-append_seam, drop-append_seam, take-nil, drop-nil}
use lib.Dec.{leb}
use borrow.Author.Tests.{leb-true, leb-false}
use Rattle.plans.specs.Term.{Term, words}
use Rattle.forms.specs.Form.{before?, in_order}
use Rattle.forms.specs.Sorting.{if, run_on, merge_runs, sweep, sort_from, sort, once_after, once}
use Rattle.forms.specs.Gathering.{sorted}
use Rattle.forms.proofs.Order.{before_trans, before-asymmetric, Order, earlier, same, later, before-total}
use Rattle.forms.proofs.Sorted.{After, Sorted, no_more, then-after, Within, after_none, sorted_unique, in_order-sorted, in_order_members, in_order-has}
use Rattle.forms.proofs.Members.{All, all_parts, on-each, runs-each, runs-total, sweep-total, total-one, sort-each, after-each, once-each}

-- not before: the weak order
abbrev NotBefore : List ℕ → List ℕ → Type 0
NotBefore w v = before? w v ≡ false

not_before_trans : (u v w : List ℕ) → NotBefore v u → NotBefore w v → NotBefore w u
not_before_trans u v w e d = pick (before? w u) refl
  where
    over : before? w u ≡ true → Order v w → ⊥
    over f (earlier g) = false≢true (sym e ∙ before_trans v w u g f)
    over f (same g) = false≢true (sym e ∙ rw g f)
    over f (later g) = false≢true (sym d ∙ g)

    pick : (b : Bool) → before? w u ≡ b → b ≡ false
    pick true f = absurd (over f (before-total v w))
    pick false f = refl

-- each byte list stands before none of those before it
abbrev NotAfter : List ℕ → List (List ℕ) → Type 0
NotAfter v l = All (λ w. NotBefore w v) l

data Ascending : List (List ℕ) → Type 0 where
  nothing : Ascending []
  climbs : {v : List ℕ} {l : List (List ℕ)} → NotAfter v l → Ascending l → Ascending (v ∷ l)

not_after_cons : (u v : List ℕ) (l : List (List ℕ)) → NotBefore v u → NotAfter v l → NotAfter u (v ∷ l)
not_after_cons u v l e f w (at_head d) = rw d e
not_after_cons u v l e f w (in_Tail m) = not_before_trans u v w e (f w m)

-- merging two runs
data Turn (s : List ℕ) (ss : List (List ℕ)) (f : List (List ℕ) → List (List ℕ)) (r : List ℕ) (rs : List (List ℕ)) : List (List ℕ) → Type 0 where
  takes_left : before? r s ≡ false → Turn s ss f r rs (s ∷ f (r ∷ rs))
  takes_right : before? r s ≡ true → Turn s ss f r rs (r ∷ run_on before? s ss f rs)

turn : (s : List ℕ) (ss : List (List ℕ)) (f : List (List ℕ) → List (List ℕ)) (r : List ℕ) (rs : List (List ℕ)) → Turn s ss f r rs (run_on before? s ss f (r ∷ rs))
unfolding run_on
turn s ss f r rs = pick (before? r s) refl
  where
    pick : (b : Bool) → before? r s ≡ b → Turn s ss f r rs (if b (λ d. r ∷ run_on before? s ss f rs) (λ d. s ∷ f (r ∷ rs)))
    pick true e = takes_right e
    pick false e = takes_left e

module _ (s : List ℕ) (ss : List (List ℕ)) (f : List (List ℕ) → List (List ℕ)) where
  on-left : ((qs : List (List ℕ)) → Within ss (f qs)) → (rs : List (List ℕ)) → Within (s ∷ ss) (run_on before? s ss f rs)
  unfolding run_on
  on-left g [] w m = m
  on-left g (r ∷ rs) w m = go (turn s ss f r rs) (on-left g rs w m) m
    where
      keep : In w (s ∷ ss) → In w (s ∷ f (r ∷ rs))
      keep (at_head e) = at_head e
      keep (in_Tail i) = in_Tail (g (r ∷ rs) w i)

      go : {l : List (List ℕ)} → Turn s ss f r rs l → In w (run_on before? s ss f rs) → In w (s ∷ ss) → In w l
      go (takes_left e) j i = keep i
      go (takes_right e) j i = in_Tail j

  on-right : ((qs : List (List ℕ)) → Within qs (f qs)) → (rs : List (List ℕ)) → Within rs (run_on before? s ss f rs)
  unfolding run_on
  on-right g [] w m = elim m [ ]
  on-right g (r ∷ rs) w m = go (turn s ss f r rs) (on-right g rs w) m
    where
      skip : In w (r ∷ rs) → (In w rs → In w (run_on before? s ss f rs)) → In w (r ∷ run_on before? s ss f rs)
      skip (at_head e) j = at_head e
      skip (in_Tail i) j = in_Tail (j i)

      go : {l : List (List ℕ)} → Turn s ss f r rs l → (In w rs → In w (run_on before? s ss f rs)) → In w (r ∷ rs) → In w l
      go (takes_left e) j i = in_Tail (g (r ∷ rs) w i)
      go (takes_right e) j i = skip i j

  on_ascending : ((P : List ℕ → Type 0) (qs : List (List ℕ)) → All P ss → All P qs → All P (f qs)) → ((qs : List (List ℕ)) → Ascending qs → Ascending (f qs))
      → NotAfter s ss → Ascending ss → (rs : List (List ℕ)) → Ascending rs → Ascending (run_on before? s ss f rs)
  unfolding run_on
  on_ascending g h a o [] q = climbs a o
  on_ascending g h a o (r ∷ rs) (climbs b q) = go (turn s ss f r rs) (on_ascending g h a o rs q)
    where
      low : before? r s ≡ true → NotAfter r (s ∷ ss)
      low e = not_after_cons r s ss (before-asymmetric r s e) a

      go : {l : List (List ℕ)} → Turn s ss f r rs l → Ascending (run_on before? s ss f rs) → Ascending l
      go (takes_left e) j = climbs (g (λ w. NotBefore w s) (r ∷ rs) a (not_after_cons s r rs e b)) (h (r ∷ rs) (climbs b q))
      go (takes_right e) j =
          climbs (on-each before? (λ w. NotBefore w r) s ss f (λ qs i. g (λ w. NotBefore w r) qs (λ w m. low e w (in_Tail m)) i) (low e s (at_head refl)) (λ w m. low e w (in_Tail m)) rs b) j

runs-left : (x y : List (List ℕ)) → Within x (merge_runs before? x y)
unfolding merge_runs
runs-left [] y w m = elim m [ ]
runs-left (s ∷ ss) y w m = on-left s ss (λ qs. merge_runs before? ss qs) (λ qs. runs-left ss qs) y w m

runs-right : (x y : List (List ℕ)) → Within y (merge_runs before? x y)
unfolding merge_runs
runs-right [] y w m = m
runs-right (s ∷ ss) y w m = on-right s ss (λ qs. merge_runs before? ss qs) (λ qs. runs-right ss qs) y w m

runs_ascending : (x y : List (List ℕ)) → Ascending x → Ascending y → Ascending (merge_runs before? x y)
unfolding merge_runs
runs_ascending [] y o q = q
runs_ascending (s ∷ ss) y (climbs a o) q = on_ascending s ss (λ qs. merge_runs before? ss qs) (λ P qs f g. runs-each before? P ss qs f g) (λ qs h. runs_ascending ss qs o h) a o y q

runs-length : (x y : List (List ℕ)) → length (merge_runs before? x y) ≡ length x + length y
runs-length x y = sym (total-one (merge_runs before? x y)) ∙ (runs-total before? (λ p. 1) x y ∙ ap₂ ◌+◌ (total-one x) (total-one y))

-- a list in runs of width w
data Runs (w : ℕ) : List (List ℕ) → Type 0 where
  done : Runs w []
  run : {x : List (List ℕ)} → Ascending (take w x) → Runs w (drop w x) → Runs w x

runs_of_one : (x : List (List ℕ)) → Runs 1 x
runs_of_one [] = done
runs_of_one (s ∷ x) = run (climbs (none s) nothing) (runs_of_one x)
  where
    none : (v : List ℕ) → NotAfter v []
    none v w m = elim m [ ]

-- a run that is the whole list
whole : {w : ℕ} {x : List (List ℕ)} → length x ≤ w → Runs w x → Ascending x
whole h done = nothing
whole {w} h (run {x = x} a r) = subst Ascending (take_all w x h) a

as_run : (w : ℕ) (x : List (List ℕ)) → length x ≤ w → Ascending x → Runs w x
as_run w x h a = run (subst Ascending (sym (take_all w x h)) a) (subst (Runs w) (sym (drop_of_length-le x h)) done)

first_run : {w : ℕ} {x : List (List ℕ)} → Runs w x → Ascending (take w x) × Runs w (drop w x)
first_run {w} done = (subst Ascending (sym (take-nil w)) nothing, subst (Runs w) (sym (drop-nil w)) done)
first_run (run a r) = (a, r)

no_length : (x : List (List ℕ)) → length x ≡ 0 → x ≡ []
no_length [] e = refl
no_length (s ∷ x) e = absurd (omega arith)

-- a run before a list in runs, if it is full or nothing follows
before-runs : (w : ℕ) (x y : List (List ℕ)) → Ascending x → Runs w y → length x ≡ w → Runs w (x ++ y)
before-runs w x y a r e =
    run (subst (λ k. Ascending (take k (x ++ y))) e (subst Ascending (sym (take-append_seam x y)) a))
    (subst (λ k. Runs w (drop k (x ++ y))) e (subst (Runs w) (sym (drop-append_seam x y)) r))

last-run : (w : ℕ) (x y : List (List ℕ)) → Ascending x → length x ≤ w → length y ≡ 0 → Runs w (x ++ y)
last-run w x y a h e = subst (λ z. Runs w (x ++ z)) (sym (no_length y e)) (subst (Runs w) (sym (append-nil x)) (as_run w x h a))

-- the runs of a sweep are twice as wide
sweep-length : (k w : ℕ) (x : List (List ℕ)) → length (sweep before? k w x) ≡ length x
sweep-length k w x = sym (total-one (sweep before? k w x)) ∙ (sweep-total before? (λ p. 1) k w x ∙ total-one x)

sweep-runs : (k w : ℕ) (x : List (List ℕ)) → 1 ≤ w → length x ≤ k → Runs w x → Runs (w + w) (sweep before? k w x)
unfolding sweep
sweep-runs zero w x h i r = as_run (w + w) x (omega arith) (whole (omega arith) r)
sweep-runs (suc k) w x h i r = pick (leb (length x) w) refl (sweep-runs k w (drop w (drop w x)) h)
  where
    y : List (List ℕ)
    y = drop w x

    z : List (List ℕ)
    z = drop w (drop w x)

    m : List (List ℕ)
    m = merge_runs before? (take w x) (take w y)

    rises : Ascending m
    rises = runs_ascending (take w x) (take w y) (first_run r).0 (first_run (first_run r).1).0

    place : (b : Bool) → leb w (length y) ≡ b → w < length x → Runs (w + w) (sweep before? k w z) → Runs (w + w) (m ++ sweep before? k w z)
    place true e j q =
        before-runs (w + w) m (sweep before? k w z) rises q
        (omega (arith, leb-true w (length y) e, runs-length (take w x) (take w y), length-take w x, length-take w y))
    place false e j q =
        last-run (w + w) m (sweep before? k w z) rises (omega (arith, runs-length (take w x) (take w y), length-take w x, length-take w y))
        (omega (arith, leb-false w (length y) e, sweep-length k w z, length-drop w y))

    pick : (b : Bool) → leb (length x) w ≡ b → (length z ≤ k → Runs w z → Runs (w + w) (sweep before? k w z))
        → Runs (w + w) (if b (λ d. x) (λ d. m ++ sweep before? k w z))
    pick true e f = let l = leb-true (length x) w e in as_run (w + w) x (omega arith) (whole l r)
    pick false e f =
        let l = leb-false (length x) w e in
        place (leb w (length y)) refl l (f (omega (arith, length-drop w x, length-drop w y)) (first_run (first_run r).1).1)

sort_from_ascending : (k w : ℕ) (x : List (List ℕ)) → 1 ≤ w → length x ≤ k + w → Runs w x → Ascending (sort_from before? k w x)
unfolding sort_from
sort_from_ascending zero w x h i r = whole (omega arith) r
sort_from_ascending (suc k) w x h i r = pick (leb (length x) w) refl (sort_from_ascending k (w + w) (sweep before? (length x) w x) (omega arith))
  where
    pick : (b : Bool) → leb (length x) w ≡ b
        → (length (sweep before? (length x) w x) ≤ k + (w + w) → Runs (w + w) (sweep before? (length x) w x) → Ascending (sort_from before? k (w + w) (sweep before? (length x) w x)))
        → Ascending (if b (λ d. x) (λ d. sort_from before? k (w + w) (sweep before? (length x) w x)))
    pick true e f = whole (leb-true (length x) w e) r
    pick false e f = f (omega (arith, sweep-length (length x) w x)) (sweep-runs (length x) w x h (omega arith) r)

sort_ascending : (x : List (List ℕ)) → Ascending (sort before? x)
unfolding sort
sort_ascending x = sort_from_ascending (length x) 1 x (omega arith) (omega arith) (runs_of_one x)

-- nothing is lost
sweep-has : (k w : ℕ) (x : List (List ℕ)) → Within x (sweep before? k w x)
unfolding sweep
sweep-has zero w x = λ u m. m
sweep-has (suc k) w x = pick (leb (length x) w) (sweep-has k w (drop w (drop w x)))
  where
    pick : (b : Bool) → Within (drop w (drop w x)) (sweep before? k w (drop w (drop w x)))
        → Within x (if b (λ d. x) (λ d. merge_runs before? (take w x) (take w (drop w x)) ++ sweep before? k w (drop w (drop w x))))
    pick true g = λ u m. m
    pick false g =
        all_parts _ w x (λ u m. Memᴰ.append_left _ (runs-left (take w x) (take w (drop w x)) u m))
        (all_parts _ w (drop w x) (λ u m. Memᴰ.append_left _ (runs-right (take w x) (take w (drop w x)) u m))
        (λ u m. Memᴰ.append_right (merge_runs before? (take w x) (take w (drop w x))) (g u m)))

sort_from-has : (k w : ℕ) (x : List (List ℕ)) → Within x (sort_from before? k w x)
unfolding sort_from
sort_from-has zero w x u m = m
sort_from-has (suc k) w x u m = pick (leb (length x) w) (sort_from-has k (w + w) (sweep before? (length x) w x) u (sweep-has (length x) w x u m))
  where
    pick : (b : Bool) → In u (sort_from before? k (w + w) (sweep before? (length x) w x)) → In u (if b (λ d. x) (λ d. sort_from before? k (w + w) (sweep before? (length x) w x)))
    pick true g = m
    pick false g = g

sort-has : (x : List (List ℕ)) → Within x (sort before? x)
unfolding sort
sort-has x = sort_from-has (length x) 1 x

-- of a list in weak order, equal neighbours once
strictly : (u v w : List ℕ) → before? u v ≡ true → NotBefore w v → before? u w ≡ true
strictly u v w e d = pick (before-total v w)
  where
    pick : Order v w → before? u w ≡ true
    pick (earlier f) = before_trans u v w e f
    pick (same f) = rw (← f) e
    pick (later f) = absurd (false≢true (sym d ∙ f))

equal : (v w : List ℕ) → NotBefore v w → NotBefore w v → v ≡ w
equal v w e d = pick (before-total v w)
  where
    pick : Order v w → v ≡ w
    pick (earlier f) = absurd (false≢true (sym e ∙ f))
    pick (same f) = f
    pick (later f) = absurd (false≢true (sym d ∙ f))

after-has : (s : List ℕ) (l : List (List ℕ)) → Ascending (s ∷ l) → Within (s ∷ l) (once_after before? s l)
unfolding once_after
after-has s [] a w m = m
after-has s (r ∷ rs) (climbs a (climbs b o)) w m = pick (before? s r) refl (after-has r rs (climbs b o) w) (after-has s rs (climbs (λ v i. a v (in_Tail i)) o) w) m
  where
    keep : (In w (r ∷ rs) → In w (once_after before? r rs)) → In w (s ∷ (r ∷ rs)) → In w (s ∷ once_after before? r rs)
    keep g (at_head e) = at_head e
    keep g (in_Tail i) = in_Tail (g i)

    leave : s ≡ r → (In w (s ∷ rs) → In w (once_after before? s rs)) → In w (s ∷ (r ∷ rs)) → In w (once_after before? s rs)
    leave d g (at_head e) = g (at_head e)
    leave d g (in_Tail (at_head e)) = g (at_head (e ∙ sym d))
    leave d g (in_Tail (in_Tail i)) = g (in_Tail i)

    pick : (b : Bool) → before? s r ≡ b → (In w (r ∷ rs) → In w (once_after before? r rs)) → (In w (s ∷ rs) → In w (once_after before? s rs)) → In w (s ∷ (r ∷ rs))
        → In w (if b (λ d. s ∷ once_after before? r rs) (λ d. once_after before? s rs))
    pick true e g h i = keep g i
    pick false e g h i = leave (equal s r e (a r (at_head refl))) h i

after_sorted : (s : List ℕ) (l : List (List ℕ)) → Ascending (s ∷ l) → Sorted (once_after before? s l)
unfolding once_after
after_sorted s [] a = then-after (after_none s) no_more
after_sorted s (r ∷ rs) (climbs a (climbs b o)) = pick (before? s r) refl (after_sorted r rs (climbs b o)) (after_sorted s rs (climbs (λ v i. a v (in_Tail i)) o))
  where
    beyond : before? s r ≡ true → After s (r ∷ rs)
    beyond e w (at_head d) = rw d e
    beyond e w (in_Tail m) = strictly s r w e (b w m)

    pick : (b : Bool) → before? s r ≡ b → Sorted (once_after before? r rs) → Sorted (once_after before? s rs)
        → Sorted (if b (λ d. s ∷ once_after before? r rs) (λ d. once_after before? s rs))
    pick true e g h = then-after (after-each before? (λ w. before? s w ≡ true) r rs (beyond e)) g
    pick false e g h = h

once-has : (x : List (List ℕ)) → Ascending x → Within x (once before? x)
unfolding once
once-has [] a = λ w m. m
once-has (s ∷ x) a = after-has s x a

once-sorted : (x : List (List ℕ)) → Ascending x → Sorted (once before? x)
unfolding once
once-sorted [] a = no_more
once-sorted (s ∷ x) a = after_sorted s x a

-- a part sorted is in order
pub part-sorted : (x : List (List ℕ)) → Sorted (sorted x)
unfolding sorted
part-sorted x = once-sorted (sort before? x) (sort_ascending x)

-- any list in order with the summands' bytes is that of the summands put in order
in_order-if : (x : List (List ℕ)) (l : List Term) → Sorted x → Within x (map words l) → Within (map words l) x → x ≡ map words (in_order l)
in_order-if x l o f g = sorted_unique _ _ o (in_order-sorted l) (λ w m. in_order-has l w (f w m)) (λ w m. g w (in_order_members l w m))

-- summands sorted are summands put in order
pub sorted-in_order : (l : List Term) → sorted (map words l) ≡ map words (in_order l)
unfolding sorted
sorted-in_order l =
    let x = map words l in
    in_order-if (once before? (sort before? x)) l (part-sorted x) (once-each before? (λ w. In w x) (sort before? x) (sort-each before? (λ w. In w x) x (λ w m. m)))
    (λ w m. once-has (sort before? x) (sort_ascending x) w (sort-has x w m))

pub map-append : (k l : List Term) → map words (k ++ l) ≡ map words k ++ map words l
map-append [] l = refl
map-append (s ∷ k) l = ap (λ x. words s ∷ x) (map-append k l)
