-- None of laws 5 to 32 fits anywhere in a plan exactly when the plan is basic.
use Prim.Native.Nat.{ℕ, suc, zero, ◌-◌, ◌≤◌, ◌<◌}
use native.Mathlib.Omega.{arith}
use mathlib.Core.Path.{◌≡◌, refl, sym, subst}
use mathlib.Core.Bool.{Bool, true, false, ◌&&◌, and-eq-true_iff}
use mathlib.Core.List.{List, [], ◌∷◌}
use mathlib.Core.Logic.{◌↔◌}
use mathlib.Core.Option.{Option, none, some}
use lib.ListN.{length, drop}
use lib.Dec.{leb}
use borrow.Author.Tests.{ne_eqb, leb-true}
use Rattle.tables.specs.Tables.{Tables, actions, below, blocked}
use Rattle.plans.specs.declared.Binary.{Binary}
use Rattle.plans.specs.declared.Binary.TheVariants.{Choice, Sequence, Merge, LeftMerge, CommunicationMerge, Unless}
use Rattle.plans.specs.declared.Unary.{Unary}
use Rattle.plans.specs.declared.Unary.TheVariants.{Priority, Encapsulation}
use Rattle.plans.specs.Term.{Term, act, un, bin, term_of, and_then}
use Rattle.plans.specs.Place.{subterm, replace}
use Rattle.plans.specs.Basic.{Basic, dead_stop, sum_plan, SumPlan, action, prefix, sum}
use Rattle.plans.proofs.Options.{never}
use Rattle.laws.specs.Laws.{Law, laws, nth, law_at, rewrite, highest_law, first_choice}
use Rattle.laws.specs.Step.{step}
use Rattle.laws.proofs.Places.{Everywhere, everywhere_places, places_everywhere}

abbrev IsSome : {A : Type 0} → Option A → Type 0
IsSome none = ⊥
IsSome (some u) = Unit

abbrev or_else : Option Term → Option Term → Option Term
or_else none r = r
or_else (some u) r = some u

-- how a basic term begins
data Head : Term → Type 0 where
  an : (c : ℕ) → Head (act c)
  pre : (c : ℕ) (u : Term) → Head (bin Sequence (act c) u)
  add : (u v : Term) → Head (bin Choice u v)

head : {u : Term} → Basic u → Head u
head dead_stop = an 0
head (sum_plan (action {a = c} h)) = an c
head (sum_plan (prefix {a = c} {u = u} h b)) = pre c u
head (sum_plan (sum {u = u} {v = v} p q)) = add u v

module _ (t : Tables) where
  -- none of laws 5 to 32 fits a term at its root
  abbrev pub Still : Term → Type 0
  Still u = (k : ℕ) → first_choice ≤ k → k ≤ highest_law → rewrite t (law_at k) u ≡ none

  -- one does
  data Fits (u : Term) : Type 0 where
    by : (k : ℕ) → leb first_choice k && leb k highest_law ≡ true → IsSome (rewrite t (law_at k) u) → Fits u

  clash {ℓ} : {A : Type ℓ} (u : Term) → Still u → Fits u → A
  clash u s (by k h i) =
      let c = (and-eq-true_iff (leb first_choice k) _).0 h in
      absurd (subst IsSome (s k (leb-true first_choice k c.0) (leb-true k highest_law c.1)) i)

  -- an operator other than + and · on basic terms: some law fits
  fits-un : (o : Unary) {u : Term} → Head u → Fits (un o u)
  unfolding law_at rewrite
  fits-un Priority (an c) = by 30 refl tt
  fits-un Priority (pre c u) = by 31 refl tt
  fits-un Priority (add u v) = by 32 refl tt
  fits-un (Encapsulation h) (an c) = pick (blocked t h c) refl
    where
      pick : (b : Bool) → blocked t h c ≡ b → Fits (un (Encapsulation h) (act c))
      pick true e = by 21 refl (rw e tt)
      pick false e = by 20 refl (rw e tt)
  fits-un (Encapsulation h) (pre c u) = by 23 refl tt
  fits-un (Encapsulation h) (add u v) = by 22 refl tt

  fits-left : {u : Term} (v : Term) → Head u → Fits (bin LeftMerge u v)
  unfolding law_at rewrite
  fits-left v (an c) = by 12 refl tt
  fits-left v (pre c u) = by 13 refl tt
  fits-left v (add u w) = by 14 refl tt

  fits-communication : {u v : Term} → Head u → Head v → Fits (bin CommunicationMerge u v)
  unfolding law_at rewrite
  fits-communication (an c) (an d) = by 10 refl tt
  fits-communication (an c) (pre d v) = by 16 refl tt
  fits-communication (pre c u) (an d) = by 15 refl tt
  fits-communication (pre c u) (pre d v) = by 17 refl tt
  fits-communication (add u r) (an d) = by 18 refl tt
  fits-communication (add u r) (pre d v) = by 18 refl tt
  fits-communication (an c) (add v w) = by 19 refl tt
  fits-communication (pre c u) (add v w) = by 19 refl tt
  fits-communication (add u r) (add v w) = by 18 refl tt

  fits-unless : {u v : Term} → Head u → Head v → Fits (bin Unless u v)
  unfolding law_at rewrite
  fits-unless (an c) (an d) = pick (below t c d) refl
    where
      pick : (b : Bool) → below t c d ≡ b → Fits (bin Unless (act c) (act d))
      pick true e = by 25 refl (rw e tt)
      pick false e = by 24 refl (rw e tt)
  fits-unless (pre c u) (an d) = by 28 refl tt
  fits-unless (add u r) (an d) = by 29 refl tt
  fits-unless h (pre d v) = by 26 refl tt
  fits-unless h (add v w) = by 27 refl tt

  -- on basic terms an operator at which no law fits makes a basic term
  basic_choice : (u v : Term) → Basic u → Basic v → Still (bin Choice u v) → Basic (bin Choice u v)
  unfolding law_at rewrite
  basic_choice u v dead_stop q e = clash (bin Choice (act 0) v) e (by 8 refl tt)
  basic_choice u v (sum_plan p) dead_stop e = clash (bin Choice u (act 0)) e (by 7 refl tt)
  basic_choice u v (sum_plan p) (sum_plan q) e = sum_plan (sum p q)

  basic_sequence : (u v : Term) → Basic u → Basic v → Still (bin Sequence u v) → Basic (bin Sequence u v)
  unfolding law_at rewrite
  basic_sequence u v dead_stop q e = clash (bin Sequence (act 0) v) e (by 9 refl tt)
  basic_sequence u v (sum_plan (action h)) q e = sum_plan (prefix h q)
  basic_sequence u v (sum_plan (prefix {a = c} {u = w} h p)) q e = clash (bin Sequence (bin Sequence (act c) w) v) e (by 6 refl tt)
  basic_sequence u v (sum_plan (sum {u = r} {v = w} p o)) q e = clash (bin Sequence (bin Choice r w) v) e (by 5 refl tt)

  basic-bin : (o : Binary) (u v : Term) → Basic u → Basic v → Still (bin o u v) → Basic (bin o u v)
  unfolding law_at rewrite
  basic-bin Choice u v p q e = basic_choice u v p q e
  basic-bin Sequence u v p q e = basic_sequence u v p q e
  basic-bin Merge u v p q e = clash (bin Merge u v) e (by 11 refl tt)
  basic-bin LeftMerge u v p q e = clash (bin LeftMerge u v) e (fits-left v (head p))
  basic-bin CommunicationMerge u v p q e = clash (bin CommunicationMerge u v) e (fits-communication (head p) (head q))
  basic-bin Unless u v p q e = clash (bin Unless u v) e (fits-unless (head p) (head q))

  pub still_basic : (u : Term) → Everywhere Still u → Basic u
  still_basic (act zero) e = dead_stop
  still_basic (act (suc c)) e = sum_plan (action {a = suc c} (omega arith))
  still_basic (un o u) e = clash (un o u) e.0 (fits-un o (head (still_basic u e.1)))
  still_basic (bin o u v) e = basic-bin o u v (still_basic u e.1) (still_basic v e.2) e.0

  -- and back: what the first law of a list that fits makes of a term is computed, and is none
  unfoldable first : List Law → Term → Option Term
  first [] u = none
  first (l ∷ ls) u = or_else (rewrite t l u) (first ls u)

  abbrev NoneFits : Term → Type 0
  NoneFits u = first (drop 4 laws) u ≡ none

  nth_none : (ls : List Law) (u : Term) → first ls u ≡ none → (k : ℕ) → rewrite t (nth ls k) u ≡ none
  unfolding first rewrite
  nth_none [] u e k = refl
  nth_none (l ∷ ls) u e zero = pick (rewrite t l u) e
    where
      pick : (m : Option Term) → or_else m (first ls u) ≡ none → m ≡ none
      pick none e = refl
      pick (some v) e = e
  nth_none (l ∷ ls) u e (suc k) = pick (rewrite t l u) e (λ i. nth_none ls u i k)
    where
      pick : (m : Option Term) → or_else m (first ls u) ≡ none → (first ls u ≡ none → rewrite t (nth ls k) u ≡ none) → rewrite t (nth ls k) u ≡ none
      pick none e f = f e
      pick (some v) e f = never (sym e)

  still : (u : Term) → NoneFits u → Still u
  unfolding law_at
  still u e k h i =
      let j = k - first_choice in
      let l : suc (suc (suc (suc (suc j)))) ≡ k = omega arith in
      subst (λ k. rewrite t (law_at k) u ≡ none) l (nth_none (drop 4 laws) u e j)

  sum_none : {u v : Term} → SumPlan u → SumPlan v → NoneFits (bin Choice u v)
  unfolding first laws rewrite
  sum_none (action {a = c} h) (action {a = d} i) = rw (ne_eqb c 0 (omega arith), ne_eqb d 0 (omega arith)) refl
  sum_none (action {a = c} h) (prefix i b) = rw (ne_eqb c 0 (omega arith)) refl
  sum_none (action {a = c} h) (sum q o) = rw (ne_eqb c 0 (omega arith)) refl
  sum_none (prefix h a) (action {a = d} i) = rw (ne_eqb d 0 (omega arith)) refl
  sum_none (prefix h a) (prefix i b) = refl
  sum_none (prefix h a) (sum q o) = refl
  sum_none (sum p r) (action {a = d} i) = rw (ne_eqb d 0 (omega arith)) refl
  sum_none (sum p r) (prefix i b) = refl
  sum_none (sum p r) (sum q o) = refl

  mutual
    unfolding first laws rewrite

    pub basic_still : (u : Term) → Basic u → Everywhere Still u
    basic_still u dead_stop = still (act 0) refl
    basic_still u (sum_plan p) = sum_still u p

    sum_still : (u : Term) → SumPlan u → Everywhere Still u
    sum_still u (action {a = c} h) = still (act c) refl
    sum_still u (prefix {a = c} {u = v} h b) = (still (bin Sequence (act c) v) (rw (ne_eqb c 0 (omega arith)) refl), still (act c) refl, basic_still v b)
    sum_still u (sum {u = x} {v = y} p q) = (still (bin Choice x y) (sum_none p q), sum_still x p, sum_still y q)

-- a step at a place, by the subplan there
unmade : {A : Type 0} (m : Option Term) (f : Term → A) → and_then m (λ v. some (f v)) ≡ none → m ≡ none
unmade none f e = refl
unmade (some v) f e = never (sym e)

module _ (t : Tables) (k p : ℕ) (ws : List ℕ) where
  still_at : (u : Term) → subterm (actions t) ws p ≡ some u → step t k p ws ≡ none → rewrite t (law_at k) u ≡ none
  unfolding step
  still_at u i e = unmade (rewrite t (law_at k) u) (replace ws p u) (rw i at e)

  none_at : ((u : Term) → subterm (actions t) ws p ≡ some u → rewrite t (law_at k) u ≡ none) → step t k p ws ≡ none
  unfolding step
  none_at f = pick (subterm (actions t) ws p) refl
    where
      pick : (m : Option Term) → subterm (actions t) ws p ≡ m → and_then m (λ u. and_then (rewrite t (law_at k) u) (λ v. some (replace ws p u v))) ≡ none
      pick none i = refl
      pick (some u) i = rw (f u i) refl

-- "basic goes by the words": none of laws 5 to 32 fits at any place of a plan exactly when it is basic
pub no_step_iff_basic : (t : Tables) → actions t ≤ 31 → (ws : List ℕ) (x : Term) → term_of (actions t) ws ≡ some x
    → ((p k : ℕ) → p < length ws → first_choice ≤ k → k ≤ highest_law → step t k p ws ≡ none) ↔ Basic x
no_step_iff_basic t few ws x e = (
  λ f. still_basic t x (places_everywhere (Still t) (actions t) few ws (λ p h u i k l m. still_at t k p ws u i (f p k h l m)) x e),
  λ b p k h l m. none_at t k p ws (λ u i. everywhere_places (Still t) (actions t) ws x e (basic_still t x b) p u i k l m),
)
