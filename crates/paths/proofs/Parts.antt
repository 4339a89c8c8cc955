-- The subplans of a basic plan: each has its place, and at each place stands one.
use Prim.Native.Nat.{ℕ, ◌+◌, ◌≤◌, ◌<◌}
use native.Mathlib.Numerals.{add-one}
use native.Mathlib.Omega.{arith}
use mathlib.Core.Path.{◌≡◌, refl, ap, sym, ◌∙◌, subst}
use mathlib.Core.Bool.{Bool, true, false}
use mathlib.Core.List.{List}
use mathlib.Core.Option.{some, some-injective}
use lib.Dec.{leb}
use lib.ListN.{length}
use borrow.Author.Tests.{leb-true, leb-false}
use Rattle.plans.specs.declared.Binary.{Binary}
use Rattle.plans.specs.declared.Binary.TheVariants.{Sequence}
use Rattle.plans.specs.Term.{Term, act, bin, words, term_of}
use Rattle.plans.specs.Place.{subterm}
use Rattle.plans.specs.Basic.{Basic, dead_stop, sum_plan, SumPlan, action, prefix, sum}
use Rattle.plans.proofs.Accepted.{words_some}
use Rattle.plans.proofs.Place.{subterm-inside}
use Rattle.plans.proofs.Reading.{term-said}
use Rattle.paths.specs.Subplans.{place_of, subplan, Transition, goes, left, right}
use Rattle.paths.proofs.Standing.{Standing, size-bin, standing_whole, standing_first, standing_second, standing_subterm}

-- v is a subplan of u: u starts at word s, v at word r
pub data Part : ℕ → Term → ℕ → Term → Type 0 where
  whole : {s : ℕ} {u : Term} → Part s u s u
  first : {s r : ℕ} {o : Binary} {x y v : Term} → Part s x r v → Part s (bin o x y) r v
  second : {s r : ℕ} {o : Binary} {x y v : Term} → Part (s + length (words x)) y r v → Part s (bin o x y) r v

pub part-inside : {s r : ℕ} {u v : Term} → Part s u r v → (s ≤ r) × (r + length (words v) ≤ s + length (words u))
part-inside whole = omega arith
part-inside (first {o = o} {x = x} {y = y} p) = let h = part-inside p in omega (arith, size-bin o x y)
part-inside (second {o = o} {x = x} {y = y} p) = let h = part-inside p in omega (arith, size-bin o x y)

-- only the whole ends at the last word
pub part-last : {s r : ℕ} {u v : Term} → Part s u r v → (P : ℕ → Term → Type 0) → P r v → place_of r v ≡ place_of s u → P s u
part-last whole P h e = h
part-last (first {o = o} {x = x} {y = y} {v = v} p) P h e = let i = part-inside p in absurd (omega (arith, size-bin o x y, words_some v))
part-last (second {o = o} {x = x} {y = y} {v = v} p) P h e = let i = part-inside p in absurd (omega (arith, size-bin o x y, words_some v))

pub part_standing : {n : ℕ} (few : n ≤ 31) {plan : List ℕ} {s r : ℕ} {u v : Term} → Part s u r v → Standing n plan s u → Standing n plan r v
part_standing few whole k = k
part_standing few (first p) k = part_standing few p (standing_first few k)
part_standing few (second p) k = part_standing few p (standing_second few k)

-- the parts of a basic plan are basic
pub part-basic : {s r : ℕ} {u v : Term} → Part s u r v → Basic u → Basic v
part-basic whole b = b
part-basic (first p) (sum_plan (prefix l b)) = part-basic p (sum_plan (action l))
part-basic (first p) (sum_plan (sum b c)) = part-basic p (sum_plan b)
part-basic (second p) (sum_plan (prefix l b)) = part-basic p b
part-basic (second p) (sum_plan (sum b c)) = part-basic p (sum_plan c)

-- a part of a part
pub part_trans : {s r q : ℕ} {u v w : Term} → Part s u r v → Part r v q w → Part s u q w
part_trans whole p = p
part_trans (first i) p = first (part_trans i p)
part_trans (second i) p = second (part_trans i p)

-- what a transition leads to is a part
pub transition_part : {m s r : ℕ} {u v : Term} → Transition m s u (subplan r v) → Part s u r v
unfolding words
transition_part {m} (goes {s = s} {y = y}) = subst (λ k. Part s (bin Sequence (act m) y) k y) (add-one s) (second whole)
transition_part (left i) = first (transition_part i)
transition_part (right i) = second (transition_part i)

-- each place has its part
abbrev pub Placed : ℕ → Term → ℕ → Type 0
Placed s u k = (r : ℕ) × (v : Term) × Part s u r v × (place_of r v ≡ k)

module _ {s : ℕ} {o : Binary} {x y : Term} where
  placed_both : (k : ℕ) → s ≤ k → k < s + length (words (bin o x y)) → (k < s + length (words x) → Placed s x k)
      → (s + length (words x) ≤ k → k < s + length (words x) + length (words y) → Placed (s + length (words x)) y k) → Placed s (bin o x y) k
  placed_both k low high f g = go (leb (s + length (words x)) k) refl (leb (s + length (words x) + length (words y)) k) refl
    where
      in_first : Placed s x k → Placed s (bin o x y) k
      in_first (r, v, p, e) = (r, v, first p, e)

      in_second : Placed (s + length (words x)) y k → Placed s (bin o x y) k
      in_second (r, v, p, e) = (r, v, second p, e)

      go : (b : Bool) → leb (s + length (words x)) k ≡ b → (c : Bool) → leb (s + length (words x) + length (words y)) k ≡ c → Placed s (bin o x y) k
      go false d c e = in_first (f (leb-false _ _ d))
      go true d true e = let h = leb-true (s + length (words x) + length (words y)) k e in (s, bin o x y, whole, omega (arith, size-bin o x y))
      go true d false e = in_second (g (leb-true _ _ d) (leb-false _ _ e))

placed_action : {s a k : ℕ} → s ≤ k → k < s + length (words (act a)) → Placed s (act a) k
unfolding words
placed_action {s} {a} low high = (s, act a, whole, omega arith)

mutual
  pub placed : {u : Term} → Basic u → (s k : ℕ) → s ≤ k → k < s + length (words u) → Placed s u k
  placed dead_stop s k low high = placed_action low high
  placed (sum_plan b) s k low high = placed_sum b s k low high

  placed_sum : {u : Term} → SumPlan u → (s k : ℕ) → s ≤ k → k < s + length (words u) → Placed s u k
  placed_sum (action l) s k low high = placed_action low high
  placed_sum (prefix {a = a} {u = y} l b) s k low high =
      placed_both k low high (λ h. placed_action low h) (λ h i. placed b (s + length (words (act a))) k h i)
  placed_sum (sum {u = x} {v = y} b c) s k low high =
      placed_both k low high (λ h. placed_sum b s k low h) (λ h i. placed_sum c (s + length (words x)) k h i)

-- a subplan's place and term give its start
pub same_start : (s r : ℕ) (v : Term) → place_of s v ≡ place_of r v → s ≡ r
same_start s r v h = omega (arith, words_some v)

-- a subplan as `subterm` has it is a part, and the other way round
module _ (n : ℕ) (few : n ≤ 31) (plan : List ℕ) (u : Term) (basic : Basic u) (e : term_of n plan ≡ some u) where
  pub plan_size : length (words u) ≡ length plan
  plan_size = ap length (term-said n plan u e).0

  pub part-subterm : {r : ℕ} {v : Term} → Part 0 u r v → subterm n plan (place_of r v) ≡ some v
  part-subterm p = standing_subterm few (part_standing few p (standing_whole n plan u e))

  pub part_at : (k : ℕ) → k < length plan → Placed 0 u k
  part_at k h = placed basic 0 k (omega arith) (omega (arith, plan_size))

  pub subterm-part : (k : ℕ) (v : Term) → subterm n plan k ≡ some v → (r : ℕ) × Part 0 u r v × (place_of r v ≡ k)
  subterm-part k v d = go (part_at k (subterm-inside n plan k v d))
    where
      go : Placed 0 u k → (r : ℕ) × Part 0 u r v × (place_of r v ≡ k)
      go (r, w, p, q) = let f : w ≡ v = some-injective _ _ (sym (part-subterm p) ∙ (ap (subterm n plan) q ∙ d)) in (r, rw (← f) p, rw (← f) q)

  pub subterm-part_at : (s : ℕ) (v : Term) → subterm n plan (place_of s v) ≡ some v → Part 0 u s v
  subterm-part_at s v d = let r = subterm-part (place_of s v) v d in subst (λ k. Part 0 u k v) (same_start r.0 s v r.2) r.1
