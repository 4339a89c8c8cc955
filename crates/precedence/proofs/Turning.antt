-- One turn of the pass: what each kind of word leaves.
use Rattle.std.specs.Prelude.{Some, None, Option as Maybe}
use Prim.Native.Nat.{ℕ, suc, ◌-◌, ◌≤◌, ◌<◌}
use native.Mathlib.Omega.{arith}
use mathlib.Core.Path.{◌≡◌, refl, ap, sym, ◌∙◌}
use mathlib.Core.Bool.{Bool, false, cond, ◌||◌}
use mathlib.Core.List.{List}
use mathlib.Core.Option.{none}
use lib.Dec.{eqb}
use lib.ListN.{length, get_or, set, length-set}
use borrow.Author.Tests.{ne_eqb}
use Rattle.areas.specs.Area.{most_words}
use Rattle.plans.proofs.Accepted.{accepted-length}
use Rattle.plans.specs.Judging.{words_refusal}
use Rattle.paths.specs.Operands.{first_operand, second_operand}
use Rattle.paths.proofs.Starting.{Before, before-sum, before-product}
use Rattle.precedence.specs.Pass.{hand_on, early?, pass, Passing, Looked}

-- an accepted plan has at most 16,384 words
pub short : (n : ℕ) (plan : List ℕ) → n ≤ 31 → words_refusal n plan ≡ none → length plan ≤ most_words
short n plan few accepted = accepted-length n few plan accepted

module _ {n : ℕ} {plan starts : List ℕ} {seen : List Bool} (h : Passing n plan starts seen) (i : ℕ) where
  -- the operands of an operator at a word of the plan
  pub sum_at : i < length plan → get_or plan i 0 ≡ 64 → Before n plan starts i
  sum_at inside e = before-sum h.few h.accepted h.starts_right i inside e

  pub product_at : i < length plan → get_or plan i 0 ≡ 65 → Before n plan starts i
  product_at inside e = before-product h.few h.accepted h.starts_right i inside e

  pub reached : i < length plan → i < most_words
  reached inside = let few_words = accepted-length n h.few plan h.accepted in omega arith

  -- what each kind of word leaves
  module _ (first second : ℕ) (small : second ≤ n) where
    no_action : (k : ℕ) → 64 ≤ k → get_or plan i 0 ≡ k → early? n plan first second i seen ≡ false
    no_action k l e = rw (e, ne_eqb k second (λ q. omega (arith, h.few))) refl

    module _ {left right : ℕ} (p : left ≡ first_operand n plan i) (q : right ≡ second_operand i) where
      pub looked-sum : get_or plan i 0 ≡ 64 → Looked n plan first second i seen (set (set seen right (get_or seen i false)) left (get_or seen i false)) false
      unfolding hand_on
      looked-sum e = record { same_length = simp length-set; handed = rw (e, p, q) refl; early = sym (no_action 64 (omega arith) e) }

      pub looked-product : get_or plan i 0 ≡ 65 → {told : Bool} → told ≡ get_or seen i false || eqb (get_or plan left 0) first
          → Looked n plan first second i seen (set (set seen left (get_or seen i false)) right told) false
      unfolding hand_on
      looked-product e d = record { same_length = simp length-set; handed = rw (e, ← p, q, d) refl; early = sym (no_action 65 (omega arith) e) }

    pub looked-action : (get_or plan i 0 ≡ 64 → ⊥) → (get_or plan i 0 ≡ 65 → ⊥) → {r : Bool} → r ≡ early? n plan first second i seen
        → Looked n plan first second i seen seen r
    unfolding hand_on
    looked-action d e q = record { same_length = refl; handed = rw (ne_eqb (get_or plan i 0) 64 d, ne_eqb (get_or plan i 0) 65 e) refl; early = q }

-- The head of the loop, where i words are left.
pub record Left (n : ℕ) (plan starts : List ℕ) (first second : ℕ) (seen₀ seen : List Bool) (at : Maybe ℕ) (i : ℕ) : Type 0 where
  pub given : Passing n plan starts seen
  pub same : pass n plan first second i seen at ≡ pass n plan first second (length plan) seen₀ None

module _ {n : ℕ} {plan starts : List ℕ} {first second : ℕ} {seen₀ seen : List Bool} {at : Maybe ℕ} {i : ℕ} (h : Left n plan starts first second seen₀ seen at i) where
  -- no word is left
  pub left_none : i ≤ 0 → at ≡ pass n plan first second (length plan) seen₀ None
  unfolding pass
  left_none l = let z : 0 ≡ i = omega arith in ap (λ j. pass n plan first second j seen at) z ∙ h.same

  -- one word more
  pub left-more : 0 < i → {seen' : List Bool} {r b : Bool} → Looked n plan first second (i - 1) seen seen' r → r ≡ b
      → Left n plan starts first second seen₀ seen' (cond b (Some (i - 1)) at) (i - 1)
  unfolding pass
  left-more l {seen'} {r} {b} k q =
      let g = h.given in
      record {
        given = record { few = g.few; accepted = g.accepted; starts_right = g.starts_right; starts_long = g.starts_long; seen_long = k.same_length ∙ g.seen_long };
        same = turned ∙ (ap (λ j. pass n plan first second j seen at) last ∙ h.same);
      }
    where
      last : suc (i - 1) ≡ i
      last = omega arith

      turned : pass n plan first second (i - 1) seen' (cond b (Some (i - 1)) at) ≡ pass n plan first second (suc (i - 1)) seen at
      turned = rw (k.handed, ← q, k.early) refl
