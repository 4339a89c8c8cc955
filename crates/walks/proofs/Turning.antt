-- One turn of a pass: what each kind of word leaves.
use Prim.Native.Nat.{ℕ, suc, ◌+◌, ◌-◌, ◌≤◌, ◌<◌}
use native.Mathlib.Omega.{arith}
use mathlib.Core.Path.{◌≡◌, refl, ap, ap₂, sym, ◌∙◌}
use mathlib.Core.Bool.{Bool, true, false, cond, ◌||◌}
use mathlib.Core.List.{List, [], ◌∷◌}
use mathlib.Core.Option.{none}
use lib.Dec.{eqb}
use lib.ListN.{length, get_or, set, take, replicate, length-set}
use borrow.Author.Tests.{eq-eqb, ne_eqb, lt-ltb, le-ltb}
use Rattle.std.specs.List.{list_any}
use Rattle.areas.specs.Area.{most_words, overwrite}
use Rattle.areas.proofs.Area.{take-overwrite}
use Rattle.plans.proofs.Accepted.{accepted-length}
use Rattle.plans.specs.Judging.{words_refusal}
use Rattle.paths.specs.Operands.{first_operand, second_operand}
use Rattle.paths.proofs.Starting.{Before, before-sum, before-product}
use Rattle.walks.specs.Pass.{Pass, look, turn, pass, passed, marked?, some_mark}
use Rattle.walks.specs.Turns.{Found, Passing, Looked}

-- an accepted plan has at most 16,384 words
pub short : (n : ℕ) (plan : List ℕ) → n ≤ 31 → words_refusal n plan ≡ none → length plan ≤ most_words
short n plan few accepted = accepted-length n few plan accepted

module _ {n : ℕ} {plan starts left next : List ℕ} (h : Passing n plan starts left next) (i : ℕ) where
  -- the operands of an operator at a word of the plan
  pub sum_at : i < length plan → get_or plan i 0 ≡ 64 → Before n plan starts i
  sum_at inside e = before-sum h.few h.accepted h.starts_right i inside e

  pub product_at : i < length plan → get_or plan i 0 ≡ 65 → Before n plan starts i
  product_at inside e = before-product h.few h.accepted h.starts_right i inside e

  pub starts-reach : i < length plan → i ≤ length starts
  starts-reach inside = let few_words = accepted-length n h.few plan h.accepted in omega (arith, few_words, h.starts_long)

  -- what each kind of word leaves
  module _ (m : ℕ) where
    module _ {first second : ℕ} (p : first ≡ first_operand n plan i) (q : second ≡ second_operand i) where
      pub looked-sum : get_or plan i 0 ≡ 64 → Looked n plan m i left next (set (set left second 1) first 1) next false
      unfolding look
      looked-sum e = record { left_same = simp length-set; next_same = refl; looked = λ b. rw (e, p, q) refl }

      pub looked-product : get_or plan i 0 ≡ 65 → get_or plan first 0 ≡ m → Looked n plan m i left next left (set next second 1) false
      unfolding look
      looked-product e d = record { left_same = refl; next_same = simp length-set; looked = λ b. rw (e, ← p, q, eq-eqb (get_or plan first 0) m d) refl }

      pub looked_other : get_or plan i 0 ≡ 65 → (get_or plan first 0 ≡ m → ⊥) → Looked n plan m i left next left next false
      unfolding look
      looked_other e d = record { left_same = refl; next_same = refl; looked = λ b. rw (e, ← p, ne_eqb (get_or plan first 0) m d) refl }

    pub looked-action : (get_or plan i 0 ≡ 64 → ⊥) → (get_or plan i 0 ≡ 65 → ⊥) → Looked n plan m i left next left next (eqb (get_or plan i 0) m)
    unfolding look
    looked-action d e = record { left_same = refl; next_same = refl; looked = λ b. rw (ne_eqb (get_or plan i 0) 64 d, ne_eqb (get_or plan i 0) 65 e) (go (eqb (get_or plan i 0) m) b) }
      where
        go : (c b : Bool)
            → ◌≡◌ {A = Pass} (cond c (record { left = left; next = next; ending = true }) (record { left = left; next = next; ending = b })) (record { left = left; next = next; ending = c || b })
        go true b = refl
        go false b = refl

-- The head of the loop, where i words are left.
pub record Left (n : ℕ) (plan starts : List ℕ) (m : ℕ) (left₀ next₀ left next : List ℕ) (finishes : Bool) (i : ℕ) : Type 0 where
  pub given : Passing n plan starts left next
  pub same : pass n plan m i (record { left = left; next = next; ending = finishes }) ≡ pass n plan m (length plan) (record { left = left₀; next = next₀; ending = false })

or-comm : (a b : Bool) → a || b ≡ b || a
or-comm true true = refl
or-comm true false = refl
or-comm false true = refl
or-comm false false = refl

-- one word more
module _ (n : ℕ) (plan : List ℕ) (m i : ℕ) (left next : List ℕ) (e : Bool) where
  pass_unmarked : get_or left i 0 ≡ 0 → pass n plan m (suc i) (record { left = left; next = next; ending = e }) ≡ pass n plan m i (record { left = left; next = next; ending = e })
  unfolding pass turn
  pass_unmarked d = rw (le-ltb 0 (get_or left i 0) (omega arith)) refl

  pass-marked : (get_or left i 0 ≡ 0 → ⊥) → {left' next' : List ℕ} {r : Bool} → Looked n plan m i left next left' next' r
      → pass n plan m (suc i) (record { left = left; next = next; ending = e }) ≡ pass n plan m i (record { left = left'; next = next'; ending = e || r })
  unfolding pass turn
  pass-marked d {r = r} k = rw (lt-ltb 0 (get_or left i 0) (omega arith), k.looked e, or-comm r e) refl

module _ {n : ℕ} {plan starts : List ℕ} {m : ℕ} {left₀ next₀ left next : List ℕ} {e : Bool} {i : ℕ} (h : Left n plan starts m left₀ next₀ left next e i) where
  -- no word is left
  pub left_none : i ≤ 0 → record { left = left; next = next; ending = e } ≡ pass n plan m (length plan) (record { left = left₀; next = next₀; ending = false })
  unfolding pass
  left_none l =
      let z : 0 ≡ i = omega arith in
      ap (λ j. pass n plan m j (record { left = left; next = next; ending = e })) z ∙ h.same

  module _ (some_word : 0 < i) where
    onward : pass n plan m (suc (i - 1)) (record { left = left; next = next; ending = e }) ≡ pass n plan m (length plan) (record { left = left₀; next = next₀; ending = false })
    onward = let last : suc (i - 1) ≡ i = omega arith in ap (λ j. pass n plan m j (record { left = left; next = next; ending = e })) last ∙ h.same

    pub left_unmarked : get_or left (i - 1) 0 ≡ 0 → Left n plan starts m left₀ next₀ left next e (i - 1)
    left_unmarked d = record { given = h.given; same = sym (pass_unmarked n plan m (i - 1) left next e d) ∙ onward }

    pub left-marked : (get_or left (i - 1) 0 ≡ 0 → ⊥) → {left' next' : List ℕ} {r : Bool} → Looked n plan m (i - 1) left next left' next' r
        → Left n plan starts m left₀ next₀ left' next' (e || r) (i - 1)
    left-marked d k =
        let g = h.given in
        record {
          given = record { few = g.few; accepted = g.accepted; starts_right = g.starts_right; starts_long = g.starts_long; left_long = k.left_same ∙ g.left_long; next_long = k.next_same ∙ g.next_long };
          same = sym (pass-marked n plan m (i - 1) left next e d k) ∙ onward;
        }

-- some word is marked
pub some_mark_any : (l : List ℕ) → some_mark l ≡ list_any marked? l
unfolding some_mark
some_mark_any [] = refl
some_mark_any (b ∷ bs) = ap (λ r. marked? b || r) (some_mark_any bs)

-- the whole pass, from the marks and from none to be set
pub passed_as : {n : ℕ} {plan : List ℕ} {m : ℕ} {marks left next left' next' : List ℕ} {r : Bool} → left ≡ marks → next ≡ replicate (length plan) 0
    → record { left = left'; next = next'; ending = r } ≡ pass n plan m (length plan) (record { left = left; next = next; ending = false }) → length next' ≡ length plan
    → Found n plan m marks next' r
unfolding passed
passed_as {n} {plan} {m} d e k s =
    let whole = k ∙ ap₂ (λ l z. pass n plan m (length plan) (record { left = l; next = z; ending = false })) d e in
    record { next_found = ap (λ p. p.next) whole; ending_found = ap (λ p. p.ending) whole; next_long = s }

pub copied : (area words area' : List ℕ) → area' ≡ overwrite area 0 words → take (length words) area' ≡ words
copied area words area' e =
    let none_before : 0 + length words ≡ length words = omega arith in
    ap₂ take (sym none_before) e ∙ take-overwrite area 0 words (omega arith)
