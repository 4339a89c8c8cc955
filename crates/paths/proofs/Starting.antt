-- One word more: it finds its operands among the starts of the words before it, and its own start is the one that the contract says. And by the starts of
-- all words, where the operands of an operator stand.
use Prim.Native.Nat.{ℕ, suc, ◌-◌, ◌≤◌, ◌<◌}
use native.Mathlib.Omega.{arith}
use mathlib.Core.Path.{◌≡◌, refl, sym, ap, ◌∙◌, subst}
use mathlib.Core.Bool.{Bool, true, false}
use mathlib.Core.List.{List, [], ◌∷◌, ◌++◌}
use mathlib.Core.Option.{none}
use lib.Dec.{eqb}
use lib.ListN.{length, get_or, set, take}
use lib.Seq.{take-suc, length-take-le, get_or-set_same, get_or-set_other}
use borrow.Author.Tests.{eqb-true, eqb-false}
use Rattle.plans.specs.declared.Binary.{Binary}
use Rattle.plans.specs.declared.Binary.TheVariants.{Choice, Sequence}
use Rattle.plans.specs.declared.Word.TheVariants.{Two}
use Rattle.plans.specs.Word.{binary_word, word_of}
use Rattle.plans.specs.Judging.{words_refusal}
use Rattle.plans.specs.Start.{start_of, start_next, Operands}
use Rattle.plans.proofs.Words.{word_binary}
use Rattle.plans.proofs.Accepted.{accepted-term}
use Rattle.plans.proofs.Place.{stack_at}
use Rattle.plans.proofs.Start.{start-take}
use Rattle.plans.proofs.Starts.{Begun, begun, next_operands, next_start}
use Rattle.paths.specs.Operands.{first_operand, Starts}

-- the starts of the first i words
abbrev pub First : ℕ → List ℕ → List ℕ → ℕ → Type 0
First n plan starts i = (k : ℕ) → k < i → get_or starts k 0 ≡ start_of n plan k

module _ (n : ℕ) (few : n ≤ 31) (plan : List ℕ) (accepted : words_refusal n plan ≡ none) (i : ℕ) (inside : i < length plan) (starts : List ℕ) (known : First n plan starts i) where
  size : length (take i plan) ≡ i
  size = length-take-le i plan (omega arith)

  here : Begun n (take i plan) (start_of n (take i plan ++ (get_or plan i 0 ∷ [])) (length (take i plan))) (word_of n (get_or plan i 0))
  here =
      let u = accepted-term n few plan accepted in
      let s = stack_at n plan u.0 u.1 (suc i) in
      begun n few (take i plan) (get_or plan i 0) s.0 (rw (take-suc plan i 0 inside) at s.1)

  before : (k : ℕ) → k < length (take i plan) → get_or starts k 0 ≡ start_of n (take i plan) k
  before k h = let l : k < i = omega (arith, size) in known k l ∙ sym (start-take n plan i k (omega arith) l)

  pub operands_there : Operands (word_of n (get_or plan i 0)) starts i
  operands_there = subst (λ j. Operands (word_of n (get_or plan i 0)) starts j) size (next_operands n (take i plan) starts before here)

  pub start-there : start_next (word_of n (get_or plan i 0)) starts i ≡ start_of n plan i
  start-there =
      subst (λ j. start_next (word_of n (get_or plan i 0)) starts j ≡ start_of n (take i plan ++ (get_or plan i 0 ∷ [])) j) size (next_start n (take i plan) starts before here)
      ∙ (ap (λ l. start_of n l i) (sym (take-suc plan i 0 inside)) ∙ start-take n plan (suc i) i (omega arith) (omega arith))

  -- and so the starts of one word more
  pub first_more : i < length starts → (x : ℕ) → x ≡ start_next (word_of n (get_or plan i 0)) starts i → First n plan (set starts i x) (suc i)
  first_more room x e k h = go (eqb k i) refl
    where
      other : (k ≡ i → ⊥) → k < i
      other f = omega arith

      go : (b : Bool) → eqb k i ≡ b → get_or (set starts i x) k 0 ≡ start_of n plan k
      go true q = rw (eqb-true k i q, get_or-set_same starts i x 0 room) (e ∙ start-there)
      go false q = rw (get_or-set_other starts i k x 0 (eqb-false k i q)) (known k (other (eqb-false k i q)))

-- an operator of two at word i has its operands before it, and the starts tell where
pub record Before (n : ℕ) (plan starts : List ℕ) (i : ℕ) : Type 0 where
  pub some_word : 1 ≤ i
  pub some_start : 1 ≤ get_or starts (i - 1) 0
  pub start-before : get_or starts (i - 1) 0 < i
  pub first-there : get_or starts (i - 1) 0 - 1 ≡ first_operand n plan i

module _ {n : ℕ} (few : n ≤ 31) {plan : List ℕ} (accepted : words_refusal n plan ≡ none) {starts : List ℕ} (right : Starts n plan starts) (i : ℕ) (inside : i < length plan) where
  operands_before : (o : Binary) → get_or plan i 0 ≡ binary_word o → Before n plan starts i
  unfolding first_operand
  operands_before o e =
      let k : Operands (Two o) starts i = subst (λ w. Operands w starts i) (ap (word_of n) e ∙ word_binary n few o) (operands_there n few plan accepted i inside starts (λ k l. right k (omega arith))) in
      record { some_word = k.0; some_start = k.1; start-before = k.2; first-there = ap (λ s. s - 1) (right (i - 1) (omega arith)) }

  pub before-sum : get_or plan i 0 ≡ 64 → Before n plan starts i
  unfolding binary_word
  before-sum e = operands_before Choice e

  pub before-product : get_or plan i 0 ≡ 65 → Before n plan starts i
  unfolding binary_word
  before-product e = operands_before Sequence e
