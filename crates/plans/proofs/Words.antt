-- How a byte and what it is read as determine each other.
use Prim.Native.Nat.{ℕ, ◌+◌, ◌-◌, ◌≤◌, ◌<◌}
use native.Mathlib.Omega.{arith}
use mathlib.Core.Path.{◌≡◌, refl, sym, ap}
use mathlib.Core.Bool.{Bool, true, false, cond, ◌&&◌, and-false, and-eq-true_iff}
use lib.Dec.{eqb, leb}
use borrow.Author.Tests.{eqb-true, leb-true, le-leb, lt-leb, ne_eqb}
use Rattle.plans.specs.declared.Binary.{Binary}
use Rattle.plans.specs.declared.Binary.TheVariants.{Choice, Sequence, Merge, LeftMerge, CommunicationMerge, Unless}
use Rattle.plans.specs.declared.Unary.{Unary}
use Rattle.plans.specs.declared.Unary.TheVariants.{Priority, Encapsulation}
use Rattle.plans.specs.declared.Word.{Word}
use Rattle.plans.specs.declared.Word.TheVariants.{Action, One, Two, NoWord}
use Rattle.plans.specs.Word.{binary_word, unary_word, sign_of, word_of, operands_of, takes_two?}
use Rattle.plans.specs.Term.{SetNumber}

-- tests of ranges
module _ (low high w : ℕ) where
  pub over_range : high < w → leb low w && leb w high ≡ false
  over_range h = rw (lt-leb w high h) (and-false (leb low w))

  in_range : low ≤ w → w ≤ high → leb low w && leb w high ≡ true
  in_range h l = rw (le-leb low w h, le-leb w high l) refl

-- the bytes of the operators
pub binary_range : (o : Binary) → (64 ≤ binary_word o) × (binary_word o ≤ 69)
unfolding binary_word
binary_range Choice = omega arith
binary_range Sequence = omega arith
binary_range Merge = omega arith
binary_range LeftMerge = omega arith
binary_range CommunicationMerge = omega arith
binary_range Unless = omega arith

pub unary_low : (o : Unary) → 70 ≤ unary_word o
unfolding unary_word
unary_low Priority = omega arith
unary_low (Encapsulation h) = omega arith

sign_binary : (o : Binary) → sign_of (binary_word o) ≡ Two o
unfolding sign_of binary_word
sign_binary Choice = refl
sign_binary Sequence = refl
sign_binary Merge = refl
sign_binary LeftMerge = refl
sign_binary CommunicationMerge = refl
sign_binary Unless = refl

-- a byte above the binary operators' is read by the last two tests
sign_high : (w : ℕ) → 70 ≤ w → sign_of w ≡ cond (eqb w 70) (One Priority) (cond (leb 80 w && leb w 87) (One (Encapsulation (w - 80))) NoWord)
unfolding sign_of
sign_high w h =
    rw (ne_eqb w 64 (λ e. omega arith), ne_eqb w 65 (λ e. omega arith), ne_eqb w 66 (λ e. omega arith), ne_eqb w 67 (λ e. omega arith), ne_eqb w 68 (λ e. omega arith), ne_eqb w 69 (λ e. omega arith)) refl

sign_unary : (o : Unary) → SetNumber o → sign_of (unary_word o) ≡ One o
unfolding sign_of unary_word
sign_unary Priority k = refl
sign_unary (Encapsulation h) k =
    rw (sign_high (80 + h) (omega arith), ne_eqb (80 + h) 70 (λ e. omega arith), in_range 80 87 (80 + h) (omega arith) (omega arith))
    (ap (λ m. One (Encapsulation m)) (omega arith))

module _ (n : ℕ) (few : n ≤ 31) where
  -- each operator and each action is read from its byte
  pub word-action : (a : ℕ) → a ≤ n → word_of n a ≡ Action a
  unfolding word_of
  word-action a h = rw (le-leb a n h) refl

  pub word_unary : (o : Unary) → SetNumber o → word_of n (unary_word o) ≡ One o
  unfolding word_of
  word_unary o k = rw (lt-leb (unary_word o) n (omega (arith, unary_low o))) (sign_unary o k)

  pub word_binary : (o : Binary) → word_of n (binary_word o) ≡ Two o
  unfolding word_of
  word_binary o = rw (lt-leb (binary_word o) n (omega (arith, binary_range o))) (sign_binary o)

-- how many operands the bytes of each range take
module _ (w : ℕ) where
  pub operands_action : w ≤ 31 → operands_of w ≡ 0
  unfolding operands_of
  operands_action h = rw (le-leb w 31 h) refl

  pub operands_two : 64 ≤ w → w ≤ 69 → operands_of w ≡ 2
  unfolding operands_of
  operands_two h l = rw (lt-leb w 31 (omega arith), in_range 64 69 w h l) refl

  pub operands_set : 80 ≤ w → w ≤ 87 → operands_of w ≡ 1
  unfolding operands_of
  operands_set h l =
      rw (lt-leb w 31 (omega arith), over_range 64 69 w (omega arith), ne_eqb w 70 (λ e. omega arith), in_range 80 87 w h l) refl

-- and the operators
pub operands_unary : (o : Unary) → SetNumber o → operands_of (unary_word o) ≡ 1
unfolding operands_of unary_word
operands_unary Priority k = refl
operands_unary (Encapsulation h) k = operands_set (80 + h) (omega arith) (omega arith)

pub operands_binary : (o : Binary) → operands_of (binary_word o) ≡ 2
operands_binary o = operands_two (binary_word o) (binary_range o).0 (binary_range o).1

-- and whether it takes two
pub two_unary : (o : Unary) → SetNumber o → takes_two? (unary_word o) ≡ false
unfolding takes_two?
two_unary o k = rw (operands_unary o k)

pub two_binary : (o : Binary) → takes_two? (binary_word o) ≡ true
unfolding takes_two?
two_binary o = rw (operands_binary o)

-- what a byte that is read as an operator or an action must be
pub data Spelled (n w : ℕ) : Word → Type 0 where
  is_action : w ≤ n → Spelled n w (Action w)
  is_one : (o : Unary) → unary_word o ≡ w → SetNumber o → Spelled n w (One o)
  is_two : (o : Binary) → binary_word o ≡ w → Spelled n w (Two o)
  is_none : Spelled n w NoWord

module _ (n w : ℕ) where
  choose : (c : Bool) (k l : Word) → (c ≡ true → Spelled n w k) → Spelled n w l → Spelled n w (cond c k l)
  choose true k l f g = f refl
  choose false k l f g = g

  encapsulation : leb 80 w && leb w 87 ≡ true → Spelled n w (One (Encapsulation (w - 80)))
  unfolding unary_word
  encapsulation e =
      let i = (and-eq-true_iff (leb 80 w) _).0 e in
      let low = leb-true 80 w i.0 in
      let high = leb-true w 87 i.1 in is_one (Encapsulation (w - 80)) (omega arith) (omega arith)

  -- a byte is spelled as it is read
  pub spelled : Spelled n w (word_of n w)
  unfolding word_of sign_of unary_word binary_word
  spelled =
      choose (leb w n) _ _ (λ e. is_action (leb-true w n e))
      (choose (eqb w 64) _ _ (λ e. is_two Choice (sym (eqb-true w 64 e)))
      (choose (eqb w 65) _ _ (λ e. is_two Sequence (sym (eqb-true w 65 e)))
      (choose (eqb w 66) _ _ (λ e. is_two Merge (sym (eqb-true w 66 e)))
      (choose (eqb w 67) _ _ (λ e. is_two LeftMerge (sym (eqb-true w 67 e)))
      (choose (eqb w 68) _ _ (λ e. is_two CommunicationMerge (sym (eqb-true w 68 e)))
      (choose (eqb w 69) _ _ (λ e. is_two Unless (sym (eqb-true w 69 e)))
      (choose (eqb w 70) _ _ (λ e. is_one Priority (sym (eqb-true w 70 e)) tt) (choose (leb 80 w && leb w 87) _ _ encapsulation is_none))))))))
