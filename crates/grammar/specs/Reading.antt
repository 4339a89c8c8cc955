-- How a text is read, and at which place it is refused with 61 or 62. (Request 101.)
-- The grammar says the same without reading: a text is read exactly when it belongs to it within the limits, and refused at its first fault.
use Rattle.std.specs.Prelude.{ℕ, suc, ◌-◌, Bool, false, cond, List, [], ◌∷◌, ltb}
use Rattle.std.proofs.Math.Option.{Option, none, some}
use Rattle.plans.specs.declared.Word.{Word}
use Rattle.plans.specs.declared.Word.TheVariants.{Action, One, Two, NoWord}
use Rattle.plans.specs.Word.{binary_word, unary_word}
use Rattle.grammar.specs.Grammar.{deepest}
use Rattle.grammar.specs.States.{State, unit, digits, done, after_tee, after_aitch, after_set, after_first, after_sign, height, step, finish}

-- the byte of a sign
abbrev pub byte_of : Word → ℕ
byte_of (Action a) = a
byte_of (One o) = unary_word o
byte_of (Two o) = binary_word o
byte_of NoWord = 0

-- what reading finds: the plan's words, or the number and the place of the first fault
pub data Parse : Type 0 where
  Plan : List ℕ → Parse
  Fault : ℕ → ℕ → Parse

-- whether the digits read so far are a number above n
abbrev pub above : ℕ → State ℕ → Bool
above n (unit p d k w) = false
above n (digits a m p d k w) = ltb n a
above n (done p k w) = false
above n (after_tee p d k w) = false
above n (after_aitch p d k w) = false
above n (after_set h p d k w) = false
above n (after_first p d k w) = false
above n (after_sign o p d k w) = false

-- where they began, the character just read standing at place q
abbrev pub first_digit : ℕ → State ℕ → ℕ
first_digit q (unit p d k w) = q
first_digit q (digits a m p d k w) = suc q - m
first_digit q (done p k w) = q
first_digit q (after_tee p d k w) = q
first_digit q (after_aitch p d k w) = q
first_digit q (after_set h p d k w) = q
first_digit q (after_first p d k w) = q
first_digit q (after_sign o p d k w) = q

-- one answer where there is nothing, another for what there is
abbrev pub on_option : {A B : Type 0} → Option A → B → (A → B) → B
on_option none x f = x
on_option (some a) x f = f a

-- "an action above n (its first digit) is 61; an opening bracket that goes deeper than 200 is 62, at its place": in the state behind the character at
-- place q, where f goes on
abbrev pub limited : ℕ → ℕ → State ℕ → (State ℕ → Parse) → Parse
limited n q s f = cond (above n s) (Fault 61 (first_digit q s)) (cond (ltb deepest (height s)) (Fault 62 q) (f s))

-- the text from place q on, read in a state: "A character that can't go on, a text that ends too early (its place is the text's length)"
unfoldable pub read_from : ℕ → ℕ → State ℕ → List ℕ → Parse
unfolding step finish
read_from n q s [] = on_option (finish byte_of s) (Fault 61 q) (λ w. Plan w)
read_from n q s (c ∷ cs) = on_option (step byte_of s c) (Fault 61 q) (λ s'. limited n q s' (λ s''. read_from n (suc q) s'' cs))

abbrev pub start : {S : Type 0} → State S
start = unit false false [] []

unfoldable pub read_text : ℕ → List ℕ → Parse
unfolding read_from
read_text n text = read_from n 0 start text
