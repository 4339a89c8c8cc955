-- How reading goes on, one character after another: the states, and what a character does in each. (Request 101.)
use Rattle.std.specs.Prelude.{ℕ, suc, ◌+◌, ◌-◌, ◌*◌, Bool, true, false, cond, ◌&&◌, List, [], ◌∷◌, ◌++◌, length, eqb, leb}
use Rattle.std.proofs.Math.Option.{Option, none, some}
use Rattle.plans.specs.declared.Binary.{Binary}
use Rattle.plans.specs.declared.Binary.TheVariants.{Choice, Sequence, Merge, LeftMerge, CommunicationMerge, Unless}
use Rattle.plans.specs.declared.Unary.TheVariants.{Priority, Encapsulation}
use Rattle.plans.specs.declared.Word.{Word}
use Rattle.plans.specs.declared.Word.TheVariants.{Action, One, Two}
use Rattle.plans.specs.Term.{and_then}
use Rattle.grammar.specs.declared.Bracket.{Bracket}
use Rattle.grammar.specs.declared.Bracket.TheVariants.{Plain, OfPriority, OfSet, Second}
use Rattle.grammar.specs.Character.{plus, dot, opening, closing, tee, aitch, nought, hash, square, bar, less, blank}

-- what a character is as a digit that is at most m: the digits of actions are 0 to 9, those of sets 0 to 7
abbrev pub numeral : ℕ → ℕ → Option ℕ
numeral m c = cond (leb nought c && leb c (nought + m)) (some (c - nought)) none

abbrev pub digit_of : ℕ → Option ℕ
digit_of c = numeral 9 c

abbrev pub set_of : ℕ → Option ℕ
set_of c = numeral 7 c

-- what a character is as a sign between two sums
abbrev pub between_of : ℕ → Option Binary
between_of c =
    cond (eqb c hash) (some Merge)
    (cond (eqb c square) (some LeftMerge)
    (cond (eqb c bar) (some CommunicationMerge)
    (cond (eqb c less) (some Unless) none)))

-- an open bracket, and what waits outside for the unit that it ends: a sum for its `+`, a product for its `.`
pub data Frame : Type 0 where
  frame : Bracket → Bool → Bool → Frame

-- How far reading has come: the signs written so far stand last, the open brackets before them, the innermost first.
-- The two Bools say whether a `+` and a `.` wait for their right side in the innermost bracket; where a unit has ended, no `.` waits any more.
pub data State (S : Type 0) : Type 0 where
  -- a unit must begin
  unit : Bool → Bool → List Frame → List S → State S
  -- digits of an action: their value and how many they are
  digits : ℕ → ℕ → Bool → Bool → List Frame → List S → State S
  -- a unit has ended
  done : Bool → List Frame → List S → State S
  -- behind `T`, behind `H`, and behind `H` and the number of a set
  after_tee : Bool → Bool → List Frame → List S → State S
  after_aitch : Bool → Bool → List Frame → List S → State S
  after_set : ℕ → Bool → Bool → List Frame → List S → State S
  -- behind `(s `, and behind `(s o`
  after_first : Bool → Bool → List Frame → List S → State S
  after_sign : Binary → Bool → Bool → List Frame → List S → State S

-- how many brackets are open
abbrev pub height : {S : Type 0} → State S → ℕ
height (unit p d k w) = length k
height (digits a m p d k w) = length k
height (done p k w) = length k
height (after_tee p d k w) = length k
height (after_aitch p d k w) = length k
height (after_set h p d k w) = length k
height (after_first p d k w) = suc (length k)
height (after_sign o p d k w) = suc (length k)

abbrev pub on_digit : {A : Type 0} → Option ℕ → (ℕ → A) → A → A
on_digit none f x = x
on_digit (some d) f x = f d

-- `write` says how a sign is written down: as a byte of the plan.
-- (The proof that a text is one plan only lets signs stand for themselves.)
module _ {S : Type 0} (write : Word → S) where
  -- `+` and `.` are written when their right side has been, the sign of a bracket when it closes
  abbrev pub joined : Bool → List S → List S
  joined false w = w
  joined true w = w ++ (write (Two Choice) ∷ [])

  abbrev pub followed : Bool → List S → List S
  followed false w = w
  followed true w = w ++ (write (Two Sequence) ∷ [])

  abbrev pub closed : Bracket → List S → List S
  closed Plain w = w
  closed OfPriority w = w ++ (write (One Priority) ∷ [])
  closed (OfSet h) w = w ++ (write (One (Encapsulation h)) ∷ [])
  closed (Second o) w = w ++ (write (Two o) ∷ [])

  -- a sum has ended at `)`, at a blank, at the end of the text
  abbrev pub at_closing : List Frame → List S → Option (State S)
  at_closing [] w = none
  at_closing (frame b p d ∷ k) w = some (done p k (followed d (closed b w)))

  abbrev pub at_blank : List Frame → List S → Option (State S)
  at_blank [] w = none
  at_blank (frame Plain p d ∷ k) w = some (after_first p d k w)
  at_blank (frame OfPriority p d ∷ k) w = none
  at_blank (frame (OfSet h) p d ∷ k) w = none
  at_blank (frame (Second o) p d ∷ k) w = none

  abbrev pub at_end : List Frame → List S → Option (List S)
  at_end [] w = some w
  at_end (f ∷ k) w = none

  -- character c where a unit must begin, and where one has ended
  abbrev pub begin : Bool → Bool → List Frame → List S → ℕ → Option (State S)
  begin p d k w c =
      on_digit (digit_of c) (λ a. some (digits a 1 p d k w))
      (cond (eqb c opening) (some (unit false false (frame Plain p d ∷ k) w))
      (cond (eqb c tee) (some (after_tee p d k w))
      (cond (eqb c aitch) (some (after_aitch p d k w)) none)))

  abbrev pub go_on : Bool → List Frame → List S → ℕ → Option (State S)
  go_on p k w c =
      cond (eqb c dot) (some (unit p true k w))
      (cond (eqb c plus) (some (unit true false k (joined p w)))
      (cond (eqb c closing) (at_closing k (joined p w))
      (cond (eqb c blank) (at_blank k (joined p w)) none)))

  -- the state behind character c; none where c cannot go on
  unfoldable pub step : State S → ℕ → Option (State S)
  step (unit p d k w) c = begin p d k w c
  step (digits a m p d k w) c =
      on_digit (digit_of c) (λ b. cond (eqb a 0) none (some (digits (10 * a + b) (suc m) p d k w)))
      (go_on p k (followed d (w ++ (write (Action a) ∷ []))) c)
  step (done p k w) c = go_on p k w c
  step (after_tee p d k w) c = cond (eqb c opening) (some (unit false false (frame OfPriority p d ∷ k) w)) none
  step (after_aitch p d k w) c = on_digit (set_of c) (λ h. some (after_set h p d k w)) none
  step (after_set h p d k w) c = cond (eqb c opening) (some (unit false false (frame (OfSet h) p d ∷ k) w)) none
  step (after_first p d k w) c = and_then (between_of c) (λ o. some (after_sign o p d k w))
  step (after_sign o p d k w) c = cond (eqb c blank) (some (unit false false (frame (Second o) p d ∷ k) w)) none

  -- what is written where the text ends here; none where it ends too early
  unfoldable pub finish : State S → Option (List S)
  finish (unit p d k w) = none
  finish (digits a m p d k w) = at_end k (joined p (followed d (w ++ (write (Action a) ∷ []))))
  finish (done p k w) = at_end k (joined p w)
  finish (after_tee p d k w) = none
  finish (after_aitch p d k w) = none
  finish (after_set h p d k w) = none
  finish (after_first p d k w) = none
  finish (after_sign o p d k w) = none
