-- Plans as terms, their words in postfix order, and how words are read. (01, "Plans"; the customer's word PLAN.)
use Rattle.std.specs.Prelude.{ℕ, ◌≤◌, List, [], ◌∷◌, ◌++◌}
use Rattle.std.proofs.Math.Option.{Option, none, some}
use Rattle.plans.specs.declared.Binary.{Binary}
use Rattle.plans.specs.declared.Unary.{Unary}
use Rattle.plans.specs.declared.Unary.TheVariants.{Priority, Encapsulation}
use Rattle.plans.specs.declared.Word.{Word}
use Rattle.plans.specs.declared.Word.TheVariants.{Action, One, Two, NoWord}
use Rattle.plans.specs.Word.{binary_word, unary_word, word_of}

-- "a finite term of actions, dead stop, choice, sequence, merge and the other operators"; action 0 is dead stop
pub data Term : Type 0 where
  act : ℕ → Term
  un : Unary → Term → Term
  bin : Binary → Term → Term → Term

-- "1 to 16,384 bytes, called words, in postfix order"
unfoldable pub words : Term → List ℕ
unfolding binary_word unary_word
words (act a) = a ∷ []
words (un o x) = words x ++ (unary_word o ∷ [])
words (bin o x y) = words x ++ (words y ++ (binary_word o ∷ []))

-- the operators and actions of a term are words under n actions
abbrev pub SetNumber : Unary → Type 0
SetNumber Priority = Unit
SetNumber (Encapsulation h) = h ≤ 7

abbrev pub Over : ℕ → Term → Type 0
Over n (act a) = a ≤ n
Over n (un o x) = SetNumber o × Over n x
Over n (bin o x y) = Over n x × Over n y

-- one word read onto the terms that wait for an operator, the last first
unfoldable pub push : Word → List Term → Option (List Term)
push (Action a) s = some (act a ∷ s)
push (One o) [] = none
push (One o) (x ∷ s) = some (un o x ∷ s)
push (Two o) [] = none
push (Two o) (y ∷ []) = none
push (Two o) (y ∷ (x ∷ s)) = some (bin o x y ∷ s)
push NoWord s = none

module _ {A B : Type 0} where
  abbrev pub and_then : Option A → (A → Option B) → Option B
  and_then none f = none
  and_then (some a) f = f a

-- words read one after another
unfoldable pub read : ℕ → List ℕ → List Term → Option (List Term)
unfolding push word_of
read n [] s = some s
read n (w ∷ ws) s = and_then (push (word_of n w) s) (λ s'. read n ws s')

abbrev pub sole : List Term → Option Term
sole [] = none
sole (t ∷ []) = some t
sole (t ∷ (u ∷ s)) = none

-- the one term that a plan's words are
unfoldable pub term_of : ℕ → List ℕ → Option Term
unfolding read
term_of n ws = and_then (read n ws []) sole
