-- The thirty-two laws, left to right, in the notation of the papers. (01, "Laws, left to right"; source 000, Table 1; source 001, Tables 1 and 3.)
-- Trees, alike and basic speak of no law. Nobody need believe `fit` and `rewrite`: Fits says what they compute.
use Rattle.std.specs.Prelude.{ℕ, suc, zero, ◌-◌, Bool, true, false, cond, ◌&&◌, not, List, [], ◌∷◌, eqb}
use Rattle.std.proofs.Math.Option.{Option, none, some}
use Rattle.tables.specs.Tables.{Tables, communication, below, blocked}
use Rattle.plans.specs.declared.Binary.{Binary}
use Rattle.plans.specs.declared.Binary.TheVariants.{Choice, Sequence, Merge, LeftMerge, CommunicationMerge, Unless}
use Rattle.plans.specs.declared.Unary.TheVariants.{Priority, Encapsulation}
use Rattle.plans.specs.Word.{binary_word}
use Rattle.plans.specs.Term.{Term, act, un, bin, words, and_then}

-- "Product binds closest", then ‖ ⌊ | ◁, then +, which is ⊞ here: + itself is the sum of numbers
infixl 20 ◌⊞◌
infixl 25 ◌∥◌ ◌⌊◌ ◌∣◌ ◌◁◌
infixl 30 ◌·◌
-- A pattern. Letters are numbered: 0 to 2 stand for any plan, 3 and 4 for "any actions, 0 included". `entry` is the table entry of
-- letters 3 and 4, and ∂ has the same set on both sides of a law, letter 5.
pub data Pattern : Type 0 where
  any : ℕ → Pattern
  any_action : ℕ → Pattern
  δ : Pattern
  entry : Pattern
  node : Binary → Pattern → Pattern → Pattern
  θ ∂ : Pattern → Pattern

abbrev x : Pattern
x = any 0

abbrev y : Pattern
y = any 1

abbrev z : Pattern
z = any 2

abbrev a : Pattern
a = any_action 3

abbrev b : Pattern
b = any_action 4

abbrev ◌⊞◌ : Pattern → Pattern → Pattern
p ⊞ q = node Choice p q

abbrev ◌·◌ : Pattern → Pattern → Pattern
p · q = node Sequence p q

abbrev ◌∥◌ : Pattern → Pattern → Pattern
p ∥ q = node Merge p q

abbrev ◌⌊◌ : Pattern → Pattern → Pattern
p ⌊ q = node LeftMerge p q

abbrev ◌∣◌ : Pattern → Pattern → Pattern
p ∣ q = node CommunicationMerge p q

abbrev ◌◁◌ : Pattern → Pattern → Pattern
p ◁ q = node Unless p q

-- what must hold besides the fit of the left side
pub data Condition : Type 0 where
  always same_words a_in_set a_not_in_set a_below_b a_not_below_b : Condition

pub record Law : Type 0 where
  pub lhs : Pattern
  pub when : Condition
  pub rhs : Pattern

infix 10 ◌⟶◌
infix 10 ◌⟶◌if◌
abbrev ◌⟶◌ : Pattern → Pattern → Law
l ⟶ r = record { lhs = l; when = always; rhs = r }

abbrev ◌⟶◌if◌ : Pattern → Pattern → Condition → Law
l ⟶ r if c = record { lhs = l; when = c; rhs = r }

-- laws 1 to 32, each with its name in the papers
unfoldable pub laws : List Law
laws =
    (x ⊞ y ⟶ y ⊞ x)  -- 1, A1
    ∷ (x ⊞ (y ⊞ z) ⟶ (x ⊞ y) ⊞ z)  -- 2, A2
    ∷ ((x ⊞ y) ⊞ z ⟶ x ⊞ (y ⊞ z))  -- 3, A2 from right to left
    ∷ (x ⊞ y ⟶ x if same_words)  -- 4, A3
    ∷ ((x ⊞ y) · z ⟶ x · z ⊞ y · z)  -- 5, A4
    ∷ ((x · y) · z ⟶ x · (y · z))  -- 6, A5
    ∷ (x ⊞ δ ⟶ x)  -- 7, A6
    ∷ (δ ⊞ x ⟶ x)  -- 8, A6 of source 001
    ∷ (δ · x ⟶ δ)  -- 9, A7
    ∷ (a ∣ b ⟶ entry)  -- 10, the communication function of C1 to C3
    ∷ (x ∥ y ⟶ (x ⌊ y ⊞ y ⌊ x) ⊞ x ∣ y)  -- 11, CM1
    ∷ (a ⌊ x ⟶ a · x)  -- 12, CM2
    ∷ (a · x ⌊ y ⟶ a · (x ∥ y))  -- 13, CM3
    ∷ ((x ⊞ y) ⌊ z ⟶ x ⌊ z ⊞ y ⌊ z)  -- 14, CM4
    ∷ ((a · x) ∣ b ⟶ (a ∣ b) · x)  -- 15, CM5
    ∷ (a ∣ (b · x) ⟶ (a ∣ b) · x)  -- 16, CM6
    ∷ ((a · x) ∣ (b · y) ⟶ (a ∣ b) · (x ∥ y))  -- 17, CM7
    ∷ ((x ⊞ y) ∣ z ⟶ x ∣ z ⊞ y ∣ z)  -- 18, CM8
    ∷ (x ∣ (y ⊞ z) ⟶ x ∣ y ⊞ x ∣ z)  -- 19, CM9
    ∷ (∂ a ⟶ a if a_not_in_set)  -- 20, D1
    ∷ (∂ a ⟶ δ if a_in_set)  -- 21, D2
    ∷ (∂ (x ⊞ y) ⟶ ∂ x ⊞ ∂ y)  -- 22, D3
    ∷ (∂ (x · y) ⟶ ∂ x · ∂ y)  -- 23, D4
    ∷ (a ◁ b ⟶ a if a_not_below_b)  -- 24, P1
    ∷ (a ◁ b ⟶ δ if a_below_b)  -- 25, P2
    ∷ (x ◁ y · z ⟶ x ◁ y)  -- 26, P3
    ∷ (x ◁ (y ⊞ z) ⟶ (x ◁ y) ◁ z)  -- 27, P4
    ∷ (x · y ◁ z ⟶ (x ◁ z) · y)  -- 28, P5
    ∷ ((x ⊞ y) ◁ z ⟶ x ◁ z ⊞ y ◁ z)  -- 29, P6
    ∷ (θ a ⟶ a)  -- 30, TH1
    ∷ (θ (x · y) ⟶ θ x · θ y)  -- 31, TH2
    ∷ (θ (x ⊞ y) ⟶ θ x ◁ y ⊞ θ y ◁ x)  -- 32, TH3
    ∷ []

-- the number of the last of them
abbrev pub highest_law : ℕ
highest_law = 32

-- "one of laws 5 to 32": the first of those that an unfolding chooses from, and how many they are
abbrev pub first_choice : ℕ
first_choice = 5

abbrev pub choices : ℕ
choices = suc highest_law - first_choice

-- what the letters of a law stand for; letter 5 is ∂'s set
abbrev pub Binding : Type 0
Binding = ℕ → Term

abbrev pub unbound : Binding
unbound k = act 0

unfoldable pub bind : Binding → ℕ → Term → Binding
bind s k t j = cond (eqb j k) t (s j)

abbrev pub number : Term → ℕ
number (act c) = c
number (un u l) = 0
number (bin o l r) = 0

-- what the letters stand for where a left side fits a plan: those letters with which the left side is the plan (proofs Fits `fit_iff`)
unfoldable pub fit : Pattern → Term → Binding → Option Binding
unfolding binary_word bind
fit (any k) t s = some (bind s k t)
fit (any_action k) (act c) s = some (bind s k (act c))
fit (any_action k) (un u l) s = none
fit (any_action k) (bin o l r) s = none
fit δ (act c) s = cond (eqb c 0) (some s) none
fit δ (un u l) s = none
fit δ (bin o l r) s = none
fit entry t s = none
fit (node o p q) (act c) s = none
fit (node o p q) (un u l) s = none
fit (node o p q) (bin o' l r) s = cond (eqb (binary_word o') (binary_word o)) (and_then (fit q r s) (λ s'. fit p l s')) none
fit (θ p) (act c) s = none
fit (θ p) (un Priority l) s = fit p l s
fit (θ p) (un (Encapsulation h) l) s = none
fit (θ p) (bin o l r) s = none
fit (∂ p) (act c) s = none
fit (∂ p) (un Priority l) s = none
fit (∂ p) (un (Encapsulation h) l) s = fit p l (bind s 5 (act h))
fit (∂ p) (bin o l r) s = none

-- "operands equal in their words"
unfoldable pub same_bytes : List ℕ → List ℕ → Bool
same_bytes [] [] = true
same_bytes [] (c ∷ m) = false
same_bytes (c ∷ l) [] = false
same_bytes (c ∷ l) (d ∷ m) = eqb c d && same_bytes l m

unfoldable pub holds : Tables → Condition → Binding → Bool
unfolding same_bytes words
holds t always s = true
holds t same_words s = same_bytes (words (s 0)) (words (s 1))
holds t a_in_set s = blocked t (number (s 5)) (number (s 3))
holds t a_not_in_set s = not (blocked t (number (s 5)) (number (s 3)))
holds t a_below_b s = below t (number (s 3)) (number (s 4))
holds t a_not_below_b s = not (below t (number (s 3)) (number (s 4)))

-- a side of a law with the letters put in
unfoldable pub build : Tables → Binding → Pattern → Term
build t s (any k) = s k
build t s (any_action k) = s k
build t s δ = act 0
build t s entry = act (communication t (number (s 3)) (number (s 4)))
build t s (node o p q) = bin o (build t s p) (build t s q)
build t s (θ p) = un Priority (build t s p)
build t s (∂ p) = un (Encapsulation (number (s 5))) (build t s p)

-- a law at the root of a plan: its right side put in, where its left side fits (specs Fits `Fits`, by proofs Fits `rewrite_iff`)
unfoldable pub rewrite : Tables → Law → Term → Option Term
unfolding fit holds build
rewrite t l u = and_then (fit l.lhs u unbound) (λ s. cond (holds t l.when s) (some (build t s l.rhs)) none)

-- law k; no law fits where k is 0 or above the highest
abbrev pub no_law : Law
no_law = record { lhs = entry; when = always; rhs = entry }

abbrev pub nth : List Law → ℕ → Law
nth [] k = no_law
nth (l ∷ ls) zero = l
nth (l ∷ ls) (suc k) = nth ls k

unfoldable pub law_at : ℕ → Law
unfolding laws
law_at zero = no_law
law_at (suc k) = nth laws k
