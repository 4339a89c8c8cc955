-- What is wrong with a text, said of the grammar alone. (Request 101: 61 and 62, and their places.)
use Rattle.std.specs.Prelude.{ℕ, suc, ◌≤◌, ◌<◌, ◌≡◌, List, [], ◌∷◌, ◌++◌, length, get_or, take, drop}
use Rattle.grammar.specs.Character.{opening, tee}
use Rattle.grammar.specs.Grammar.{Decimal, Belongs, Begins, level, deepest}

-- a unit may begin behind s: one that begins with `T` may, which stands nowhere else
abbrev pub ExpectsUnit : List ℕ → Type 0
ExpectsUnit s = Begins (s ++ (tee ∷ []))

-- a fault of a text under n actions: its number and its place
pub data FaultOf (n : ℕ) (text : List ℕ) : ℕ → ℕ → Type 0 where
  -- "A character that can't go on": what stands before it begins a text of the grammar, and with it none
  cannot_go_on : {p : ℕ} → p < length text → Begins (take p text) → (Begins (take (suc p) text) → ⊥) → FaultOf n text 61 p
  -- "a text that ends too early (its place is the text's length)"
  early : Begins text → (Belongs text → ⊥) → FaultOf n text 61 (length text)
  -- "or an action above n (its first digit)"
  large : {p a : ℕ} {s : List ℕ} (r : List ℕ) → ExpectsUnit (take p text) → drop p text ≡ s ++ r → Decimal s a → n < a → FaultOf n text 61 p
  -- "an opening bracket that goes deeper than 200 is 62, at its place"
  deep : {p : ℕ} → p < length text → Begins (take (suc p) text) → get_or text p 0 ≡ opening → deepest < level 0 (take (suc p) text) → FaultOf n text 62 p

-- "of these the first in the text counts"
pub record FirstFault (n : ℕ) (text : List ℕ) (k p : ℕ) : Type 0 where
  pub fault : FaultOf n text k p
  pub first : {j q : ℕ} → FaultOf n text j q → p ≤ q
