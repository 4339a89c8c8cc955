-- The steps of an unfolding, as it records them: all of them from left to right. (01, "Unfolding".)
use Rattle.std.specs.Prelude.{ℕ, ◌+◌, ◌*◌, ◌/◌, ◌%◌, List, [], ◌∷◌, ◌++◌}

-- a step to make: a law and a place
pub record Move : Type 0 where
  pub law : ℕ
  pub place : ℕ

-- "A step is recorded in three bytes: law, then place, low byte first."
unfoldable pub record_of : ℕ → ℕ → List ℕ
record_of k p = k ∷ (p % 256 ∷ (p / 256 ∷ []))

-- the records of steps, one after another
unfoldable pub bytes_of : List Move → List ℕ
bytes_of [] = []
bytes_of (m ∷ ms) = record_of m.law m.place ++ bytes_of ms

-- the steps that a list records, three bytes to a step; one or two bytes behind them are none
unfoldable pub moves_of : List ℕ → List Move
moves_of [] = []
moves_of (k ∷ []) = []
moves_of (k ∷ (l ∷ [])) = []
moves_of (k ∷ (l ∷ (h ∷ r))) = record { law = k; place = l + 256 * h } ∷ moves_of r
