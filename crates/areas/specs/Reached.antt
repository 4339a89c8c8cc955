-- The two areas: where the plan reached and the plan before it stand. (01, "Unfolding".)
use Rattle.std.specs.Prelude.{ℕ, suc, zero, min, Bool, true, false, not, List, length, take}
use Rattle.areas.specs.Area.{padded, most_words}

-- "C is the least of both areas' lengths and 16,384"
unfoldable pub capacity : List ℕ → List ℕ → ℕ
capacity a b = min (min (length a) (length b)) most_words

unfoldable pub even? : ℕ → Bool
even? zero = true
even? (suc k) = not (even? k)

-- "A after an even number of steps, B after an odd one. The other area holds the plan one step before (zeros if no step was made). All
-- bytes past a plan, in either area … are zero": areas of n bytes, by the parity, with plan w and the one before it, v
unfoldable pub area_a : Bool → List ℕ → List ℕ → ℕ → List ℕ
unfolding padded
area_a true w v n = padded w n
area_a false w v n = padded v n

unfoldable pub area_b : Bool → List ℕ → List ℕ → ℕ → List ℕ
unfolding padded
area_b true w v n = padded v n
area_b false w v n = padded w n

-- "The plan reached is a part of one area or the other: A after an even number of steps, B after an odd one."
unfoldable pub reached_part : Bool → ℕ → List ℕ → List ℕ → List ℕ
reached_part true size a b = take size a
reached_part false size a b = take size b
