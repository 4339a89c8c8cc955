-- Nobody need believe this: contracts of functions cite it. How a right side's words are written out.
use Rattle.std.specs.Prelude.{ℕ, ◌+◌, ◌-◌, ◌≤◌, ◌<◌, ◌≡◌, cond, List, [], ◌∷◌, ◌++◌, length, get_or, ltb}
use Rattle.tables.specs.Tables.{Tables, communication}
use Rattle.laws.specs.Laws.{law_at}
use Rattle.laws.specs.Postfix.{forth}
use Rattle.matching.specs.Check.{letter, word_from}

-- what one word of it comes to: itself, what a letter reaches over in the plan, or the entry c
unfoldable pub spelled_one : ℕ → List ℕ → List ℕ → List ℕ → ℕ → List ℕ
spelled_one c plan f g w = cond (ltb w 96) (w ∷ []) (cond (ltb w 102) (letter plan f g (w - 96)) (c ∷ []))

unfoldable pub spelled : ℕ → List ℕ → List ℕ → List ℕ → List ℕ → List ℕ
spelled c plan f g [] = []
spelled c plan f g (w ∷ ws) = spelled_one c plan f g w ++ spelled c plan f g ws

-- the right side of law k, written out, where its letters reach from f to g
unfoldable pub spelled_law : Tables → ℕ → List ℕ → List ℕ → List ℕ → List ℕ
spelled_law t k plan f g = spelled (communication t (word_from plan f 3) (word_from plan f 4)) plan f g (forth (law_at k).rhs)

-- each of the letters 0 to 5 reaches over a part of the plan
pub record Reaches (plan f g : List ℕ) : Type 0 where
  pub from_long : length f ≡ 7
  pub to_long : length g ≡ 7
  pub order : (k : ℕ) → k < 6 → get_or f k 0 ≤ get_or g k 0
  pub within : (k : ℕ) → k < 6 → get_or g k 0 ≤ length plan

-- how many words one word of a right side, a right side and the right side of law k come to
unfoldable pub width : List ℕ → List ℕ → ℕ → ℕ
width f g w = cond (ltb w 96) 1 (cond (ltb w 102) (get_or g (w - 96) 0 - get_or f (w - 96) 0) 1)

unfoldable pub sized : List ℕ → List ℕ → List ℕ → ℕ
sized f g [] = 0
sized f g (w ∷ ws) = width f g w + sized f g ws

unfoldable pub law_size : ℕ → List ℕ → List ℕ → ℕ
law_size k f g = sized f g (forth (law_at k).rhs)
