-- The hub's progress through a basic plan. (Request 102.)
use Rattle.std.specs.Prelude.{ℕ, ◌-◌, ◌<◌, Bool, false, List, length, get_or, set, replicate}

-- "one mark byte for each word, and whether exactly those messages can end in a finish"
pub record Progress : Type 0 where
  pub marks : List ℕ
  pub finish : Bool

-- "Any byte but zero reads as a mark": the word at place p is marked
abbrev pub Marked : List ℕ → ℕ → Type 0
Marked marks p = 0 < get_or marks p 0

-- "A fresh walk has one mark, at the plan's last word, and no finish reached."
unfoldable pub fresh : List ℕ → Progress
fresh plan = record { marks = set (replicate (length plan) 0) (length plan - 1) 1; finish = false }
