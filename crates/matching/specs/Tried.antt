-- Nobody need believe this: contracts of functions cite it. A law tried at a plan's last word.
use Rattle.std.specs.Prelude.{ℕ, ◌≡◌, Bool, true, false, List, Option as Maybe, Some, None}
use Rattle.std.proofs.Math.Option.{Option, none, some}
use Rattle.tables.specs.Tables.{Tables}
use Rattle.plans.specs.Term.{Term, words}
use Rattle.laws.specs.Laws.{same_bytes}
use Rattle.matching.specs.Right.{spelled_law, Reaches}
use Rattle.matching.specs.declared.Letters.{Letters}

-- Law k is tried: it fails; or it fits, its letters reach over the plan's words, and its right side, written out by them, is the term that it gives.
pub data Tried (t : Tables) (k : ℕ) (plan : List ℕ) : Option Term → Maybe Letters → Type 0 where
  fails : Tried t k plan none None
  fits : (v : Term) (l : Letters) → Reaches plan l.from l.to → spelled_law t k plan l.from l.to ≡ words v → Tried t k plan (some v) (Some l)

-- whether a law gave a term whose words are these
abbrev pub gives : Option Term → List ℕ → Bool
gives none there = false
gives (some v) there = same_bytes (words v) there
