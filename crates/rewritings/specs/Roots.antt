-- Nobody need believe this: contracts of functions cite it. What laws give at the root of a term and at a plan's last word.
use Rattle.std.specs.Prelude.{ℕ, suc, zero, ◌-◌, List, length}
use Rattle.std.proofs.Math.Option.{Option, none, some}
use Rattle.tables.specs.Tables.{Tables}
use Rattle.plans.specs.Term.{Term, and_then}
use Rattle.plans.specs.Place.{subterm}
use Rattle.laws.specs.Laws.{law_at, rewrite}

-- the term that law k gives at a plan's last word
unfoldable pub law_term : Tables → ℕ → ℕ → List ℕ → Option Term
law_term t n k plan = and_then (subterm n plan (length plan - 1)) (λ u. rewrite t (law_at k) u)

abbrev pub else_law : Option Term → ℕ → Option (ℕ × Term) → Option (ℕ × Term)
else_law none k r = r
else_law (some v) k r = some (k, v)

-- the lowest of m laws, from law k on, that fits a term
unfoldable pub first_law : Tables → ℕ → ℕ → Term → Option (ℕ × Term)
first_law t k zero u = none
first_law t k (suc m) u = else_law (rewrite t (law_at k) u) k (first_law t (suc k) m u)
