-- The step that the unfolding takes. (01, "Unfolding".)
use Rattle.std.specs.Prelude.{ℕ, List, length}
use Rattle.std.proofs.Math.Option.{Option, none, some}
use Rattle.tables.specs.Tables.{Tables}
use Rattle.tables.specs.Search.{first_from}
use Rattle.laws.specs.Laws.{first_choice, choices}
use Rattle.laws.specs.Step.{step}

-- a step found: the law, the place and the plan that it gives
pub record Found : Type 0 where
  pub law : ℕ
  pub place : ℕ
  pub plan : List ℕ

abbrev pub found_at : ℕ → ℕ → Option (List ℕ) → Option Found
found_at k p none = none
found_at k p (some w) = some (record { law = k; place = p; plan = w })

-- "the lowest such law", of laws 5 to 32, at place p
unfoldable pub lowest_law : Tables → List ℕ → ℕ → Option Found
unfolding step first_from
lowest_law t ws p = first_from (λ k. found_at k p (step t k p ws)) first_choice choices

-- "Each step takes the least place at which one of laws 5 to 32 fits, and the lowest such law."
unfoldable pub next_step : Tables → List ℕ → Option Found
unfolding lowest_law first_from
next_step t ws = first_from (lowest_law t ws) 0 (length ws)
