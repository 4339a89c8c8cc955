-- One step, of either direction, and any number of steps from left to right. (Demand 2; request 108.) `step` computes `FitsAt` of Fits (proofs Fits
-- `step_iff`), and `step_back` `FitsBackAt` (proofs Backward `back_iff`), so whoever believes these need not believe this.
use Rattle.std.specs.Prelude.{ℕ, pred, ◌≡◌, cond, List, length}
use Rattle.std.proofs.Math.Option.{Option, none, some}
use Rattle.tables.specs.Tables.{Tables, actions}
use Rattle.plans.specs.Term.{words, and_then}
use Rattle.plans.specs.Place.{subterm, put, replace}
use Rattle.laws.specs.Laws.{law_at, rewrite, same_bytes}

-- Law k at place p of a plan's words. "A step is made exactly when that law's left side, as published, fits there …; it gives the plan with
-- the right side put in." None where "law doesn't fit at that place, or the place is past the end".
unfoldable pub step : Tables → ℕ → ℕ → List ℕ → Option (List ℕ)
step t k p ws = and_then (subterm (actions t) ws p) (λ u. and_then (rewrite t (law_at k) u) (λ v. some (replace ws p u v)))

-- Law k backwards at place p of a plan's words, with the words of the left side carried. "It fits when that law, applied at the last of those words,
-- gives exactly the subplan at the place. The whole left side then replaces it." (Request 108.)
unfoldable pub step_back : Tables → ℕ → ℕ → List ℕ → List ℕ → Option (List ℕ)
unfolding words step subterm same_bytes
step_back t k p left ws =
    and_then (subterm (actions t) ws p)
    (λ u. and_then (step t k (pred (length left)) left)
    (λ v. cond (same_bytes v (words u)) (some (put ws p (length (words u)) left)) none))

-- From one plan to another by any number of steps from left to right, as an unfolding makes them. (What a checker is handed is in `rewritings` Records.)
pub data Rewrites (t : Tables) : List ℕ → List ℕ → Type 0 where
  no_step : {ws : List ℕ} → Rewrites t ws ws
  step_then : {ws vs us : List ℕ} (k p : ℕ) → step t k p ws ≡ some vs → Rewrites t vs us → Rewrites t ws us
