-- A step of either direction leaves the tree alike, where what it carries is read as a plan.
use Prim.Native.Nat.{ℕ}
use mathlib.Core.Path.{◌≡◌}
use mathlib.Core.List.{List}
use mathlib.Core.Option.{some}
use Rattle.tables.specs.Tables.{Tables, actions}
use Rattle.plans.specs.Term.{Term, term_of}
use Rattle.laws.proofs.Tables.{Proper}
use Rattle.laws.proofs.Stepping.{Reads, step_keeps}
use Rattle.laws.proofs.Backward.{back_keeps}
use Rattle.rewritings.specs.Records.{Recorded, forward, backward}
use Rattle.checking.specs.Checking.{step_of}

module _ (t : Tables) (ok : Proper t) where
  -- a carried left side is read as a plan
  abbrev pub Fine : Recorded → Type 0
  Fine (forward m) = Unit
  Fine (backward m left) = (x : Term) × (term_of (actions t) left ≡ some x)

  pub keeps : (r : Recorded) (w next : List ℕ) (y : Term) → Fine r → term_of (actions t) w ≡ some y → step_of t r w ≡ some next → Reads t y next
  unfolding step_of
  keeps (forward m) w next y fine i e = step_keeps t ok m.law m.place w next y i e
  keeps (backward m left) w next y fine i e = back_keeps t ok m.law m.place left w next fine.0 y fine.1 i e
