-- A step of either direction is undone by the step turned round.
use Prim.Native.Nat.{ℕ}
use mathlib.Core.Path.{◌≡◌}
use mathlib.Core.List.{List}
use mathlib.Core.Option.{some}
use Rattle.tables.specs.Tables.{Tables}
use Rattle.laws.proofs.Tables.{Proper}
use Rattle.laws.proofs.Stepping.{step-made}
use Rattle.laws.proofs.Backward.{forward_undone, back_undone}
use Rattle.rewritings.specs.Records.{Recorded, forward, backward}
use Rattle.checking.specs.Checking.{step_of}
use Rattle.checking.proofs.Fitting.{Fine}
use Rattle.demands.specs.Reversed.{moved, turned}

pub undone : (t : Tables) (ok : Proper t) (r : Recorded) (w next : List ℕ) → Fine t ok r → step_of t r w ≡ some next → step_of t (turned t r w next) next ≡ some w
unfolding step_of turned moved
undone t ok (forward m) w next fine e =
    let c = step-made t m.law m.place w next e in rw c.2 (forward_undone t ok m.law m.place w next c.0 c.2 e)
undone t ok (backward m left) w next fine e = back_undone t ok m.law m.place left w next fine.0 fine.1 e
