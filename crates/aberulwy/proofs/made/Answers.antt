-- `aberulwy::made` meets its contract: either answer reports its own steps and size.
use Prim.Native.Nat.{ℕ}
use mathlib.Core.Path.{◌≡◌}
use mathlib.Core.Logic.{◌⊎◌, inl, inr}
use Rattle.std.specs.Prelude.{Ok}
use Rattle.unfolding.specs.declared.Unfolded.{Unfolded}
use Rattle.unfolding.specs.declared.Unfolded.TheVariants.{Finished, Stopped}
use Rattle.demands.specs.Reports.{Reports, finished, stopped}
use Rattle.aberulwy.proofs.made.Goals as goal

either : {u : Unfolded} {s z : ℕ} → (u ≡ Finished s z) ⊎ ((n : ℕ) × (u ≡ Stopped n s z)) → Reports (Ok u) s z
either (inl e) = rw e finished
either (inr h) = rw h.1 stopped

pub returns-in-Finished : goal.returns-in-Finished
returns-in-Finished c = either c.in-Finished.is

pub returns-in-Finished-2 : goal.returns-in-Finished-2
returns-in-Finished-2 c = either c.in-Finished.is
