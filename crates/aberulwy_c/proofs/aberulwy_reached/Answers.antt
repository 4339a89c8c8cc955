-- `aberulwy_c::aberulwy_reached` meets its contract: the part of the area is handed over.
use mathlib.Core.Path.{ap, ◌∙◌}
use mathlib.Core.List.{List}
use Prim.Native.Nat.{ℕ}
use Rattle.aberulwy_c.specs.Answers.{handed_over}
use Rattle.aberulwy_c.proofs.aberulwy_reached.Goals as goal

pub returns : goal.returns
returns c = record { whole = c.hand_over.ensures ∙ ap (λ (x : List ℕ). handed_over x c.args.plan.now) c.reached-part.ensures.whole }
