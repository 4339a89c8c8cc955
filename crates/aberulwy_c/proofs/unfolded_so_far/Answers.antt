-- `aberulwy_c::unfolded_so_far` meets its contract: where the unfolding stopped, its number, its steps and its size are handed on.
use mathlib.Core.Path.{refl}
use Rattle.aberulwy_c.proofs.unfolded_so_far.Goals as goal

pub returns-in-Stopped : goal.returns-in-Stopped
returns-in-Stopped c = rw (c.in_ok-steps.was, c.in-Stopped.is) refl
