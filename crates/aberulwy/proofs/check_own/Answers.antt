-- `aberulwy::check_own` meets its contract: the claimed plan is the part reached, and the rewriting the list's own records.
use Rattle.aberulwy.proofs.check_own.Goals as goal

pub returns : goal.returns
returns c = rw (← c.reached-claimed.ensures.whole, ← c.own_records-rewriting.ensures) c.check_rewriting.ensures.whole
