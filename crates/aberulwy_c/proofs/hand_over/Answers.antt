-- `aberulwy_c::hand_over` meets its contract: the bytes are copied where they fit, with zeros behind them.
use native.Mathlib.Omega.{arith}
use Rattle.aberulwy_c.proofs.Answers.{too_short, copied}
use Rattle.aberulwy_c.proofs.hand_over.Goals as goal

pub returns-then-out-bytes : goal.returns-then-out-bytes
returns-then-out-bytes c = too_short _ _ (omega arith)

pub returns : goal.returns
returns c = copied _ _ (omega arith) c.copy_in-end.ensures c.copy_in-end.auto.dst c.clear_from.ensures
