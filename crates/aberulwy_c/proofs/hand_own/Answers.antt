-- `aberulwy_c::hand_own` meets its contract: the numbers of the check where one was made, and else zeros.
use Rattle.aberulwy_c.proofs.Answers.{answered, own-made}
use Rattle.aberulwy_c.proofs.hand_own.Goals as goal

pub returns-in-Some : goal.returns-in-Some
returns-in-Some c = rw c.from.ensures (own-made c.in-Some.is (answered c.checked_so_far.ensures c.hand_came.ensures))
