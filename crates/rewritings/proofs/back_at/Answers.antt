-- `back_at` meets its contract: none where the length or the words are cut, else where the words stand.
use Rattle.std.proofs.Common.{◌+◌}
use Rattle.std.proofs.lemmas.List.{take_rest, length-take, length-drop}
use Rattle.rewritings.proofs.Reading.{back-short, back_cut, back-there}
use native.Mathlib.Omega.{arith}
use Rattle.rewritings.proofs.back_at.Goals as goal

pub returns-in_default : goal.returns-in_default
returns-in_default c = rw (← take_rest c.args.rewriting.now (c.args.at + 3)) (back-short _ _ _ c.in_default.len_below)

pub returns-then-words-size : goal.returns-then-words-size
returns-then-words-size c =
    rw (← take_rest c.args.rewriting.now (c.args.at + 3)) (back_cut _ _ _ c.from-size.result c.in-len2-up.len_at_least (omega arith) (simp (length-take, length-drop) (omega (arith, c.if-words-size.true))))

pub returns : goal.returns
returns c =
    rw (← take_rest c.args.rewriting.now (c.args.at + 3)) (back-there _ _ _ c.from-size.result c.in-len2-up.len_at_least (omega arith) (simp (length-take, length-drop) (omega (arith, c.if-words-size.false))))
