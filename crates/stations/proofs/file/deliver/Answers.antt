-- `stations::file::deliver` meets its contract: refused, the areas are as they were; accepted, they are long enough and hold the two.
use Rattle.std.proofs.Common.{rules}
use lib.ListN.{length}
use Rattle.stations.specs.File.{held_refusal}
use Rattle.stations.proofs.Reading.{areas-accepted, untouched, written}
use native.Mathlib.Omega.{arith}
use Rattle.stations.proofs.file.deliver.Goals as goal

pub returns-in_err-judge_held : goal.returns-in_err-judge_held
returns-in_err-judge_held c = record { whole = untouched (held_refusal _ _ (length c.args.tables.now) (length c.args.plan.now)) c.judge_held.ensures.whole _ _ _ _ c.in_err-judge_held.was (search rules) }

pub put_whole-requires : goal.put_whole-requires
put_whole-requires c = omega (arith, (areas-accepted _ _ _ _ c.judge_held.ensures.whole c.in_ok-judge_held.was).0)

pub put_whole-requires-2 : goal.put_whole-requires-2
put_whole-requires-2 c = (areas-accepted _ _ _ _ c.judge_held.ensures.whole c.in_ok-judge_held.was).1

pub returns : goal.returns
returns c = record { whole = written (held_refusal _ _ (length c.args.tables.now) (length c.args.plan.now)) c.judge_held.ensures.whole _ _ _ _ c.in_ok-judge_held.was c.put_whole.ensures c.put_whole-2.ensures }
