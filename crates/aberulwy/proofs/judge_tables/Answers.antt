-- `aberulwy::judge_tables` meets its contract: the answer is the lower layer's.
use Rattle.aberulwy.proofs.Judging.{numbers_of}
use Rattle.tables.specs.Judging.{table_refusal}
use Rattle.aberulwy.proofs.judge_tables.Goals as goal

pub returns : goal.returns
returns c =
    let t = c.args.tables.now in
    let below = c.judge_tables.ensures in
    record { whole = below.whole; numbers = numbers_of (table_refusal t) _ below.whole; accepts = below.accepts }
