-- `walks::pass::some_mark` meets its contract: some mark passes the test.
use Rattle.std.proofs.Common.{rules, tests}
use Rattle.std.proofs.lemmas.Iterator.{YieldsList-from_slice}
use Rattle.std.proofs.lemmas.Iterator.Search.{any_from_yields_List}
use Rattle.walks.specs.Pass.{marked?}
use Rattle.walks.proofs.Turning.{some_mark_any}
use Rattle.walks.proofs.pass.some_mark.Goals as goal

pub returns : goal.returns
returns c =
    let marks = c.args.marks.now in
    rw (some_mark_any marks) (any_from_yields_List marked? _ _ _ c.any.ensures.ran (YieldsList-from_slice marks cc) (λ x b q k. search (rules, tests)))
