-- `judge_rewriting` meets its contract: each test in turn is the first refusal that may come.
use mathlib.Core.Path.{refl, sym, ◌∙◌}
use borrow.Author.Tests.{lt-ltb, le-ltb}
use Rattle.std.proofs.lemmas.Result.{err_from_is_err_and}
use Rattle.refusals.proofs.Judging.{accepted_none, refused_some}
use Rattle.checking.specs.Checking.{rewriting_refusal}
use Rattle.checking.proofs.judge_rewriting.Goals as goal

pub returns-in_err-judge_words_as : goal.returns-in_err-judge_words_as
unfolding rewriting_refusal
returns-in_err-judge_words_as c =
    let p = err_from_is_err_and c.from_residual.result c.from_residual.ensures.1 in
    let e = rw c.from.ensures at c.judge_words_as.ensures in
    rw (p.1, p.2, refused_some _ _ (sym e ∙ c.in_err-judge_words_as.was)) refl

pub returns-then-limit-start : goal.returns-then-limit-start
unfolding rewriting_refusal
returns-then-limit-start c =
    let e = rw c.from.ensures at c.judge_words_as.ensures in
    rw (accepted_none _ (sym e ∙ c.in_ok-judge_words_as.was), lt-ltb _ _ c.if-limit-start.true, c.from-then-limit-start.ensures) refl

pub returns : goal.returns
unfolding rewriting_refusal
returns c =
    let e = rw c.from.ensures at c.judge_words_as.ensures in
    rw (accepted_none _ (sym e ∙ c.in_ok-judge_words_as.was), le-ltb _ _ c.if-limit-start.false, c.judge_records.ensures) refl
