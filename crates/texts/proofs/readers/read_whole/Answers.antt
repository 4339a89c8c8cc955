-- `texts::readers::read_whole` meets its contract.
use Rattle.std.proofs.Common.{rules, ◌≡◌, Err}
use Rattle.texts.proofs.Rules.{text_stops}
use Rattle.texts.proofs.Reaching.{whole-read, whole-goes-on}
use Rattle.texts.proofs.readers.read_whole.Goals as goal

pub returns-in_err-end : goal.returns-in_err-end
returns-in_err-end c =
    let e : c.from_residual.result ≡ Err c.in_err-end.field-0.0 = search rules in
    rw e (text_stops c.args.n _ _ c.args.text.now c.in_err-end.ensures)

pub returns-then-end-text : goal.returns-then-end-text
returns-then-end-text c = rw c.no_text.ensures (whole-goes-on c.args.n c.args.text.now c.in_ok-end.ensures c.if-end-text.true)

pub returns-else-end-text : goal.returns-else-end-text
returns-else-end-text c = whole-read c.args.n c.args.text.now c.in_ok-end.ensures c.if-end-text.false
