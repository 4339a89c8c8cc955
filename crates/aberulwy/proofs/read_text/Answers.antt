-- `aberulwy::read_text` meets its contract: the answer and the lent bytes are the lower layer's.
use mathlib.Core.Path.{◌≡◌, sym, ap, ◌∙◌, subst}
use Rattle.texts.specs.Text.{TextOutcome, text_outcome, text_report}
use Rattle.texts.specs.Claims.{TextClaims}
use Rattle.texts.proofs.Outcomes.{text_numbers}
use Rattle.texts.proofs.Claims.{text_claims}
use Rattle.aberulwy.proofs.read_text.Goals as goal

pub returns : goal.returns
returns c =
    let k = c.args in
    let e : ◌≡◌ {A = TextOutcome} (record { answer = c.read_text.result; plan = c.read_text.new.plan })
    (text_outcome k.tables.now k.text.now k.plan.now) =
    c.read_text.ensures.whole in
    record {
      whole = e;
      numbers = ap (λ (o : TextOutcome). text_report o.answer) e ∙ text_numbers k.tables.now k.text.now k.plan.now;
      claims = subst (λ (o : TextOutcome). TextClaims k.tables.now k.text.now k.plan.now o) (sym e) (text_claims k.tables.now k.text.now k.plan.now);
    }
