-- `texts::read_text` meets its contract: what was found decides, and the words stand in the array.
use native.Mathlib.Omega.{arith}
use Prim.Native.Nat.{ℕ}
use mathlib.Core.Path.{◌≡◌, sym, ◌∙◌}
use mathlib.Core.Option.{none}
use lib.ListN.{length, take, replicate, length-replicate}
use Rattle.std.proofs.Common.{Err, rules}
use Rattle.std.proofs.lemmas.Result.{err_from_is_err_and}
use Rattle.refusals.proofs.Judging.{accepted_none, refused_some}
use Rattle.tables.specs.Tables.{actions}
use Rattle.tables.specs.Judging.{table_refusal}
use Rattle.texts.specs.Readers.{ReadWhole}
use Rattle.texts.proofs.Outcomes.{outcome-tables, outcome-fault, outcome-put, outcome-past-area, outcome-past-most, held_many, held-words}
use Rattle.texts.proofs.read_text.Goals.{then-plan-words-via-then-plan-words, then-plan-words-via-else-plan-words+then-words-gt-MOST_WORDS}
use Rattle.texts.proofs.read_text.Goals as goal

pub returns-in_err-judge_tables : goal.returns-in_err-judge_tables
returns-in_err-judge_tables c =
    let s = c.args in
    let e : c.from_residual.result ≡ Err c.in_err-judge_tables.field-0.0 = search rules in
    record { whole = rw e (outcome-tables s.tables.now s.text.now s.plan.now _ (refused_some _ _ (sym c.judge_tables.ensures.whole ∙ c.in_err-judge_tables.was))) }

pub returns-in_err-words : goal.returns-in_err-words
returns-in_err-words c =
    let s = c.args in
    let accepted : table_refusal s.tables.now ≡ none = accepted_none _ (sym c.judge_tables.ensures.whole ∙ c.in_ok-judge_tables.was) in
    let p = err_from_is_err_and c.from_residual-in_err-words.result c.from_residual-in_err-words.ensures.1 in
    record { whole = rw (p.1, p.2) (outcome-fault s.tables.now s.text.now s.plan.now accepted _ _ (rw c.actions_of-n.ensures.whole at c.in_err-words.ensures)) }

pub returns-then-plan-words : goal.returns-then-plan-words
returns-then-plan-words c =
    let s = c.args in
    let accepted : table_refusal s.tables.now ≡ none = accepted_none _ (sym c.judge_tables.ensures.whole ∙ c.in_ok-judge_tables.was) in
    let went : ReadWhole (actions s.tables.now) s.text.now (replicate 16384 0) c.read_whole.new.out c.in_ok-words.words = rw c.actions_of-n.ensures.whole at c.in_ok-words.ensures in
    let counted : length went.out ≡ c.in_ok-words.words = held_many went in
    record {
      whole =
          rw c.from.ensures
          (elim c.then-plan-words.branch [
            | then-plan-words-via-then-plan-words w ↦ outcome-past-area s.tables.now s.text.now s.plan.now accepted went.out went.is_read (omega arith)
            | then-plan-words-via-else-plan-words+then-words-gt-MOST_WORDS w ↦ outcome-past-most s.tables.now s.text.now s.plan.now accepted went.out went.is_read (omega arith)
          ]);
    }

pub returns : goal.returns
returns c =
    let s = c.args in
    let accepted : table_refusal s.tables.now ≡ none = accepted_none _ (sym c.judge_tables.ensures.whole ∙ c.in_ok-judge_tables.was) in
    let went : ReadWhole (actions s.tables.now) s.text.now (replicate 16384 0) c.read_whole.new.out c.in_ok-words.words = rw c.actions_of-n.ensures.whole at c.in_ok-words.ensures in
    -- how many words it has
    let counted : length went.out ≡ c.in_ok-words.words = held_many went in
    let stand : take c.in_ok-words.words c.read_whole.new.out ≡ went.out = held-words went (rw (length-replicate {A = ℕ} 16384 0) c.if-words-gt-MOST_WORDS.false) in
    record {
      whole =
          outcome-put s.tables.now s.text.now s.plan.now accepted went.out went.is_read _ counted c.if-plan-words.false c.if-words-gt-MOST_WORDS.false _ _ stand
          c.put_whole.ensures;
    }
