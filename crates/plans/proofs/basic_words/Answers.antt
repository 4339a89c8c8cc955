-- `plans::basic_words` meets its contract. The invariant: scanning the words left, with the kinds of the subplans that wait, answers for the plan.
use native.Mathlib.Omega.{arith}
use mathlib.Core.Path.{sym, ◌∙◌}
use lib.ListN.{length-replicate}
use borrow.Author.Tests.{ne_eqb}
use Rattle.plans.specs.declared.scan.Kind.TheVariants.{NotBasic}
use Rattle.plans.proofs.Scanning.{scan_starts, took_action, took_one, took_two, too_few_for_one, too_few_for_two, at_no_word, ends-basic, ends_other}
use Rattle.areas.specs.Area.{most_words}
use Rattle.plans.proofs.basic_words.Goals as goal
use Rattle.plans.proofs.basic_words.Goals.{in-Action, in-One+else-depth-lt1, in-Two+else-depth-lt2}

pub loop-byte-init : goal.loop-byte-init
loop-byte-init c = scan_starts _ _ _ (omega arith) (length-replicate most_words NotBasic)

pub returns-then-depth-lt1 : goal.returns-then-depth-lt1
returns-then-depth-lt1 c = record { whole = too_few_for_one c.loop-byte.invariant c.loop-byte-test.true c.if-depth-lt1.true (sym c.classify.ensures.whole ∙ c.in-One.is) }

pub returns-then-depth-lt2 : goal.returns-then-depth-lt2
returns-then-depth-lt2 c = record { whole = too_few_for_two c.loop-byte.invariant c.loop-byte-test.true c.if-depth-lt2.true (sym c.classify.ensures.whole ∙ c.in-Two.is) }

pub returns-in-NoWord : goal.returns-in-NoWord
returns-in-NoWord c = record { whole = at_no_word c.loop-byte.invariant c.loop-byte-test.true (sym c.classify.ensures.whole ∙ c.in-NoWord.is) }

pub loop-byte-preserved : goal.loop-byte-preserved
loop-byte-preserved c =
    let s = c.loop-byte.invariant in
    let is = sym c.classify.ensures.whole in
    elim c.match-classify.branch [
      | in-Action w ↦ rw (w.kinds-is, w.depth-is) (took_action s c.loop-byte-test.true (is ∙ w.in-Action.is) w.action_kind.ensures.whole)
      | in-One+else-depth-lt1 w ↦ rw (w.kinds-is, w.depth-is) (took_one s c.loop-byte-test.true w.if-depth-lt1.false (is ∙ w.in-One.is))
      | in-Two+else-depth-lt2 w ↦ rw (w.kinds-is, w.depth-is) (took_two s c.loop-byte-test.true w.if-depth-lt2.false (is ∙ w.in-Two.is) w.join_kinds.ensures.whole)
    ]

pub returns-then-depth-eq1 : goal.returns-then-depth-eq1
returns-then-depth-eq1 c = record { whole = c.is_basic.ensures ∙ ends-basic c.loop-byte.invariant c.loop-byte-test.false c.if-depth-eq1.true }

pub returns-else-depth-eq1 : goal.returns-else-depth-eq1
returns-else-depth-eq1 c = record { whole = rw (ne_eqb _ _ c.if-depth-eq1.false) (ends_other c.loop-byte.invariant c.loop-byte-test.false c.if-depth-eq1.false) }
