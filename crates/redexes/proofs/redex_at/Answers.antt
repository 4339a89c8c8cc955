-- By the operator's word. Where it is none of the words that the code asks for, there is no operator at the root.
use Rattle.std.specs.Prelude.{Some}
use Prim.Native.Nat.{◌+◌, ◌-◌, ◌≤◌}
use mathlib.Core.Path.{◌≡◌, sym, ap}
use native.Mathlib.Omega.{arith}
use Rattle.tables.specs.Tables.{actions}
use Rattle.plans.specs.declared.Binary.TheVariants.{Choice, Sequence, Merge, LeftMerge, CommunicationMerge, Unless}
use Rattle.plans.specs.declared.Unary.TheVariants.{Priority, Encapsulation}
use Rattle.plans.specs.Word.{binary_word, unary_word}
use Rattle.graph.proofs.Reading.{holds-inside}
use Rattle.redexes.proofs.Redexes.{few, redex-under, one_chosen, two_chosen}
use Rattle.redexes.proofs.Roots.{first_operand, second_operand, encapsulation-word}
use Rattle.redexes.proofs.redex_at.Goals as goal

pub returns-then-word-eq64 : goal.returns-then-word-eq64
unfolding redex-under binary_word
returns-then-word-eq64 c = two_chosen c.args.tables.now c.requires.0 c.requires.2 c.choice_redex.result Choice c.if-word-eq64.true c.choice_redex.ensures

pub returns-then-word-eq66 : goal.returns-then-word-eq66
unfolding redex-under binary_word
returns-then-word-eq66 c = two_chosen c.args.tables.now c.requires.0 c.requires.2 (Some c.on_plans.result) Merge c.if-word-eq66.true (ap Some c.on_plans.ensures)

pub operand_at-p-requires : goal.operand_at-p-requires
operand_at-p-requires c =
    let few_actions : actions c.args.tables.now ≤ 31 = few c.args.tables.now c.requires.0 in
    (c.requires.1, holds-inside (first_operand c.requires.2).1 few_actions)

pub operand_at-requires : goal.operand_at-requires
operand_at-requires c =
    let few_actions : actions c.args.tables.now ≤ 31 = few c.args.tables.now c.requires.0 in
    (c.requires.1, holds-inside (second_operand c.requires.2 (omega (arith, c.in-68.is))).1 few_actions)

pub operand_at-requires-in-69 : goal.operand_at-requires-in-69
operand_at-requires-in-69 c =
    let few_actions : actions c.args.tables.now ≤ 31 = few c.args.tables.now c.requires.0 in
    (c.requires.1, holds-inside (second_operand c.requires.2 (omega (arith, c.in-69.is))).1 few_actions)

pub returns-in-65 : goal.returns-in-65
unfolding redex-under binary_word
returns-in-65 c = two_chosen c.args.tables.now c.requires.0 c.requires.2 c.sequence_redex.result Sequence c.in-65.is (rw (c.sequence_redex.ensures, c.operand_at-p.ensures))

pub returns-in-67 : goal.returns-in-67
unfolding redex-under binary_word
returns-in-67 c = two_chosen c.args.tables.now c.requires.0 c.requires.2 c.left_merge_redex.result LeftMerge c.in-67.is (rw (c.left_merge_redex.ensures, c.operand_at-p.ensures))

pub returns-in-68 : goal.returns-in-68
unfolding redex-under binary_word
returns-in-68 c = two_chosen c.args.tables.now c.requires.0 c.requires.2 c.communication_redex.result CommunicationMerge c.in-68.is (rw (c.communication_redex.ensures, c.operand_at.ensures, c.operand_at-p.ensures))

pub returns-in-69 : goal.returns-in-69
unfolding redex-under binary_word
returns-in-69 c = two_chosen c.args.tables.now c.requires.0 c.requires.2 c.unless_redex.result Unless c.in-69.is (rw (c.unless_redex.ensures, c.operand_at-in-69.ensures, c.operand_at-p.ensures))

pub returns-in-70 : goal.returns-in-70
unfolding redex-under unary_word
returns-in-70 c = one_chosen c.args.tables.now c.requires.0 c.requires.2 c.priority_redex.result Priority tt c.in-70.is (rw (c.priority_redex.ensures, c.operand_at-p.ensures))

pub returns-in-80-to-87 : goal.returns-in-80-to-87
unfolding redex-under unary_word
returns-in-80-to-87 c =
    let e : 80 + (c.args.word - 80) ≡ c.args.word = omega arith in
    one_chosen c.args.tables.now c.requires.0 c.requires.2 c.encapsulation_redex.result (Encapsulation (c.args.word - 80)) (omega arith) (sym e)
    (rw (e, c.encapsulation_redex.ensures, c.operand_at-p.ensures))

pub returns-in_default : goal.returns-in_default
returns-in_default c =
    let w = encapsulation-word c.requires.2 c.if-word-eq64.false c.if-word-eq66.false (λ e. omega arith) (λ e. omega arith) (λ e. omega arith) (λ e. omega arith) (λ e. omega arith) in
    absurd (omega (arith, w.0))

pub returns-in_default-2 : goal.returns-in_default-2
returns-in_default-2 c =
    let w = encapsulation-word c.requires.2 c.if-word-eq64.false c.if-word-eq66.false (λ e. omega arith) (λ e. omega arith) (λ e. omega arith) (λ e. omega arith) (λ e. omega arith) in
    absurd (omega (arith, w.1))
