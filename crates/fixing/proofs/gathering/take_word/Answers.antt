-- `fixing::gathering::take_word` meets its contract, by the word that is taken.
use Rattle.std.proofs.Common.{rules}
use mathlib.Core.Logic.{inl}
use Rattle.fixing.proofs.Steps.{action-taken, operator_passed, sum_done, parts_low}
use native.Mathlib.Omega.{arith}
use Rattle.fixing.proofs.gathering.take_word.Goals as goal

pub returns-in-64 : goal.returns-in-64
returns-in-64 c = operator_passed c.requires.1 c.requires.2 c.requires.0 c.if-stack-lt2.true (inl c.in-64.is)

pub returns-in-64-2 : goal.returns-in-64-2
returns-in-64-2 c = sum_done c.requires.1 c.requires.2 c.requires.0 c.if-stack-lt2.false c.in-64.is

pub take_action-requires : goal.take_action-requires
take_action-requires c =
    let g = c.requires.0 in
    (omega (arith, c.requires.2, c.requires.1), g.few, parts_low g, g.sizes_long, g.ends_long, g.entries_long, g.starts_long)

pub returns-in_default : goal.returns-in_default
returns-in_default c =
    let e = c.take_action.ensures in
    rw (e.0, e.1, e.2, e.3, e.4) (action-taken c.requires.1 c.requires.2 c.requires.0 (λ h. search rules) (λ h. search rules))
