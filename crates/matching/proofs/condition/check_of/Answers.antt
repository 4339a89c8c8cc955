-- The condition of a law, by its number.
use native.Mathlib.Omega.{arith}
use borrow.Author.Tests.{ne_eqb}
use Rattle.matching.specs.Check.{check_at}
use Rattle.matching.proofs.condition.check_of.Goals as goal

pub returns-in-4 : goal.returns-in-4
unfolding check_at
returns-in-4 c = rw c.in-4.is

pub returns-in-20 : goal.returns-in-20
unfolding check_at
returns-in-20 c = rw c.in-20.is

pub returns-in-21 : goal.returns-in-21
unfolding check_at
returns-in-21 c = rw c.in-21.is

pub returns-in-24 : goal.returns-in-24
unfolding check_at
returns-in-24 c = rw c.in-24.is

pub returns-in-25 : goal.returns-in-25
unfolding check_at
returns-in-25 c = rw c.in-25.is

pub returns-in_default : goal.returns-in_default
unfolding check_at
returns-in_default c = rw (ne_eqb c.args.law 4 (λ e. omega arith), ne_eqb c.args.law 20 (λ e. omega arith), ne_eqb c.args.law 21 (λ e. omega arith), ne_eqb c.args.law 24 (λ e. omega arith), ne_eqb c.args.law 25 (λ e. omega arith))
