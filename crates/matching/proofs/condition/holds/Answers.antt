-- A condition, by its case.
use Rattle.matching.specs.Check.{holds_of}
use Rattle.matching.proofs.condition.holds.Goals as goal

pub returns-in-Always : goal.returns-in-Always
unfolding holds_of
returns-in-Always c = rw (← c.check_of-check.ensures, c.in-Always.is)

pub returns-in-Same : goal.returns-in-Same
unfolding holds_of
returns-in-Same c = rw (← c.check_of-check.ensures, c.in-Same.is, c.same_letters.ensures)

pub returns-in-InSet : goal.returns-in-InSet
unfolding holds_of
returns-in-InSet c = rw (← c.check_of-check.ensures, c.in-InSet.is, c.in_set.ensures)

pub returns-in-NotInSet : goal.returns-in-NotInSet
unfolding holds_of
returns-in-NotInSet c = rw (← c.check_of-check.ensures, c.in-NotInSet.is, c.in_set-in-NotInSet.ensures)

pub returns-in-Below : goal.returns-in-Below
unfolding holds_of
returns-in-Below c = rw (← c.check_of-check.ensures, c.in-Below.is, c.a_below_b.ensures)

pub returns-in-NotBelow : goal.returns-in-NotBelow
unfolding holds_of
returns-in-NotBelow c = rw (← c.check_of-check.ensures, c.in-NotBelow.is, c.a_below_b-in-NotBelow.ensures)
