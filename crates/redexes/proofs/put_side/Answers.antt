-- Each law's line has the entries of the law's own right side, as antt computes them.
use native.Mathlib.Omega.{arith}
use Rattle.plans.specs.Word.{binary_word}
use Rattle.laws.specs.Laws.{law_at, laws}
use Rattle.laws.specs.Postfix.{forth}
use Rattle.redexes.specs.Slots.{entry_for, entries_for, side_entries}
use Rattle.redexes.proofs.Entries.{last_law}
use Rattle.redexes.proofs.put_side.Goals as goal

pub put_entries-requires : goal.put_entries-requires
unfolding side_entries entries_for entry_for forth law_at laws binary_word
put_entries-requires c = (omega arith, c.requires.first_choice_le_law.2, rw c.in-5.is at c.requires.put_ready)

pub put_entries-requires-in-6 : goal.put_entries-requires-in-6
unfolding side_entries entries_for entry_for forth law_at laws binary_word
put_entries-requires-in-6 c = (omega arith, c.requires.first_choice_le_law.2, rw c.in-6.is at c.requires.put_ready)

pub put_entries-requires-in-7 : goal.put_entries-requires-in-7
unfolding side_entries entries_for entry_for forth law_at laws binary_word
put_entries-requires-in-7 c = (omega arith, c.requires.first_choice_le_law.2, rw c.in-7.is at c.requires.put_ready)

pub put_entries-requires-in-8 : goal.put_entries-requires-in-8
unfolding side_entries entries_for entry_for forth law_at laws binary_word
put_entries-requires-in-8 c = (omega arith, c.requires.first_choice_le_law.2, rw c.in-8.is at c.requires.put_ready)

pub put_entries-requires-in-9 : goal.put_entries-requires-in-9
unfolding side_entries entries_for entry_for forth law_at laws binary_word
put_entries-requires-in-9 c = (omega arith, c.requires.first_choice_le_law.2, rw c.in-9.is at c.requires.put_ready)

pub put_entries-requires-in-10 : goal.put_entries-requires-in-10
unfolding side_entries entries_for entry_for forth law_at laws binary_word
put_entries-requires-in-10 c = (omega arith, c.requires.first_choice_le_law.2, rw c.communication_of-c.ensures.whole (rw c.in-10.is at c.requires.put_ready))

pub put_entries-requires-in-11 : goal.put_entries-requires-in-11
unfolding side_entries entries_for entry_for forth law_at laws binary_word
put_entries-requires-in-11 c = (omega arith, c.requires.first_choice_le_law.2, rw c.in-11.is at c.requires.put_ready)

pub put_entries-requires-in-12 : goal.put_entries-requires-in-12
unfolding side_entries entries_for entry_for forth law_at laws binary_word
put_entries-requires-in-12 c = (omega arith, c.requires.first_choice_le_law.2, rw c.in-12.is at c.requires.put_ready)

pub put_entries-requires-in-13 : goal.put_entries-requires-in-13
unfolding side_entries entries_for entry_for forth law_at laws binary_word
put_entries-requires-in-13 c = (omega arith, c.requires.first_choice_le_law.2, rw c.in-13.is at c.requires.put_ready)

pub put_entries-requires-in-14 : goal.put_entries-requires-in-14
unfolding side_entries entries_for entry_for forth law_at laws binary_word
put_entries-requires-in-14 c = (omega arith, c.requires.first_choice_le_law.2, rw c.in-14.is at c.requires.put_ready)

pub put_entries-requires-in-15 : goal.put_entries-requires-in-15
unfolding side_entries entries_for entry_for forth law_at laws binary_word
put_entries-requires-in-15 c = (omega arith, c.requires.first_choice_le_law.2, rw c.in-15.is at c.requires.put_ready)

pub put_entries-requires-in-16 : goal.put_entries-requires-in-16
unfolding side_entries entries_for entry_for forth law_at laws binary_word
put_entries-requires-in-16 c = (omega arith, c.requires.first_choice_le_law.2, rw c.in-16.is at c.requires.put_ready)

pub put_entries-requires-in-17 : goal.put_entries-requires-in-17
unfolding side_entries entries_for entry_for forth law_at laws binary_word
put_entries-requires-in-17 c = (omega arith, c.requires.first_choice_le_law.2, rw c.in-17.is at c.requires.put_ready)

pub put_entries-requires-in-18 : goal.put_entries-requires-in-18
unfolding side_entries entries_for entry_for forth law_at laws binary_word
put_entries-requires-in-18 c = (omega arith, c.requires.first_choice_le_law.2, rw c.in-18.is at c.requires.put_ready)

pub put_entries-requires-in-19 : goal.put_entries-requires-in-19
unfolding side_entries entries_for entry_for forth law_at laws binary_word
put_entries-requires-in-19 c = (omega arith, c.requires.first_choice_le_law.2, rw c.in-19.is at c.requires.put_ready)

pub put_entries-requires-in-20 : goal.put_entries-requires-in-20
unfolding side_entries entries_for entry_for forth law_at laws binary_word
put_entries-requires-in-20 c = (omega arith, c.requires.first_choice_le_law.2, rw c.in-20.is at c.requires.put_ready)

pub put_entries-requires-in-21 : goal.put_entries-requires-in-21
unfolding side_entries entries_for entry_for forth law_at laws binary_word
put_entries-requires-in-21 c = (omega arith, c.requires.first_choice_le_law.2, rw c.in-21.is at c.requires.put_ready)

pub put_entries-requires-in-22 : goal.put_entries-requires-in-22
unfolding side_entries entries_for entry_for forth law_at laws binary_word
put_entries-requires-in-22 c = (omega arith, c.requires.first_choice_le_law.2, rw c.in-22.is at c.requires.put_ready)

pub put_entries-requires-in-23 : goal.put_entries-requires-in-23
unfolding side_entries entries_for entry_for forth law_at laws binary_word
put_entries-requires-in-23 c = (omega arith, c.requires.first_choice_le_law.2, rw c.in-23.is at c.requires.put_ready)

pub put_entries-requires-in-24 : goal.put_entries-requires-in-24
unfolding side_entries entries_for entry_for forth law_at laws binary_word
put_entries-requires-in-24 c = (omega arith, c.requires.first_choice_le_law.2, rw c.in-24.is at c.requires.put_ready)

pub put_entries-requires-in-25 : goal.put_entries-requires-in-25
unfolding side_entries entries_for entry_for forth law_at laws binary_word
put_entries-requires-in-25 c = (omega arith, c.requires.first_choice_le_law.2, rw c.in-25.is at c.requires.put_ready)

pub put_entries-requires-in-26 : goal.put_entries-requires-in-26
unfolding side_entries entries_for entry_for forth law_at laws binary_word
put_entries-requires-in-26 c = (omega arith, c.requires.first_choice_le_law.2, rw c.in-26.is at c.requires.put_ready)

pub put_entries-requires-in-27 : goal.put_entries-requires-in-27
unfolding side_entries entries_for entry_for forth law_at laws binary_word
put_entries-requires-in-27 c = (omega arith, c.requires.first_choice_le_law.2, rw c.in-27.is at c.requires.put_ready)

pub put_entries-requires-in-28 : goal.put_entries-requires-in-28
unfolding side_entries entries_for entry_for forth law_at laws binary_word
put_entries-requires-in-28 c = (omega arith, c.requires.first_choice_le_law.2, rw c.in-28.is at c.requires.put_ready)

pub put_entries-requires-in-29 : goal.put_entries-requires-in-29
unfolding side_entries entries_for entry_for forth law_at laws binary_word
put_entries-requires-in-29 c = (omega arith, c.requires.first_choice_le_law.2, rw c.in-29.is at c.requires.put_ready)

pub put_entries-requires-in-30 : goal.put_entries-requires-in-30
unfolding side_entries entries_for entry_for forth law_at laws binary_word
put_entries-requires-in-30 c = (omega arith, c.requires.first_choice_le_law.2, rw c.in-30.is at c.requires.put_ready)

pub put_entries-requires-in-31 : goal.put_entries-requires-in-31
unfolding side_entries entries_for entry_for forth law_at laws binary_word
put_entries-requires-in-31 c = (omega arith, c.requires.first_choice_le_law.2, rw c.in-31.is at c.requires.put_ready)

pub put_entries-requires-in_default : goal.put_entries-requires-in_default
unfolding side_entries entries_for entry_for forth law_at laws binary_word
put_entries-requires-in_default c = (omega arith, c.requires.first_choice_le_law.2, rw (last_law _ c.requires.first_choice_le_law.0 c.requires.first_choice_le_law.1 (omega arith)) at c.requires.put_ready)

pub returns-in-5 : goal.returns-in-5
unfolding side_entries entries_for entry_for forth law_at laws binary_word
returns-in-5 c = rw c.in-5.is c.put_entries.ensures

pub returns-in-6 : goal.returns-in-6
unfolding side_entries entries_for entry_for forth law_at laws binary_word
returns-in-6 c = rw c.in-6.is c.put_entries-in-6.ensures

pub returns-in-7 : goal.returns-in-7
unfolding side_entries entries_for entry_for forth law_at laws binary_word
returns-in-7 c = rw c.in-7.is c.put_entries-in-7.ensures

pub returns-in-8 : goal.returns-in-8
unfolding side_entries entries_for entry_for forth law_at laws binary_word
returns-in-8 c = rw c.in-8.is c.put_entries-in-8.ensures

pub returns-in-9 : goal.returns-in-9
unfolding side_entries entries_for entry_for forth law_at laws binary_word
returns-in-9 c = rw c.in-9.is c.put_entries-in-9.ensures

pub returns-in-10 : goal.returns-in-10
unfolding side_entries entries_for entry_for forth law_at laws binary_word
returns-in-10 c = rw (c.in-10.is, ← c.communication_of-c.ensures.whole) c.put_entries-in-10.ensures

pub returns-in-11 : goal.returns-in-11
unfolding side_entries entries_for entry_for forth law_at laws binary_word
returns-in-11 c = rw c.in-11.is c.put_entries-in-11.ensures

pub returns-in-12 : goal.returns-in-12
unfolding side_entries entries_for entry_for forth law_at laws binary_word
returns-in-12 c = rw c.in-12.is c.put_entries-in-12.ensures

pub returns-in-13 : goal.returns-in-13
unfolding side_entries entries_for entry_for forth law_at laws binary_word
returns-in-13 c = rw c.in-13.is c.put_entries-in-13.ensures

pub returns-in-14 : goal.returns-in-14
unfolding side_entries entries_for entry_for forth law_at laws binary_word
returns-in-14 c = rw c.in-14.is c.put_entries-in-14.ensures

pub returns-in-15 : goal.returns-in-15
unfolding side_entries entries_for entry_for forth law_at laws binary_word
returns-in-15 c = rw c.in-15.is c.put_entries-in-15.ensures

pub returns-in-16 : goal.returns-in-16
unfolding side_entries entries_for entry_for forth law_at laws binary_word
returns-in-16 c = rw c.in-16.is c.put_entries-in-16.ensures

pub returns-in-17 : goal.returns-in-17
unfolding side_entries entries_for entry_for forth law_at laws binary_word
returns-in-17 c = rw c.in-17.is c.put_entries-in-17.ensures

pub returns-in-18 : goal.returns-in-18
unfolding side_entries entries_for entry_for forth law_at laws binary_word
returns-in-18 c = rw c.in-18.is c.put_entries-in-18.ensures

pub returns-in-19 : goal.returns-in-19
unfolding side_entries entries_for entry_for forth law_at laws binary_word
returns-in-19 c = rw c.in-19.is c.put_entries-in-19.ensures

pub returns-in-20 : goal.returns-in-20
unfolding side_entries entries_for entry_for forth law_at laws binary_word
returns-in-20 c = rw c.in-20.is c.put_entries-in-20.ensures

pub returns-in-21 : goal.returns-in-21
unfolding side_entries entries_for entry_for forth law_at laws binary_word
returns-in-21 c = rw c.in-21.is c.put_entries-in-21.ensures

pub returns-in-22 : goal.returns-in-22
unfolding side_entries entries_for entry_for forth law_at laws binary_word
returns-in-22 c = rw c.in-22.is c.put_entries-in-22.ensures

pub returns-in-23 : goal.returns-in-23
unfolding side_entries entries_for entry_for forth law_at laws binary_word
returns-in-23 c = rw c.in-23.is c.put_entries-in-23.ensures

pub returns-in-24 : goal.returns-in-24
unfolding side_entries entries_for entry_for forth law_at laws binary_word
returns-in-24 c = rw c.in-24.is c.put_entries-in-24.ensures

pub returns-in-25 : goal.returns-in-25
unfolding side_entries entries_for entry_for forth law_at laws binary_word
returns-in-25 c = rw c.in-25.is c.put_entries-in-25.ensures

pub returns-in-26 : goal.returns-in-26
unfolding side_entries entries_for entry_for forth law_at laws binary_word
returns-in-26 c = rw c.in-26.is c.put_entries-in-26.ensures

pub returns-in-27 : goal.returns-in-27
unfolding side_entries entries_for entry_for forth law_at laws binary_word
returns-in-27 c = rw c.in-27.is c.put_entries-in-27.ensures

pub returns-in-28 : goal.returns-in-28
unfolding side_entries entries_for entry_for forth law_at laws binary_word
returns-in-28 c = rw c.in-28.is c.put_entries-in-28.ensures

pub returns-in-29 : goal.returns-in-29
unfolding side_entries entries_for entry_for forth law_at laws binary_word
returns-in-29 c = rw c.in-29.is c.put_entries-in-29.ensures

pub returns-in-30 : goal.returns-in-30
unfolding side_entries entries_for entry_for forth law_at laws binary_word
returns-in-30 c = rw c.in-30.is c.put_entries-in-30.ensures

pub returns-in-31 : goal.returns-in-31
unfolding side_entries entries_for entry_for forth law_at laws binary_word
returns-in-31 c = rw c.in-31.is c.put_entries-in-31.ensures

pub returns-in_default : goal.returns-in_default
unfolding side_entries entries_for entry_for forth law_at laws binary_word
returns-in_default c = rw (last_law _ c.requires.first_choice_le_law.0 c.requires.first_choice_le_law.1 (omega arith)) c.put_entries-in_default.ensures
