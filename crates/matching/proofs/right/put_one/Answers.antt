-- What one word comes to is written over the area, by the tests on the word.
use mathlib.Core.Path.{ap}
use lib.ListN.{length}
use Rattle.matching.specs.Check.{letter}
use Rattle.matching.proofs.Building.{one_word, one-letter, one_entry}
use native.Mathlib.Omega.{arith}
use Rattle.matching.proofs.right.put_one.Goals as goal

pub put_word-requires : goal.put_word-requires
put_word-requires c = omega (arith, ap length (one_word c.args.entry c.args.plan.now c.args.letters.now.from c.args.letters.now.to c.args.word c.if-word-lt96.true), c.requires.word_in_bounds)

pub returns-then-word-lt96 : goal.returns-then-word-lt96
returns-then-word-lt96 c = rw (one_word c.args.entry c.args.plan.now c.args.letters.now.from c.args.letters.now.to c.args.word c.if-word-lt96.true) c.put_word.ensures

pub slice_bounds-copy_in-count : goal.slice_bounds-copy_in-count
slice_bounds-copy_in-count c = c.requires.reaches.order _ (omega arith)

pub slice_bounds-copy_in-start : goal.slice_bounds-copy_in-start
slice_bounds-copy_in-start c = c.requires.reaches.order _ (omega arith)

pub slice_bounds-copy_in-end : goal.slice_bounds-copy_in-end
slice_bounds-copy_in-end c = c.requires.reaches.within _ (omega arith)

pub copy_in-requires : goal.copy_in-requires
unfolding letter
copy_in-requires c = omega (arith, ap length (one-letter c.args.entry c.args.plan.now c.args.letters.now.from c.args.letters.now.to c.args.word (omega arith) (omega arith)), c.requires.word_in_bounds)

pub returns-then-word-lt102 : goal.returns-then-word-lt102
unfolding letter
returns-then-word-lt102 c = rw (one-letter c.args.entry c.args.plan.now c.args.letters.now.from c.args.letters.now.to c.args.word (omega arith) (omega arith)) c.copy_in.ensures

pub put_word-requires-2 : goal.put_word-requires-2
put_word-requires-2 c = omega (arith, ap length (one_entry c.args.entry c.args.plan.now c.args.letters.now.from c.args.letters.now.to c.args.word c.if-word-lt102.false), c.requires.word_in_bounds)

pub returns : goal.returns
returns c = rw (one_entry c.args.entry c.args.plan.now c.args.letters.now.from c.args.letters.now.to c.args.word c.if-word-lt102.false) c.put_word-2.ensures
