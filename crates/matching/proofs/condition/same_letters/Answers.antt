-- Letters 0 and 1 are compared, by what they reach over.
use Rattle.matching.specs.Check.{letter}
use native.Mathlib.Omega.{arith}
use Rattle.matching.proofs.condition.same_letters.Goals as goal

pub slice_bounds-same_words-count : goal.slice_bounds-same_words-count
slice_bounds-same_words-count c = c.requires.order 0 (omega arith)

pub slice_bounds-same_words-start : goal.slice_bounds-same_words-start
slice_bounds-same_words-start c = c.requires.order 0 (omega arith)

pub slice_bounds-same_words-end : goal.slice_bounds-same_words-end
slice_bounds-same_words-end c = c.requires.within 0 (omega arith)

pub slice_bounds-same_words-count-2 : goal.slice_bounds-same_words-count-2
slice_bounds-same_words-count-2 c = c.requires.order 1 (omega arith)

pub slice_bounds-same_words-start-2 : goal.slice_bounds-same_words-start-2
slice_bounds-same_words-start-2 c = c.requires.order 1 (omega arith)

pub slice_bounds-same_words-end-2 : goal.slice_bounds-same_words-end-2
slice_bounds-same_words-end-2 c = c.requires.within 1 (omega arith)

pub returns : goal.returns
unfolding letter
returns c = c.same_words.ensures
