-- The words of a right side are counted. The invariant: the total and what is left come to the size of all.
use Rattle.std.proofs.Common.{arith}
use Rattle.matching.proofs.Building.{size-more, size-end}
use Rattle.matching.proofs.right.words_len.Goals as goal

pub loop-word-preserved : goal.loop-word-preserved
loop-word-preserved c =
    let s = size-more c.args.letters.now.from c.args.letters.now.to c.args.words.now c.loop-word.word-index (omega arith) in
    (omega arith, omega (arith, s, c.word_len-total.ensures.0))

pub returns : goal.returns
returns c = omega (arith, size-end c.args.letters.now.from c.args.letters.now.to c.args.words.now c.loop-word.word-index c.loop-word-test.false)
