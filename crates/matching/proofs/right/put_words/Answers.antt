-- The words of a right side are written out. The invariant: the words so far, written out, stand over the area.
use Rattle.std.proofs.Common.{refl, ◌∙◌, arith}
use lib.Seq.{take_all}
use Rattle.matching.proofs.Writing.{written_none, written-more, written-room}
use Rattle.matching.proofs.right.put_words.Goals as goal

pub loop-word-init : goal.loop-word-init
loop-word-init c = (refl, written_none c.args.entry c.args.plan.now c.args.letters.now.from c.args.letters.now.to c.args.dst.now c.args.at)

pub put_one-e-requires-clause-word_in_bounds : goal.put_one-e-requires-clause-word_in_bounds
put_one-e-requires-clause-word_in_bounds c =
    let l = c.loop-word in
    written-room c.args.words.now l.word-index (omega arith) l.invariant.0 l.invariant.1 c.requires.words_in_bounds

pub loop-word-preserved : goal.loop-word-preserved
loop-word-preserved c =
    let l = c.loop-word in
    let p = c.put_one-e in (
      p.auto.dst ∙ l.invariant.0,
      written-more c.args.words.now l.word-index (omega arith) l.invariant.0 l.invariant.1 c.requires.words_in_bounds p.ensures.0 p.ensures.1,
    )

pub returns : goal.returns
returns c =
    let l = c.loop-word in
    rw (← take_all l.word-index c.args.words.now c.loop-word-test.false) (l.invariant.1.over, l.invariant.1.reached)
