-- The words of a right side are written out. The invariant: the words so far, written out, stand over the area.
use Rattle.std.proofs.Common.{◌≡◌, length, take}
use Rattle.matching.proofs.Writing.{Written}
use Rattle.matching.proofs.right.put_words.Given as goal

abbrev pub invariant-loop-word : goal.invariant-loop-word
invariant-loop-word l =
    (length l.dst ≡ length l.initial.dst) × Written l.entry l.plan l.letters.from l.letters.to l.initial.dst l.at (take l.word-index l.words) l.dst l.e
