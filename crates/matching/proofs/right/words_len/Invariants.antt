-- The words of a right side are counted. The invariant: the total and what is left come to the size of all.
use Rattle.std.proofs.Common.{◌≡◌, ◌+◌, ◌*◌, ◌≤◌, drop}
use Rattle.matching.specs.Right.{sized}
use Rattle.matching.proofs.right.words_len.Given as goal

abbrev pub invariant-loop-word : goal.invariant-loop-word
invariant-loop-word l = (l.total ≤ 65536 * l.word-index) × (l.total + sized l.letters.from l.letters.to (drop l.word-index l.words) ≡ sized l.letters.from l.letters.to l.words)
