-- A pattern's words are matched. The invariant: what the words left make of the letters is what all make of none.
use Rattle.std.proofs.Common.{◌≡◌, ◌≤◌, length, drop}
use Rattle.matching.specs.Left.{match_words, no_places}
use Rattle.matching.proofs.left.match_pattern.Given as goal

abbrev pub invariant-loop-word : goal.invariant-loop-word
invariant-loop-word l =
    record {
      within : l.e ≤ length l.plan;
      same : match_words l.n l.plan (drop l.word-index l.pattern) l.e l.letters.from l.letters.to
          ≡ match_words l.n l.plan l.pattern (length l.plan) no_places no_places;
    }
