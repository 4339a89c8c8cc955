-- The right side of a law is written out with the table entry of a and b.
use Rattle.std.proofs.Common.{◌≡◌, ℕ, List}
use Rattle.tables.specs.Tables.{Tables, communication}
use Rattle.laws.specs.Laws.{law_at}
use Rattle.laws.specs.Postfix.{forth}
use Rattle.matching.specs.Check.{word_from}
use Rattle.matching.specs.Right.{spelled, spelled_law}
use Rattle.matching.proofs.put_side.Goals as goal

side_spelled : (t : Tables) (law : ℕ) (plan f g words : List ℕ) (c a b : ℕ) → words ≡ forth (law_at law).rhs → a ≡ word_from plan f 3 → b ≡ word_from plan f 4
    → c ≡ communication t a b → spelled c plan f g words ≡ spelled_law t law plan f g
unfolding spelled_law
side_spelled t law plan f g words c a b r i j e = rw (r, e, i, j)

pub put_words-requires-clause-words_in_bounds : goal.put_words-requires-clause-words_in_bounds
put_words-requires-clause-words_in_bounds c =
    rw (side_spelled c.args.tables.now c.args.law _ _ c.args.letters.now.to _ _ _ _ c.right_side.ensures c.word_at-a.ensures c.word_at-b.ensures
    c.communication_of-entry.ensures.whole)
    c.requires.to_in_bounds

pub returns : goal.returns
returns c =
    rw (side_spelled c.args.tables.now c.args.law _ _ c.args.letters.now.to _ _ _ _ c.right_side.ensures c.word_at-a.ensures c.word_at-b.ensures
    c.communication_of-entry.ensures.whole)
    at c.put_words.ensures
