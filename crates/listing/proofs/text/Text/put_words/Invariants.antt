-- `listing::text::Text::put_words` meets its contract. The invariant: what is written so far, and then the words left with the end of their line, are the
-- whole text.
use Rattle.listing.specs.Listing.{words_line}
use Rattle.listing.proofs.Turns.{words_left}
use Rattle.listing.proofs.Writing.{Left}
use Rattle.listing.proofs.text.Text.put_words.Given as goal

abbrev pub invariant-loop-word : goal.invariant-loop-word
invariant-loop-word l = Left l.fn.self.bytes l.fn.self.size (words_line l.plan) l.self.bytes l.self.size (words_left l.others l.word-index)
