-- `listing::text::Text::end_line` meets its contract: one byte written is the text written.
use native.Mathlib.Omega.{arith}
use Rattle.listing.proofs.Writing.{wrote-over}
use Rattle.listing.proofs.text.Text.end_line.Goals as goal

pub returns : goal.returns
returns c = wrote-over (omega arith) c.put_word-self.ensures.0 c.put_word-self.ensures.1
