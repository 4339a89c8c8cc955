-- `listing::text::Text::put_first` meets its contract: five labelled numbers and the end of the line, one after another.
use Rattle.listing.specs.Listing.{first_line}
use Rattle.listing.proofs.Lengths.{first_short}
use Rattle.listing.proofs.Writing.{left_all, left_less, left-last, wrote-within}
use Rattle.listing.proofs.text.Text.put_first.Goals as goal

pub returns : goal.returns
unfolding first_line
returns c =
    let s = c.args in
    let one = left_less (left_all s.self.now.bytes s.self.now.size (first_line s.number s.steps s.size s.counts)) c.put_labelled.ensures in
    let two = left_less one c.put_labelled-2.ensures in
    let three = left_less two c.put_labelled-3.ensures in
    let four = left_less three c.put_labelled-4.ensures in
    let five = left_less four c.put_labelled-5.ensures in
    let w = left-last five c.end_line.ensures in
    (w, wrote-within 133 w (first_short s.number s.steps s.size s.counts))
